use mathlib.Core.Path.{◌≡◌, refl, sym, ap, ◌∙◌}
use mathlib.Core.List.{List}
use Prim.Native.Nat.{ℕ, ◌≤◌}
use native.Mathlib.Numerals.{add-one}
use native.Mathlib.Omega.{arith}
use lib.ListN.{length}
use Rattle.text.specs.LineStarts.{starts_from}
use Rattle.text.specs.Support.LineParts.{lines_from}
use Rattle.text.proofs.LineParts.{one_line_more, lines_left, over_at, over_turn, over_whole, over_nothing, starts_length}
use Rattle.text.proofs.lines.Label.write_starts.Goals as goal

pub loop-place-init : goal.loop-place-init
loop-place-init c = (omega arith, refl)

pub line-at-requires : goal.line-at-requires
line-at-requires c = lines_left c.args.self.now.width c.loop-place.at c.args.self.now.bytes.now (omega (arith, c.loop-place.invariant.0, c.requires))

pub overflow_cast-place : goal.overflow_cast-place
overflow_cast-place c = let h : c.loop-place.at ≤ length c.args.self.now.bytes.now = lines_left c.args.self.now.width c.loop-place.at c.args.self.now.bytes.now (omega (arith, c.loop-place.invariant.0, c.requires)) in omega (arith, c.args.self.now.short)

pub loop-place-preserved : goal.loop-place-preserved
unfolding starts_from
loop-place-preserved c =
    let s : List ℕ = c.args.self.now.bytes.now in
    let w : ℕ = c.args.self.now.width in
    let v = c.loop-place.invariant in
    let n : ℕ = c.loop-place.place-index in
    let at : ℕ = c.loop-place.at in
    let old : List ℕ = c.loop-place.starts in
    let e = one_line_more w at s (lines_left w at s (omega (arith, v.0, c.requires))) in
    rw c.line-at.ensures.ends (
      omega (arith, ap length e, v.0),
      rw add-one (over_turn n at _ old (omega arith) ∙ ap (λ (l : List (List ℕ)). over_at n (starts_from at l) old) (sym e) ∙ v.1),
    )

pub returns : goal.returns
returns c =
    let s : List ℕ = c.args.self.now.bytes.now in
    let w : ℕ = c.args.self.now.width in
    let n : ℕ = c.loop-place.place-index in
    let at : ℕ = c.loop-place.at in
    let new : List ℕ = c.loop-place.starts in
    let done : length (lines_from w at s) ≡ 0 = omega (arith, c.loop-place.invariant.0, c.requires) in
    sym (over_nothing n new _ (starts_length (lines_from w at s) at ∙ done)) ∙ c.loop-place.invariant.1
    ∙ over_whole _ _ (starts_length (lines_from w 0 s) 0 ∙ c.requires)
