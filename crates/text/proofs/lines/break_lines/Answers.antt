-- Each refusal by its test, and nothing written; else the count and the starts. Assumes nothing.
use mathlib.Core.Path.{sym, ap, ap₂, ◌∙◌}
use mathlib.Core.List.{List, ◌++◌}
use Prim.Native.Nat.{ℕ}
use native.Mathlib.Omega.{arith}
use lib.ListN.{drop}
use Rattle.text.specs.Refusal.{accepted}
use Rattle.text.proofs.LineStarts.{ill_formed, too_long, too_wide, too_small, served}
use Rattle.text.proofs.LineParts.{starts_length}
use Rattle.text.proofs.lines.break_lines.Goals as goal

pub returns-then-not-is_utf8 : goal.returns-then-not-is_utf8
returns-then-not-is_utf8 c = ill_formed _ _ _ (sym c.is_utf8.ensures ∙ c.if-not-is_utf8.true)

pub returns-then-s-gt1024 : goal.returns-then-s-gt1024
returns-then-s-gt1024 c = too_long _ _ _ (sym c.is_utf8.ensures ∙ c.if-not-is_utf8.false) c.if-s-gt1024.true

pub returns-then-width-c : goal.returns-then-width-c
returns-then-width-c c =
    too_wide c.args.s.now c.args.width c.args.starts.now (sym c.is_utf8.ensures ∙ c.if-not-is_utf8.false) c.if-s-gt1024.false
    (omega (arith, c.counted-c.ensures.1))

pub returns-then-starts-c : goal.returns-then-starts-c
returns-then-starts-c c =
    too_small c.args.s.now c.args.width c.args.starts.now (sym c.is_utf8.ensures ∙ c.if-not-is_utf8.false) c.if-s-gt1024.false
    (omega (arith, c.counted-c.ensures.1)) (omega (arith, c.counted-c.ensures.0))

pub returns : goal.returns
returns c =
    let m = c.counted-c.ensures in
    let r = served c.args.s.now c.args.width c.args.starts.now (sym c.is_utf8.ensures ∙ c.if-not-is_utf8.false) c.if-s-gt1024.false
    (omega (arith, m.1)) (omega (arith, m.0)) in (
      ap accepted m.0 ∙ r.0,
      ap₂ (λ (a : List ℕ) (k : ℕ). a ++ drop k c.args.starts.now) c.write_starts.ensures (m.0 ∙ sym (starts_length _ 0)) ∙ r.1,
    )
