-- Assumes nothing.
use Rattle.std.proofs.Common.{rules, ◌≡◌, ℕ, ◌+◌, ◌-◌, ◌<◌, Bool, cond, sym, ap, ◌∙◌, arith}
use Rattle.arena.specs.Slots.{at, chain}
use Rattle.boxes.specs.Styles.{layout_at}
use Rattle.boxes.specs.Hit.{last_of, holds_at}
use Rattle.arena.proofs.Forests.ChainLaws.{chain_none, chain_spent}
use Rattle.boxes.proofs.Hits.HitSteps.{kids_whole, last_more, last_end, picked_small}
use Rattle.boxes.proofs.input.last_holding.Goals as goal
use Rattle.boxes.proofs.input.last_holding.Goals.{then-contains, else-contains}

pub loop-init : goal.loop-init
unfolding at
loop-init c = (c.requires, kids_whole _ _ _ _)

pub loop-preserved : goal.loop-preserved
unfolding at holds_at layout_at
loop-preserved c =
    let l = c.loop in
    let a = c.args in
    let s = a.slots.now in
    let p : ℕ → Bool = holds_at a.layout.now a.pixel in
    let h : l.child < 128 = search rules in
    let e : c.if-contains.found ≡ cond (p l.child) l.child l.found =
    elim c.if-contains.branch [
      | then-contains w ↦ w.found-is ∙ ap (λ (b : Bool). cond b l.child l.found) (sym (sym c.contains.ensures ∙ w.if-contains.true))
      | else-contains w ↦ w.found-is ∙ ap (λ (b : Bool). cond b l.child l.found) (sym (sym c.contains.ensures ∙ w.if-contains.false))
    ] in
    let n : 128 - (l.counter + 1) ≡ 128 - l.counter - 1 = omega arith in (
      picked_small (p l.child) _ _ e h l.invariant.0,
      ap (λ (k : ℕ). last_of p c.if-contains.found (chain k s (at s l.child).next_sibling)) n
          ∙ last_more p s (128 - l.counter) l.child l.found (λ z. absurd (omega (arith, z, c.loop-test.true))) h e
          ∙ l.invariant.1,
    )

pub returns-after-loop : goal.returns-after-loop
returns-after-loop c =
    let l = c.loop in
    let s = c.args.slots.now in
    (l.invariant.0, last_end (holds_at c.args.layout.now c.args.pixel) s (128 - l.counter) l.child l.found (chain_spent s _ _ (omega (arith, c.loop-test.false))) ∙ l.invariant.1)

pub returns-then-child-ge128 : goal.returns-then-child-ge128
returns-then-child-ge128 c =
    let l = c.loop in
    let s = c.args.slots.now in
    (l.invariant.0, last_end (holds_at c.args.layout.now c.args.pixel) s (128 - l.counter) l.child l.found (chain_none s _ _ c.if-child-ge128.true) ∙ l.invariant.1)
