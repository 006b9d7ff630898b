-- Assumes nothing.
use Rattle.std.proofs.Common.{◌≡◌, ℕ, ◌+◌, ◌-◌, Bool, sym, ap, ◌∙◌, arith}
use Rattle.boxes.specs.Hit.{descend, holds_at}
use Rattle.boxes.proofs.Hits.HitSteps.{descend_stays, descend_more, descend_ends}
use Rattle.boxes.proofs.input.descend.Goals as goal

pub returns-then-found-at : goal.returns-then-found-at
returns-then-found-at c =
    let l = c.loop in
    sym (descend_stays (holds_at c.args.layout.now c.args.pixel) (128 - l.counter) c.args.slots.now l.at (sym c.last_holding-found.ensures.1 ∙ c.if-found-at.true)) ∙ l.invariant.1

pub loop-preserved : goal.loop-preserved
loop-preserved c =
    let l = c.loop in
    let s = c.args.slots.now in
    let p : ℕ → Bool = holds_at c.args.layout.now c.args.pixel in
    let f = c.last_holding-found in
    let n : 128 - (l.counter + 1) ≡ 128 - l.counter - 1 = omega arith in (
      f.ensures.0,
      ap (λ (k : ℕ). descend p k s f.result) n
          ∙ ap (descend p (128 - l.counter - 1) s) f.ensures.1
          ∙ sym (descend_more p (128 - l.counter) s l.at (omega (arith, c.loop-test.true)))
          ∙ l.invariant.1,
    )

pub returns : goal.returns
returns c =
    let l = c.loop in
    sym (descend_ends (holds_at c.args.layout.now c.args.pixel) (128 - l.counter) c.args.slots.now l.at (omega (arith, c.loop-test.false))) ∙ l.invariant.1
