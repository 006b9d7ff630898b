-- Assumes nothing.
use mathlib.Core.List.{List, [], ◌∷◌, ◌++◌}
use mathlib.Core.Path.{◌≡◌, refl, sym, ◌∙◌, ap}
use borrow.Author.Rules.{rules}
use Rattle.boxes.proofs.Layouts.Passes.{measured_none, measured_last, small_front}
use Rattle.boxes.proofs.Layouts.PassSteps.{summing_more, summing_done, measured}
use Rattle.boxes.specs.declared.LayoutSlot.{LayoutSlot}
use Rattle.boxes.specs.Styles.{layout_at}
use Rattle.arena.specs.Slots.{kids_at, at}
use Rattle.boxes.specs.Layout.{measure_all}
use Rattle.boxes.proofs.layout.measure_all.Goals as goal

pub loop-id-init : goal.loop-id-init
loop-id-init c = let e : c.into_iter-id-iterator.result.iter.rest.now ≡ c.args.ids.now = search rules in rw e (refl, c.requires)

pub loop-child-preserved : goal.loop-child-preserved
unfolding at layout_at
loop-child-preserved c = summing_more c.loop-child.invariant c.loop-child-test.true c.with_child-sum.ensures

pub loop-id-preserved : goal.loop-id-preserved
unfolding kids_at at layout_at
loop-id-preserved c =
    let l = c.loop-id in
    let s = c.args.slots.now in
    let i = c.in-Some.id.now in
    let rest = c.next.new.self.iter.rest.now in
    let e : l.id-iterator.iter.rest.now ≡ rest ++ i ∷ [] = c.in-Some.ensures.steps in
    let sums = summing_done (layout_at l.layout i).style refl c.loop-child.invariant c.loop-child-test.false in (
      ap (λ (x : List LayoutSlot). measure_all s x rest) (measured s l.layout i c.with_wants.result _ c.with_wants.ensures (c.want-e.ensures _ sums))
          ∙ sym (measured_last s l.layout rest i)
          ∙ ap (measure_all s l.layout) (sym e)
          ∙ l.invariant.0,
      small_front rest i (rw e at l.invariant.1),
    )

pub returns : goal.returns
returns c = measured_none c.args.slots.now c.loop-id.layout c.loop-id.id-iterator.iter.rest.now c.in-None.ensures.steps.0 ∙ c.loop-id.invariant.0
