use Rattle.std.proofs.Common.{refl, ap, ◌∙◌, arith}
use Rattle.arena.specs.declared.listed.Listed.{Listed}
use Rattle.arena.specs.Support.Lists.{added}
use Rattle.arena.proofs.Checks.WalkLaws.{reaching_start, reaching_more, reaching_done}
use Rattle.arena.proofs.rules.reach_root.Goals as goal

pub loop-at-init : goal.loop-at-init
loop-at-init c = reaching_start c.args.slots.now 0 (omega arith) (c.push.ensures ∙ ap (λ (o : Listed 128). added o 0) c.new-order.ensures)

pub loop-at-preserved : goal.loop-at-preserved
loop-at-preserved c =
    let l = c.loop-at in
    let w = c.list_children-well in
    reaching_more c.args.slots.now 0 l.order l.at l.well l.invariant c.loop-at-test.true refl w.ensures.0 w.ensures.1

pub returns : goal.returns
returns c = let l = c.loop-at in
    let d = reaching_done c.args.slots.now 0 l.order l.at l.well l.invariant c.loop-at-test.false in
    (l.invariant.0.1, l.invariant.1, d.0, d.1)
