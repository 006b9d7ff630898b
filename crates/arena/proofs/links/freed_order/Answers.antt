-- The walk from none, and what is listed is the first 128 of the order. Assumes nothing.
use Rattle.std.proofs.Common.{ap, ◌∙◌}
use Rattle.arena.specs.Support.Lists.{added_all, back_order, walked}
use Rattle.arena.specs.declared.listed.Listed.{Listed}
use Rattle.arena.proofs.Checks.ListLaws.{listed_by_a_walk}
use Rattle.arena.proofs.links.freed_order.Goals as goal

pub returns : goal.returns
unfolding walked
returns c =
    let l = back_order 128 c.args.slots.now c.args.node in
    listed_by_a_walk _ l (c.list_freed.ensures ∙ ap (λ (o : Listed 128). added_all o l) c.new-order.ensures)
