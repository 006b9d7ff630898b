-- The walk and the definition fall together in depth; what is left of the children lists the rest. Assumes nothing.
use Rattle.std.proofs.Common.{◌≡◌, ◌-◌}
use Rattle.arena.specs.Slots.{joined}
use Rattle.arena.specs.Support.Lists.{added_all, chain_back, back_order}
use Rattle.arena.proofs.links.+list_freed.Given as goal

abbrev pub decreases-list_freed : goal.decreases-list_freed
decreases-list_freed l = l.depth

abbrev pub invariant-loop : goal.invariant-loop
invariant-loop l =
    added_all l.order (joined (back_order (l.depth - 1) l.slots) (chain_back (128 - l.counter) l.slots l.child)) ≡ added_all l.initial.order (joined (back_order (l.depth - 1) l.slots) (chain_back 128 l.slots l.initial.child))
