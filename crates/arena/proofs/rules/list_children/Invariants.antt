-- The children are listed up to `child`: what is left of them gives the whole list, and what is left to check the whole check. Assumes nothing.
use Rattle.std.proofs.Common.{◌-◌}
use Rattle.arena.proofs.Checks.WalkLaws.{Passing}
use Rattle.arena.proofs.rules.list_children.Given as goal

abbrev pub invariant-loop : goal.invariant-loop
invariant-loop l = Passing l.slots l.node l.initial.order l.order l.child l.prev (128 - l.counter) l.well
