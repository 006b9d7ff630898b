-- The chain is listed up to slot i: what is left of it gives the whole list, and what is left to check the whole check. Assumes nothing.
use Rattle.std.proofs.Common.{◌-◌}
use Rattle.arena.proofs.Checks.WalkLaws.{Chained}
use Rattle.arena.proofs.rules.free_chain.Given as goal

abbrev pub invariant-loop : goal.invariant-loop
invariant-loop l = Chained l.slots l.free l.order l.i (128 - l.counter)
