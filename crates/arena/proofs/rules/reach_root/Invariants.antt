-- The nodes before `at` are passed: what is left of the walk gives the whole list. Assumes nothing.
use Rattle.std.proofs.Common.{◌-◌}
use Rattle.arena.proofs.Checks.WalkLaws.{Reaching}
use Rattle.arena.proofs.rules.reach_root.Given as goal

abbrev pub invariant-loop-at : goal.invariant-loop-at
invariant-loop-at l = Reaching l.slots 0 l.order l.at l.well

abbrev pub decreases-loop-at : goal.decreases-loop-at
decreases-loop-at l = 128 - l.at
