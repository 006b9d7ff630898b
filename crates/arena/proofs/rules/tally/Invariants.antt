-- The items before here are counted. Assumes nothing.
use Rattle.std.proofs.Common.{◌≡◌, length, take}
use Rattle.arena.specs.Support.Lists.{Tallied}
use Rattle.arena.proofs.rules.tally.Given as goal

abbrev pub invariant-loop-i : goal.invariant-loop-i
invariant-loop-i l = (length l.times ≡ 128) × Tallied l.times (take l.i-index l.i-items)
