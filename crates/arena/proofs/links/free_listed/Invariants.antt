-- What is left of the list frees the rest. Assumes nothing.
use Rattle.arena.specs.Slots.{freed}
use Rattle.arithmetic.specs.Tests.{final_or}
use Rattle.std.proofs.Common.{◌≡◌, drop}
use Rattle.arena.proofs.links.free_listed.Given as goal

abbrev pub invariant-loop-i : goal.invariant-loop-i
invariant-loop-i l = (freed l.slots l.head (drop l.i-index l.i-items) ≡ freed l.initial.slots l.initial.head l.i-items) × (final_or l.head (drop l.i-index l.i-items) ≡ final_or l.initial.head l.i-items)
