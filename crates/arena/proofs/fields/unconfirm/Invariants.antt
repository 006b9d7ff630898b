-- The fields before here are confirmed no more, and the others are as they were. Assumes nothing.
use Rattle.std.proofs.Common.{◌≡◌}
use Rattle.field.specs.Fields.{unconfirmed}
use Rattle.arithmetic.proofs.LoopLaws.{map_to}
use Rattle.arena.proofs.fields.unconfirm.Given as goal

abbrev pub invariant-loop-f : goal.invariant-loop-f
invariant-loop-f l = l.fields ≡ map_to unconfirmed l.initial.fields l.f-index
