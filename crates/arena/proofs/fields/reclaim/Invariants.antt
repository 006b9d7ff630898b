-- The fields before here are cleared, and the others are as they were. Assumes nothing.
use Rattle.std.proofs.Common.{◌≡◌, cond}
use Rattle.field.specs.Fields.{empty_field}
use Rattle.field.specs.declared.Field.{Field}
use Rattle.arena.specs.Fields.{owner_dead}
use Rattle.arithmetic.proofs.LoopLaws.{map_to}
use Rattle.arena.proofs.fields.reclaim.Given as goal

abbrev pub invariant-loop-f : goal.invariant-loop-f
invariant-loop-f l = l.fields ≡ map_to (λ (f : Field). cond (owner_dead l.limit l.slots f.owner) empty_field f) l.initial.fields l.f-index
