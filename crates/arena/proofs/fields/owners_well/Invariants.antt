-- Owners of the rest are apart just where all are. Assumes nothing.
use Rattle.std.proofs.Common.{◌≡◌, length}
use Rattle.arena.specs.Rules.{owners_well}
use Rattle.arena.proofs.fields.owners_well.Given as goal

abbrev pub invariant-loop-f : goal.invariant-loop-f
invariant-loop-f l = owners_well l.rest ≡ owners_well l.initial.rest

abbrev pub decreases-loop-f : goal.decreases-loop-f
decreases-loop-f l = length l.rest
