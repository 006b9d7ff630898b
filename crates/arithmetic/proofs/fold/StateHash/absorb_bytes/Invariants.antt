-- `absorb_bytes` absorbs byte after byte. The loop's invariant: the bytes passed are absorbed. Assumes nothing.
use mathlib.Core.Path.{◌≡◌}
use lib.ListN.{take}
use Rattle.arithmetic.specs.Fold.{absorbed}
use Rattle.arithmetic.proofs.fold.StateHash.absorb_bytes.Given as goal

abbrev pub invariant-loop-b : goal.invariant-loop-b
invariant-loop-b l = l.hash ≡ absorbed l.initial.hash (take l.b-index l.s)
