-- The walk back from the byte before i ends where the walk from the last byte of the character ends. Assumes nothing.
use mathlib.Core.Path.{◌≡◌}
use Prim.Native.Nat.{◌-◌}
use Rattle.text.specs.Steps.{back_of}
use Rattle.text.proofs.utf8.step_back.Given as goal

abbrev pub invariant-loop-i : goal.invariant-loop-i
invariant-loop-i l = back_of l.s (l.i - 1) ≡ back_of l.s (l.at - 1)
