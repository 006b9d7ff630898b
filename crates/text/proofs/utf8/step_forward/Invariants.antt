-- The tails passed and the tails left are all the tails. Assumes nothing.
use mathlib.Core.Path.{◌≡◌}
use Prim.Native.Nat.{◌+◌}
use lib.ListN.{drop}
use Rattle.text.specs.Steps.{is_tail, front}
use Rattle.text.proofs.utf8.step_forward.Given as goal

abbrev pub invariant-loop-i : goal.invariant-loop-i
invariant-loop-i l = l.i + front is_tail (drop (l.at + 1 + l.i) l.s) ≡ front is_tail (drop (l.at + 1) l.s)
