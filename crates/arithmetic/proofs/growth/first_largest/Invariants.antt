-- `first_largest` gives the first of the largest keys. The loop's invariant: so it is among the keys passed. Assumes nothing.
use mathlib.Core.List.{List}
use Prim.Native.Nat.{ℕ, ◌≤◌, ◌<◌}
use lib.ListN.{get_or, length}
use Rattle.arithmetic.proofs.growth.first_largest.Given as goal

-- Of the first i keys that at b is the largest, and the first of those.
pub record Best (keys : List ℕ) (i b : ℕ) : Type 0 where
  pub largest : (k : ℕ) → k < i → get_or keys k 0 ≤ get_or keys b 0
  pub first : (k : ℕ) → k < b → get_or keys k 0 < get_or keys b 0

abbrev pub invariant-loop-i : goal.invariant-loop-i
invariant-loop-i l = (l.best < length l.keys) × Best l.keys l.i l.best
