-- `whole_shares` gives the whole shares, their keys and the sum of the shares. The loop's invariant: so it is for the places passed, and the
-- places to come hold 0. No sum passes the leftover, so all of them fit. Assumes nothing.
use mathlib.Core.Path.{◌≡◌}
use Prim.Native.Nat.{ℕ, ◌+◌, ◌≤◌, ◌<◌}
use lib.IntN.{pos}
use lib.ListN.{get_or, length}
use Rattle.arithmetic.specs.Growth.{sum_to, whole_share, remainder}
use Rattle.arithmetic.proofs.growth.whole_shares.Given as goal

abbrev pub invariant-loop-i : goal.invariant-loop-i
invariant-loop-i l =
    (length l.shares ≡ 128) × (length l.keys ≡ 128) × ((k : ℕ) → k < l.i → get_or l.shares k (pos 0) ≡ pos (whole_share l.l l.grows (length l.grows) k)) × ((k : ℕ) → l.i ≤ k → get_or l.shares k (pos 0) ≡ pos 0)
    × ((k : ℕ) → k < l.i → get_or l.keys k 0 ≡ remainder l.l l.grows (length l.grows) k + 1) × (l.given ≡ sum_to (whole_share l.l l.grows (length l.grows)) l.i)
