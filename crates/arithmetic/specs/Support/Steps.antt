-- What the private steps of src/growth.rt ask of each other and promise. Document 01 says nothing of them, and no caller cites them.
use Rattle.std.specs.Prelude.{ℕ, ◌+◌, ◌<◌, ◌≤◌, ◌^◌, ◌≡◌, cond, List, ltb, ℤ, pos, ◌+ℤ◌, get_or}
use Rattle.std.specs.Int.{w64}
use Rattle.std.proofs.Common.{SFits}
use Rattle.arithmetic.specs.Growth.{sum_to, rank, whole_share, remainder}

-- Where the long division fits 64 bits.
pub record Divisible (l g t : ℕ) : Type 0 where
  pub l_fits : l < 2 ^ 63
  pub g_part : g ≤ t
  pub t_some : 0 < t
  pub t_fits : t < 2 ^ 39

-- The whole shares of the first n places, their keys, which are the remainders plus 1, and the sum of the shares.
pub record PartsOf (l : ℕ) (grows : List ℕ) (n : ℕ) (shares : List ℤ) (keys : List ℕ) (given : ℕ) : Type 0 where
  pub shares_are : (k : ℕ) → k < n → get_or shares k (pos 0) ≡ pos (whole_share l grows n k)
  pub none_past : (k : ℕ) → n ≤ k → get_or shares k (pos 0) ≡ pos 0
  pub keys_are : (k : ℕ) → k < n → get_or keys k 0 ≡ remainder l grows n k + 1
  pub given_is : given ≡ sum_to (whole_share l grows n) n
  pub given_fits : given ≤ l

-- Place b holds the largest of the first n keys, and no earlier place holds the same.
pub record FirstLargest (keys : List ℕ) (n b : ℕ) : Type 0 where
  pub inside : b < n
  pub largest : (k : ℕ) → k < n → get_or keys k 0 ≤ get_or keys b 0
  pub first : (k : ℕ) → k < b → get_or keys k 0 < get_or keys b 0

-- Each of the first n places has a key that is not 0 and, where units are missing, room for one; and there are places enough.
pub record RoomForUnits (shares : List ℤ) (keys : List ℕ) (n missing : ℕ) : Type 0 where
  pub n_fits : n ≤ 128
  pub enough : missing ≤ n
  pub room : (k : ℕ) → k < n → 0 < missing → SFits w64 (get_or shares k (pos 0) +ℤ pos 1)
  pub unmarked : (k : ℕ) → k < n → 0 < get_or keys k 0

-- 1 at each of the `missing` places of the first n that come first by their keys, otherwise 0.
unfoldable pub unit_at : List ℕ → ℕ → ℕ → ℕ → ℕ
unit_at keys n missing k = cond (ltb k n) (cond (ltb (rank (λ j. get_or keys j 0) n k) missing) 1 0) 0

-- The shares with those units.
unfoldable pub with_unit : List ℤ → List ℕ → ℕ → ℕ → ℕ → ℤ
with_unit shares keys n missing k = get_or shares k (pos 0) +ℤ pos (unit_at keys n missing k)
