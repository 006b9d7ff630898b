-- Document 02, **Wish 7**: the shares of growth are fair. `FairShares` says so of the very list that the contract of `plan_growth` names, and is proved
-- in proofs/Fair.antt.
use Rattle.std.specs.Prelude.{ℕ, ◌+◌, ◌*◌, ◌/◌, ◌<◌, ◌≤◌, ◌≡◌, ◌⊎◌, min, List, [], ◌∷◌, map, ℤ, pos, negsuc, ◌-ℤ◌, ◌*ℤ◌, nat_abs, get_or, take}
use Rattle.arithmetic.specs.Growth.{sum_to, total, grow_sum, plan_growth}

-- L is the leftover l, in raw units, and T the sum of the first n grows. Child k has what stands at place k of a list, 0 past its end.
module _ (l : ℕ) (grows : List ℕ) (n : ℕ) where
  -- |T times share - L times grow| of child k: T times the distance of its share from its quota, which is L times grow / T.
  unfoldable pub miss : List ℤ → ℕ → ℕ
  miss shares k = nat_abs (get_or shares k (pos 0) *ℤ pos (grow_sum grows n) -ℤ pos (l * get_or grows k 0))

  -- The total of that.
  unfoldable pub total_miss : List ℤ → ℕ
  total_miss shares = sum_to (miss shares) n

  -- The floor of child k's quota.
  abbrev pub quota_floor : ℕ → ℕ
  quota_floor k = l * get_or grows k 0 / grow_sum grows n

  pub record Fair (shares : List ℤ) : Type 0 where
    pub sum_is_the_leftover : total (take n shares) ≡ pos l
    pub floor_or_one_more : (k : ℕ) → k < n → (get_or shares k (pos 0) ≡ pos (quota_floor k)) ⊎ (get_or shares k (pos 0) ≡ pos (quota_floor k + 1))
    pub no_grow_no_share : (k : ℕ) → k < n → get_or grows k 0 ≡ 0 → get_or shares k (pos 0) ≡ pos 0
    -- no whole numbers of either sign that sum to L make the total smaller
    pub least_total : (others : List ℤ) → total (take n others) ≡ pos l → total_miss shares ≤ total_miss others

pub record FairShares : Type 0 where
  -- of a positive leftover, where some child grows
  pub fair : (l : ℕ) (grows : List ℕ) (count : ℕ) → 0 < l → 0 < grow_sum grows (min count 128) → Fair l grows (min count 128) (plan_growth (pos l) grows count)
  -- 7 units among grows 0, 1 and 2: the shares, their total, and the totals of three other lists that sum to 7
  pub shares_of_7 : take 3 (plan_growth (pos 7) (0 ∷ 1 ∷ 2 ∷ []) 3) ≡ pos 0 ∷ pos 2 ∷ pos 5 ∷ []
  pub totals_of_7 : map (total_miss 7 (0 ∷ 1 ∷ 2 ∷ []) 3) ((pos 0 ∷ pos 2 ∷ pos 5 ∷ []) ∷ (pos 0 ∷ pos 3 ∷ pos 4 ∷ []) ∷ (pos 1 ∷ pos 2 ∷ pos 4 ∷ []) ∷ (negsuc 0 ∷ pos 0 ∷ pos 8 ∷ []) ∷ []) ≡ 2 ∷ 4 ∷ 6 ∷ 20 ∷ []
