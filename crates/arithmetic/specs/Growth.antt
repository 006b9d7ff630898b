-- Document 01, "Layout", its sentences on growth: a leftover L and a grow sum T, shared out by largest remainder.
use Rattle.std.specs.Prelude.{ℕ, zero, suc, ◌+◌, ◌-◌, ◌*◌, ◌/◌, ◌%◌, min, cond, List, [], ◌∷◌, ltb, eqb, get_or, ℤ, pos, negsuc, ◌+ℤ◌}

-- f 0 + .. + f (n - 1).
unfoldable pub sum_to : (ℕ → ℕ) → ℕ → ℕ
sum_to f zero = 0
sum_to f (suc n) = sum_to f n + f n

-- The sum of a list of whole numbers of either sign.
unfoldable pub total : List ℤ → ℤ
total [] = pos 0
total (x ∷ xs) = x +ℤ total xs

-- The list f 0, .., f (n - 1).
unfoldable pub table {ℓ} : {X : Type ℓ} → ℕ → (ℕ → X) → List X
table zero f = []
table (suc n) f = f 0 ∷ table n (λ k. f (suc k))

-- 1 where a sibling at place j with remainder b comes before one at place i with remainder a, otherwise 0: the larger remainder
-- first, and of equal ones the earlier place.
unfoldable pub comes_before : ℕ → ℕ → ℕ → ℕ → ℕ
comes_before a i b j = cond (ltb a b) 1 (cond (eqb a b) (cond (ltb j i) 1 0) 0)

-- How many of the first n places come before place i.
unfoldable pub rank : (ℕ → ℕ) → ℕ → ℕ → ℕ
rank remainder n i = sum_to (λ j. comes_before (remainder i) i (remainder j) j) n

-- The grow sum T of the first n places.
unfoldable pub grow_sum : List ℕ → ℕ → ℕ
grow_sum grows n = sum_to (λ k. get_or grows k 0) n

-- A leftover of l raw units among the first n of the grows.
module _ (l : ℕ) (grows : List ℕ) (n : ℕ) where
  -- The whole share of place k, floor(l times grow / T).
  unfoldable pub whole_share : ℕ → ℕ
  whole_share k = l * get_or grows k 0 / grow_sum grows n

  -- The remainder of that division.
  unfoldable pub remainder : ℕ → ℕ
  remainder k = l * get_or grows k 0 % grow_sum grows n

  -- How many units the whole shares leave: the missing units.
  unfoldable pub missing : ℕ
  missing = l - sum_to whole_share n

  -- The whole share, with one of the missing units where fewer places than those come before.
  unfoldable pub share_with_unit : ℕ → ℕ
  share_with_unit k = whole_share k + cond (ltb (rank remainder n k) missing) 1 0

  -- The share of place k where the leftover and the grow sum are positive, otherwise 0; 0 from place n on.
  unfoldable pub share : ℕ → ℕ
  share k = cond (ltb 0 l) (cond (ltb 0 (grow_sum grows n)) (cond (ltb k n) (share_with_unit k) 0) 0) 0

-- The shares of a leftover among the first `count` of 128 places; a count above 128 is taken for 128.
unfoldable pub plan_growth : ℤ → List ℕ → ℕ → List ℤ
plan_growth (pos l) grows count = table 128 (λ k. pos (share l grows (min count 128) k))
plan_growth (negsuc l) grows count = table 128 (λ k. pos 0)
