-- The shares of specs/Growth.antt. A whole share times the grow sum, plus what the division leaves, is the leftover times the grow; summed
-- up, the whole shares are at most the leftover and lack at most one unit for each place. Assumes nothing.
use mathlib.Core.Path.{◌≡◌, sym, ap, ap₂, subst, ◌∙◌}
use mathlib.Core.List.{List}
use Prim.Native.Nat.{ℕ, zero, suc, ◌+◌, ◌*◌, ◌/◌, ◌%◌, ◌≤◌, ◌<◌}
use native.Mathlib.Nat.{add-mul, mul-add, mod-lt, div-add-mod', le_of_lt, le_of_mul-le-mul_right, le_trans, mul-le-mul_left}
use native.Mathlib.Omega.{arith}
use lib.ListN.{get_or, length}
use Rattle.arithmetic.specs.Growth.{sum_to, grow_sum, whole_share, missing}
use Rattle.arithmetic.proofs.Sums.{sum_of_one_more, bounded_summands_bounded_sum, more_summands_larger_sum}

module _ (l : ℕ) (grows : List ℕ) (n : ℕ) where
  -- What the division at place k leaves: `remainder`, spelled out for laws that do not depend on what the places are ranked by.
  abbrev pub rest : ℕ → ℕ
  rest k = l * get_or grows k 0 % grow_sum grows n

  pub shares_and_rests : (m : ℕ) → sum_to rest m + sum_to (whole_share l grows n) m * grow_sum grows n ≡ l * grow_sum grows m
  unfolding whole_share grow_sum sum_to
  shares_and_rests zero = omega arith
  shares_and_rests (suc m) =
      omega (arith, shares_and_rests m, add-mul (sum_to (whole_share l grows n) m) (whole_share l grows n m) (grow_sum grows n), mul-add l (grow_sum grows m) (get_or grows m 0), div-add-mod' (l * get_or grows m 0) (grow_sum grows n))

  pub whole_shares_within_leftover : (m : ℕ) → m ≤ n → 0 < grow_sum grows n → sum_to (whole_share l grows n) m ≤ l
  unfolding grow_sum
  whole_shares_within_leftover m h p =
      let w : sum_to (whole_share l grows n) m * grow_sum grows n ≤ l * grow_sum grows m = omega (arith, shares_and_rests m) in
      le_of_mul-le-mul_right (le_trans w (mul-le-mul_left l (more_summands_larger_sum (λ (k : ℕ). get_or grows k 0) m n h))) p

  rests_below_total : 0 < grow_sum grows n → sum_to rest n ≤ n * grow_sum grows n
  rests_below_total some =
      bounded_summands_bounded_sum rest (grow_sum grows n) n (λ k h. le_of_lt (mod-lt (l * get_or grows k 0) some))

  at_most_one_unit_each : 0 < grow_sum grows n → l ≤ sum_to (whole_share l grows n) n + n
  at_most_one_unit_each some =
      le_of_mul-le-mul_right
      (omega (arith, shares_and_rests n, rests_below_total some, add-mul (sum_to (whole_share l grows n) n) n (grow_sum grows n))) some

  pub missing_at_most_count : 0 < grow_sum grows n → missing l grows n ≤ n
  unfolding missing
  missing_at_most_count some = omega (arith, at_most_one_unit_each some)

-- The division at place i, where t is the grow sum and `given` the sum of the shares before that place.
module _ (l t : ℕ) (grows : List ℕ) (i given q : ℕ) (is : t ≡ grow_sum grows (length grows)) (some : 0 < t) (h : i < length grows)
    (quotient : q ≡ l * get_or grows i 0 / t) (before : given ≡ sum_to (whole_share l grows (length grows)) i) where
  pub divided_is_share : q ≡ whole_share l grows (length grows) i
  unfolding whole_share
  divided_is_share = quotient ∙ ap (λ (x : ℕ). l * get_or grows i 0 / x) is

  pub sum_with_share : given + q ≡ sum_to (whole_share l grows (length grows)) (i + 1)
  sum_with_share = ap₂ ◌+◌ before divided_is_share ∙ sym (sum_of_one_more _ _)

  pub sum_within_leftover : given + q ≤ l
  sum_within_leftover =
      omega (arith, sum_with_share, whole_shares_within_leftover l grows (length grows) (i + 1) (omega arith) (subst (λ (x : ℕ). 0 < x) is some))
