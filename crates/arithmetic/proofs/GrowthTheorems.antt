-- The whole shares lack `missing` units, and just `missing` places have a rank below that: so the shares of a positive leftover among places
-- that grow sum to it. And a plan has them at its places. Assumes nothing.
use mathlib.Core.Path.{◌≡◌, ◌∙◌}
use mathlib.Core.List.{List}
use Prim.Native.Nat.{ℕ, ◌≤◌, ◌<◌, min}
use native.Mathlib.Nat.{le_refl}
use native.Mathlib.Omega.{arith}
use lib.IntN.{pos}
use lib.ListN.{get_or}
use Rattle.arithmetic.specs.Growth.{sum_to, rank, grow_sum, whole_share, remainder, missing, share, plan_growth}
use Rattle.arithmetic.proofs.GrowthPlans.{share_of_place}
use Rattle.arithmetic.proofs.GrowthRanks.{bit, places_below_rank}
use Rattle.arithmetic.proofs.GrowthShares.{whole_shares_within_leftover, missing_at_most_count}
use Rattle.arithmetic.proofs.Sums.{equal_summands_equal_sums, sum_of_sums, table_at}

module _ (l : ℕ) (grows : List ℕ) (n : ℕ) (fits : n ≤ 128) where
  units_are_missing : 0 < grow_sum grows n → sum_to (λ k. bit (rank (remainder l grows n) n k) (missing l grows n)) n ≡ missing l grows n
  units_are_missing some =
      places_below_rank (remainder l grows n) n fits (missing l grows n) ∙ omega (arith, missing_at_most_count l grows n some)

  pub shares_sum_to_leftover : 0 < l → 0 < grow_sum grows n → sum_to (share l grows n) n ≡ l
  unfolding missing
  shares_sum_to_leftover left some =
      omega (arith, equal_summands_equal_sums _ _ n (λ k h. share_of_place l grows n k left some h), sum_of_sums (whole_share l grows n) (λ k. bit (rank (remainder l grows n) n k) (missing l grows n)) n, units_are_missing some, whole_shares_within_leftover l grows n n (le_refl n) some)

-- At each place of the plan of a leftover that is not negative stands its share.
pub plan_at : (l : ℕ) (grows : List ℕ) (count k : ℕ) → k < 128 → get_or (plan_growth (pos l) grows count) k (pos 0) ≡ pos (share l grows (min count 128) k)
unfolding plan_growth
plan_at l grows count k h = table_at 128 k (λ (k : ℕ). pos (share l grows (min count 128) k)) (pos 0) h
