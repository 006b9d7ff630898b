-- The rows of wish 7: each side computes. Assumes nothing, and cites no other proof, so that a row tells by itself.
use mathlib.Core.Path.{◌≡◌, refl}
use mathlib.Core.List.{[], ◌∷◌, map}
use lib.IntN.{pos, negsuc}
use lib.ListN.{take}
use Rattle.arithmetic.specs.Growth.{sum_to, table, comes_before, rank, grow_sum, whole_share, remainder, missing, share_with_unit, share, plan_growth}
use Rattle.arithmetic.specs.Fair.{miss, total_miss}

pub shares_of_7 : take 3 (plan_growth (pos 7) (0 ∷ 1 ∷ 2 ∷ []) 3) ≡ pos 0 ∷ pos 2 ∷ pos 5 ∷ []
unfolding sum_to table comes_before rank grow_sum whole_share remainder missing share_with_unit share plan_growth
shares_of_7 = refl

pub totals_of_7 : map (total_miss 7 (0 ∷ 1 ∷ 2 ∷ []) 3) ((pos 0 ∷ pos 2 ∷ pos 5 ∷ []) ∷ (pos 0 ∷ pos 3 ∷ pos 4 ∷ []) ∷ (pos 1 ∷ pos 2 ∷ pos 4 ∷ []) ∷ (negsuc 0 ∷ pos 0 ∷ pos 8 ∷ []) ∷ []) ≡ 2 ∷ 4 ∷ 6 ∷ 20 ∷ []
unfolding sum_to grow_sum miss total_miss
totals_of_7 = refl
