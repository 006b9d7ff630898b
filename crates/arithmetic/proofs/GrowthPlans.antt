-- What the steps of `plan_growth` come to. A key is a remainder plus 1, and ranks by keys are ranks by remainders, so the units
-- that `give_units` gives are those of the definition. Assumes nothing.
use mathlib.Core.Path.{◌≡◌, refl, sym, ◌∙◌, ap, ap₂}
use mathlib.Core.Bool.{Bool, true, false, cond}
use mathlib.Core.List.{List}
use Prim.Native.Nat.{ℕ, ◌+◌, ◌*◌, ◌/◌, ◌≤◌, ◌<◌, ◌^◌, min}
use native.Mathlib.Decide.{dec_lt, ℕ_discrete}
use native.Mathlib.Omega.{arith}
use borrow.Author.Tests.{lt-ltb, le-ltb, eq-eqb, ne_eqb, leb-true, leb-false}
use lib.Dec.{ltb}
use lib.IntN.{ℤ, pos, negsuc, nat_abs, ◌+ℤ◌}
use lib.ListN.{get_or, take}
use lib.Seq.{get_or-take}
use lib.Signed.{le_z}
use Rattle.arithmetic.specs.Growth.{table, comes_before, rank, grow_sum, whole_share, remainder, missing, share_with_unit, share, plan_growth}
use Rattle.arithmetic.specs.Support.Steps.{PartsOf, RoomForUnits, with_unit}
use Rattle.arithmetic.proofs.GrowthPicks.{unit_below_count, no_unit_past_count}
use Rattle.arithmetic.proofs.GrowthRanks.{bit}
use Rattle.arithmetic.proofs.GrowthShares.{missing_at_most_count}
use Rattle.arithmetic.proofs.Sums.{equal_summands_equal_sums, summand_at_most_sum}

comes_before_by_keys : (a i b j : ℕ) → Dec (a < b) → Dec (a ≡ b) → comes_before (a + 1) i (b + 1) j ≡ comes_before a i b j
unfolding comes_before
comes_before_by_keys a i b j (yes h) e = simp (lt-ltb a b h, lt-ltb (a + 1) (b + 1) (omega arith))
comes_before_by_keys a i b j (no h) (yes e) =
    simp (le-ltb a b (omega arith), le-ltb (a + 1) (b + 1) (omega arith), eq-eqb a b e, eq-eqb (a + 1) (b + 1) (omega arith))
comes_before_by_keys a i b j (no h) (no e) =
    simp (le-ltb a b (omega arith), le-ltb (a + 1) (b + 1) (omega arith), ne_eqb a b e, ne_eqb (a + 1) (b + 1) (λ z. e (omega arith)))

rank_of_keys : (f g : ℕ → ℕ) (n k : ℕ) → k < n → ((j : ℕ) → j < n → f j ≡ g j + 1) → rank f n k ≡ rank g n k
unfolding rank
rank_of_keys f g n k h e =
    equal_summands_equal_sums _ _ n
    (λ j l. ap₂ (λ (x y : ℕ). comes_before x k y j) (e k h) (e j l) ∙ comes_before_by_keys (g k) k (g j) j (dec_lt (g k) (g j)) (ℕ_discrete (g k) (g j)))

-- The share of each place, case by case.
module _ (l : ℕ) (grows : List ℕ) (n k : ℕ) where
  pub share_of_place : 0 < l → 0 < grow_sum grows n → k < n → share l grows n k ≡ whole_share l grows n k + bit (rank (remainder l grows n) n k) (missing l grows n)
  unfolding share share_with_unit
  share_of_place p h q = simp (lt-ltb 0 l p, lt-ltb 0 (grow_sum grows n) h, lt-ltb k n q)

  either_is_none : (t : Bool) → cond {A = ℕ} t 0 0 ≡ 0
  either_is_none true = refl
  either_is_none false = refl

  no_share_past_count : n ≤ k → share l grows n k ≡ 0
  unfolding share
  no_share_past_count h = simp (le-ltb k n h) (ap (λ (x : ℕ). cond (ltb 0 l) x 0) (either_is_none (ltb 0 (grow_sum grows n))) ∙ either_is_none (ltb 0 l))

  no_share_of_no_leftover : l ≡ 0 → share l grows n k ≡ 0
  unfolding share
  no_share_of_no_leftover e = simp (le-ltb 0 l (omega arith))

  no_share_of_no_grow : grow_sum grows n ≡ 0 → share l grows n k ≡ 0
  unfolding share
  no_share_of_no_grow e = rw e (either_is_none (ltb 0 l))

-- The first n places of the grows are all that counts of them.
module _ (l : ℕ) (grows : List ℕ) (n : ℕ) where
  pub grow_sum_of_front : grow_sum (take n grows) n ≡ grow_sum grows n
  unfolding grow_sum
  grow_sum_of_front = equal_summands_equal_sums _ _ n (λ k h. get_or-take n grows k 0 h)

  share_of_front : (k : ℕ) → k < n → whole_share l (take n grows) n k ≡ whole_share l grows n k
  unfolding whole_share
  share_of_front k h = ap₂ (λ (g t : ℕ). l * g / t) (get_or-take n grows k 0 h) grow_sum_of_front

  remainder_of_front : (k : ℕ) → k < n → remainder l (take n grows) n k ≡ remainder l grows n k
  unfolding remainder
  remainder_of_front k h = simp (get_or-take n grows k 0 h, grow_sum_of_front) refl

  pub parts_of_front : {shares : List ℤ} {keys : List ℕ} {given : ℕ} → PartsOf l (take n grows) n shares keys given → PartsOf l grows n shares keys given
  parts_of_front p =
      record {
        shares_are = λ k h. p.shares_are k h ∙ ap pos (share_of_front k h);
        none_past = p.none_past;
        keys_are = λ k h. p.keys_are k h ∙ ap (λ (r : ℕ). r + 1) (remainder_of_front k h);
        given_is = p.given_is ∙ equal_summands_equal_sums _ _ n share_of_front;
        given_fits = p.given_fits;
      }

pub plan_of_no_leftover : (l : ℤ) (grows : List ℕ) (count : ℕ) → le_z l (pos 0) ≡ true → table 128 (λ (k : ℕ). pos 0) ≡ plan_growth l grows count
unfolding plan_growth
plan_of_no_leftover (pos m) grows count h =
    sym (ap (table 128) (λ i k. pos (no_share_of_no_leftover m grows (min count 128) k (omega (arith, leb-true m 0 h)) i)))
plan_of_no_leftover (negsuc m) grows count h = refl

pub plan_of_no_grow : (l : ℤ) (grows : List ℕ) (count : ℕ) → grow_sum grows (min count 128) ≡ 0 → table 128 (λ (k : ℕ). pos 0) ≡ plan_growth l grows count
unfolding plan_growth
plan_of_no_grow (pos m) grows count h = sym (ap (table 128) (λ i k. pos (no_share_of_no_grow m grows (min count 128) k h i)))
plan_of_no_grow (negsuc m) grows count h = refl

module _ (l : ℕ) (grows : List ℕ) (n : ℕ) (shares : List ℤ) (keys : List ℕ) (given units : ℕ) (some : 0 < grow_sum grows n) (p : PartsOf l grows n shares keys given) (are : units ≡ missing l grows n) where
  -- Where a unit is missing, each whole share is below the leftover.
  pub parts_have_room : l < 2 ^ 63 → n ≤ 128 → RoomForUnits shares keys n units
  unfolding missing
  parts_have_room f h =
      record {
        n_fits = h;
        enough = omega (arith, are, missing_at_most_count l grows n some);
        room = λ k q s. rw (p.shares_are k q) (omega (arith, are, summand_at_most_sum (whole_share l grows n) n k q));
        unmarked = λ k q. omega (arith, p.keys_are k q);
      }

  unit_is_share : 0 < l → (k : ℕ) → Dec (k < n) → with_unit shares keys n units k ≡ pos (share l grows n k)
  unfolding with_unit
  unit_is_share left k (yes h) =
      ap₂ (λ (x : ℤ) (u : ℕ). x +ℤ pos u) (p.shares_are k h)
      (unit_below_count keys n units k h ∙ ap₂ bit (rank_of_keys (λ j. get_or keys j 0) (remainder l grows n) n k h p.keys_are) are)
      ∙ ap pos (sym (share_of_place l grows n k left some h))
  unit_is_share left k (no h) =
      ap₂ (λ (x : ℤ) (u : ℕ). x +ℤ pos u) (p.none_past k (omega arith)) (no_unit_past_count keys n units k (omega arith))
      ∙ ap pos (sym (no_share_past_count l grows n k (omega arith)))

pub plan_by_parts : (l : ℤ) (grows : List ℕ) (count n : ℕ) (shares : List ℤ) (keys : List ℕ) (given units : ℕ) → n ≡ min count 128 → le_z l (pos 0) ≡ false → 0 < grow_sum grows n → PartsOf (nat_abs l) grows n shares keys given
    → units ≡ missing (nat_abs l) grows n
    → table 128 (with_unit shares keys n units) ≡ plan_growth l grows count
unfolding plan_growth
plan_by_parts (pos m) grows count n shares keys given units e h t p are =
    ap (table 128)
    (λ i k. (unit_is_share m grows n shares keys given units t p are (omega (arith, leb-false m 0 h)) k (dec_lt k n) ∙ ap (λ (x : ℕ). pos (share m grows x k)) e) i)
plan_by_parts (negsuc m) grows count n shares keys given units e h t p are = let z : ◌≡◌ {A = ℕ} 0 1 = cc in absurd (omega arith)
