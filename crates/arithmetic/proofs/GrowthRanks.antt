-- Ranks: how many of the first n places come before a place. With a remainder and its place packed into one number, the larger
-- first, no two places are alike, so the ranks below s are held by s places. And where all places of rank below m are marked, the
-- first of the largest unmarked keys has rank m: the marked places all come before it, the others do not. Assumes nothing.
use mathlib.Core.Path.{◌≡◌, sym, ◌∙◌, ap}
use mathlib.Core.Bool.{cond}
use Prim.Native.Nat.{ℕ, zero, suc, ◌+◌, ◌*◌, ◌-◌, ◌%◌, ◌≤◌, ◌<◌, min}
use native.Mathlib.Nat.{add-zero, le_refl}
use native.Mathlib.Decide.{dec_lt, dec_le, ℕ_discrete}
use native.Mathlib.Omega.{arith}
use borrow.Author.Tests.{lt-ltb, le-ltb, eq-eqb, ne_eqb}
use lib.Dec.{ltb}
use Rattle.arithmetic.specs.Growth.{sum_to, comes_before, rank}
use Rattle.arithmetic.proofs.Sums.{equal_summands_equal_sums, sum_of_equals, bounded_summands_bounded_sum, smaller_summands_smaller_sum, one_smaller_summand_smaller_sum}

-- 1 where a < b, otherwise 0.
abbrev pub bit : ℕ → ℕ → ℕ
bit a b = cond (ltb a b) 1 0

pub bit_yes : (a b : ℕ) → a < b → bit a b ≡ 1
bit_yes a b h = simp (lt-ltb a b h)

pub bit_no : (a b : ℕ) → b ≤ a → bit a b ≡ 0
bit_no a b h = simp (le-ltb a b h)

pub same_test_same_bit : (a b c d : ℕ) → (a < b → c < d) → (c < d → a < b) → Dec (a < b) → bit a b ≡ bit c d
same_test_same_bit a b c d p q (yes h) = bit_yes a b h ∙ sym (bit_yes c d (p h))
same_test_same_bit a b c d p q (no h) = bit_no a b (omega arith) ∙ sym (bit_no c d (not_less (dec_lt c d)))
  where
    not_less : Dec (c < d) → d ≤ c
    not_less (yes l) = absurd (h (q l))
    not_less (no l) = omega arith

weaker_test_larger_bit : (a b c d : ℕ) → (a < b → c < d) → Dec (a < b) → bit a b ≤ bit c d
weaker_test_larger_bit a b c d p (yes h) = omega (arith, bit_yes a b h, bit_yes c d (p h))
weaker_test_larger_bit a b c d p (no h) = omega (arith, bit_no a b (omega arith))

bit_at_most_one : (a b : ℕ) → Dec (a < b) → bit a b ≤ 1
bit_at_most_one a b (yes h) = omega (arith, bit_yes a b h)
bit_at_most_one a b (no h) = omega (arith, bit_no a b (omega arith))

-- How many of the first n have a larger number than place k, by the numbers κ.
abbrev larger : (ℕ → ℕ) → ℕ → ℕ → ℕ
larger κ n k = sum_to (λ j. bit (κ k) (κ j)) n

module _ (κ : ℕ → ℕ) (n : ℕ) where
  larger_at_most_count : (k : ℕ) → larger κ n k ≤ n
  larger_at_most_count k =
      omega (arith, bounded_summands_bounded_sum (λ j. bit (κ k) (κ j)) 1 n (λ j h. bit_at_most_one (κ k) (κ j) (dec_lt (κ k) (κ j))))

  at_least_as_many_larger : (i k : ℕ) → κ k ≤ κ i → larger κ n i ≤ larger κ n k
  at_least_as_many_larger i k h =
      smaller_summands_smaller_sum _ _ n (λ j l. weaker_test_larger_bit (κ i) (κ j) (κ k) (κ j) (λ p. omega arith) (dec_lt (κ i) (κ j)))

  more_are_larger : (i k : ℕ) → k < n → κ i < κ k → larger κ n k < larger κ n i
  more_are_larger i k l h =
      one_smaller_summand_smaller_sum (λ j. bit (κ k) (κ j)) (λ j. bit (κ i) (κ j)) n k
      (λ j m. weaker_test_larger_bit (κ k) (κ j) (κ i) (κ j) (λ p. omega arith) (dec_lt (κ k) (κ j))) l
      (omega (arith, bit_no (κ k) (κ k) (le_refl (κ k)), bit_yes (κ i) (κ k) h))

-- What one place more does to the test of a rank.
module _ (κ : ℕ → ℕ) (n s k : ℕ) (l : k < n) (d : κ k ≡ κ n → ⊥) where
  test_kept_by_late_place : s ≤ larger κ n n → Dec (κ k < κ n) → bit (larger κ n k + bit (κ k) (κ n)) s ≡ bit (larger κ n k) s
  test_kept_by_late_place h (yes p) =
      same_test_same_bit (larger κ n k + bit (κ k) (κ n)) s (larger κ n k) s (λ q. omega arith)
      (λ q. omega (arith, at_least_as_many_larger κ n n k (omega arith))) (dec_lt _ _)
  test_kept_by_late_place h (no p) = ap (λ (x : ℕ). bit (larger κ n k + x) s) (bit_no (κ k) (κ n) (omega arith)) ∙ rw add-zero

  test_moved_by_early_place : larger κ n n < s → Dec (κ k < κ n) → bit (larger κ n k + bit (κ k) (κ n)) s ≡ bit (larger κ n k) (s - 1)
  test_moved_by_early_place h (yes p) =
      same_test_same_bit (larger κ n k + bit (κ k) (κ n)) s (larger κ n k) (s - 1) (λ q. omega (arith, bit_yes (κ k) (κ n) p))
      (λ q. omega (arith, bit_yes (κ k) (κ n) p)) (dec_lt _ _)
  test_moved_by_early_place h (no p) =
      let u : larger κ n k < larger κ n n = more_are_larger κ n n k l (by (ℕ_discrete (κ k) (κ n))) in
      same_test_same_bit (larger κ n k + bit (κ k) (κ n)) s (larger κ n k) (s - 1) (λ q. omega arith)
      (λ q. omega (arith, bit_no (κ k) (κ n) (omega arith))) (dec_lt _ _)
    where
      by : Dec (κ k ≡ κ n) → κ n < κ k
      by (yes e) = absurd (d e)
      by (no e) = omega arith

-- Of places with different numbers, s have fewer than s larger ones.
ranks_below_are_as_many : (κ : ℕ → ℕ) (n : ℕ) → ((i j : ℕ) → i < n → j < n → κ i ≡ κ j → i ≡ j) → (s : ℕ) → sum_to (λ k. bit (larger κ n k) s) n ≡ min s n
unfolding sum_to
ranks_below_are_as_many κ zero d s = omega arith
ranks_below_are_as_many κ (suc n) d s =
    by (dec_le s (larger κ n n)) (ranks_below_are_as_many κ n (λ i j p q. d i j (omega arith) (omega arith)))
  where
    apart : (k : ℕ) → k < n → κ k ≡ κ n → ⊥
    apart k l e = let z : k ≡ n = d k n (omega arith) (omega arith) e in omega arith

    own : larger κ n n + bit (κ n) (κ n) ≡ larger κ n n
    own = omega (arith, bit_no (κ n) (κ n) (le_refl (κ n)))

    by : Dec (s ≤ larger κ n n) → ((s : ℕ) → sum_to (λ k. bit (larger κ n k) s) n ≡ min s n)
        → sum_to (λ k. bit (larger κ n k + bit (κ k) (κ n)) s) n + bit (larger κ n n + bit (κ n) (κ n)) s ≡ min s (suc n)
    by (yes h) ih =
        omega (arith, equal_summands_equal_sums (λ k. bit (larger κ n k + bit (κ k) (κ n)) s) (λ k. bit (larger κ n k) s) n (λ k l. test_kept_by_late_place κ n s k l (apart k l) h (dec_lt (κ k) (κ n))), ih s, ap (λ (x : ℕ). bit x s) own, bit_no (larger κ n n) s h, larger_at_most_count κ n n)
    by (no h) ih =
        let g : larger κ n n < s = omega arith in
        omega (arith, equal_summands_equal_sums (λ k. bit (larger κ n k + bit (κ k) (κ n)) s) (λ k. bit (larger κ n k) (s - 1)) n (λ k l. test_moved_by_early_place κ n s k l (apart k l) g (dec_lt (κ k) (κ n))), ih (s - 1), ap (λ (x : ℕ). bit x s) own, bit_yes (larger κ n n) s g, larger_at_most_count κ n n)

-- A remainder and its place as one number: the larger remainder, then the earlier place.
abbrev packed : ℕ → ℕ → ℕ
packed a i = a * 128 + (127 - i)

comes_before_is_larger_packed : (a i b j : ℕ) → i < 128 → j < 128 → Dec (a < b) → Dec (a ≡ b) → comes_before a i b j ≡ bit (packed a i) (packed b j)
unfolding comes_before
comes_before_is_larger_packed a i b j p q (yes h) e =
    simp (lt-ltb a b h) (sym (bit_yes (packed a i) (packed b j) (omega arith)))
comes_before_is_larger_packed a i b j p q (no h) (yes e) =
    simp (le-ltb a b (omega arith), eq-eqb a b e) (same_test_same_bit j i (packed a i) (packed b j) (λ l. omega arith) (λ l. omega arith) (dec_lt j i))
comes_before_is_larger_packed a i b j p q (no h) (no e) =
    simp (le-ltb a b (omega arith), ne_eqb a b e) (sym (bit_no (packed a i) (packed b j) (omega arith)))

packed_place : (a i : ℕ) → i < 128 → packed a i % 128 ≡ 127 - i
packed_place a i h = omega arith

-- Ranks by f among the first n of at most 128 places.
module _ (f : ℕ → ℕ) (n : ℕ) (fits : n ≤ 128) where
  κ : ℕ → ℕ
  κ k = packed (f k) k

  rank_counts_larger : (k : ℕ) → k < n → rank f n k ≡ larger κ n k
  unfolding rank κ
  rank_counts_larger k h =
      equal_summands_equal_sums _ _ n (λ j m. comes_before_is_larger_packed _ _ _ _ (omega arith) (omega arith) (dec_lt _ _) (ℕ_discrete _ _))

  packed_apart : (i j : ℕ) → i < n → j < n → κ i ≡ κ j → i ≡ j
  unfolding κ
  packed_apart i j p q e =
      omega (arith, ap (λ (x : ℕ). x % 128) e, packed_place (f i) i (omega arith), packed_place (f j) j (omega arith))

  -- As many places have a rank below s as s says, up to n.
  pub places_below_rank : (s : ℕ) → sum_to (λ k. bit (rank f n k) s) n ≡ min s n
  places_below_rank s =
      equal_summands_equal_sums _ _ n (λ k h. ap (λ (x : ℕ). bit x s) (rank_counts_larger k h)) ∙ ranks_below_are_as_many κ n packed_apart s

  pub ranks_differ : (i j : ℕ) → i < n → j < n → (i ≡ j → ⊥) → rank f n i ≡ rank f n j → ⊥
  ranks_differ i j p q d e = by (dec_lt (κ i) (κ j)) (ℕ_discrete (κ i) (κ j))
    where
      by : Dec (κ i < κ j) → Dec (κ i ≡ κ j) → ⊥
      by (yes h) s = omega (arith, more_are_larger κ n i j q h, rank_counts_larger i p, rank_counts_larger j q)
      by (no h) (yes s) = d (packed_apart i j p q s)
      by (no h) (no s) =
          omega (arith, more_are_larger κ n j i p (omega arith), rank_counts_larger i p, rank_counts_larger j q)

  -- A place of lower rank has no smaller number.
  pub lower_rank_no_smaller : (i j : ℕ) → i < n → j < n → rank f n i < rank f n j → f j ≤ f i
  unfolding κ
  lower_rank_no_smaller i j p q h = by (dec_le (f j) (f i))
    where
      by : Dec (f j ≤ f i) → f j ≤ f i
      by (yes l) = l
      by (no l) = absurd (omega (arith, at_least_as_many_larger κ n j i (omega arith), rank_counts_larger i p, rank_counts_larger j q))

  -- Keys with those of rank below m marked by 0, and b the first of the largest.
  module _ (g : ℕ → ℕ) (m b : ℕ) (few : m < n) (some : (k : ℕ) → k < n → 0 < f k) (marked : (k : ℕ) → k < n → rank f n k < m → g k ≡ 0) (kept : (k : ℕ) → k < n → m ≤ rank f n k → g k ≡ f k)
      (inside : b < n) (largest : (k : ℕ) → k < n → g k ≤ g b) (first : (k : ℕ) → k < b → g k < g b) where
    -- Else every key would be marked, and there are more than m.
    unmarked_by : Dec (rank f n b < m) → m ≤ rank f n b
    unmarked_by (no h) = omega arith
    unmarked_by (yes h) =
        absurd
        (omega (arith, places_below_rank m, sum_of_equals (λ k. bit (rank f n k) m) 1 n (λ k l. bit_yes (rank f n k) m (all k l (dec_lt (rank f n k) m)))))
      where
        all : (k : ℕ) → k < n → Dec (rank f n k < m) → rank f n k < m
        all k l (yes p) = p
        all k l (no p) = absurd (omega (arith, some k l, kept k l (omega arith), largest k l, marked b inside h))

    unmarked : m ≤ rank f n b
    unmarked = unmarked_by (dec_lt (rank f n b) m)

    -- A place comes before b just where it is marked.
    before_is_marked : (j : ℕ) → j < n → Dec (rank f n j < m) → bit (κ b) (κ j) ≡ bit (rank f n j) m
    unfolding κ
    before_is_marked j l (yes p) = bit_yes (κ b) (κ j) (by (dec_lt (κ b) (κ j))) ∙ sym (bit_yes (rank f n j) m p)
      where
        by : Dec (κ b < κ j) → κ b < κ j
        by (yes h) = h
        by (no h) =
            absurd
            (omega (arith, unmarked, at_least_as_many_larger κ n b j (omega arith), rank_counts_larger b inside, rank_counts_larger j l))
    before_is_marked j l (no p) = bit_no (κ b) (κ j) (by (dec_lt j b)) ∙ sym (bit_no (rank f n j) m (omega arith))
      where
        by : Dec (j < b) → κ j ≤ κ b
        by (yes h) = omega (arith, first j h, kept j l (omega arith), kept b inside unmarked)
        by (no h) = omega (arith, largest j l, kept j l (omega arith), kept b inside unmarked)

    pub first_largest_has_rank : rank f n b ≡ m
    first_largest_has_rank =
        rank_counts_larger b inside
        ∙ equal_summands_equal_sums _ _ n (λ j l. before_is_marked j l (dec_lt (rank f n j) m)) ∙ places_below_rank m ∙ omega arith
