-- The shares are fair. A unit has a price, T - 2 θ, where θ is the largest remainder that gets no unit: what a child misses, less the price of its units, is
-- least at its share, and the units of all children cost the same whatever numbers sum to the leftover. So no such numbers miss less in all. Assumes nothing.
use mathlib.Core.Path.{◌≡◌, ◌∙◌, ap}
use mathlib.Core.Bool.{cond}
use mathlib.Core.List.{List}
use mathlib.Core.Logic.{◌⊎◌, inl, inr, ⊎_elim}
use Prim.Native.Nat.{ℕ, zero, suc, ◌+◌, ◌*◌, ◌-◌, ◌≤◌, ◌<◌, zero-le, max, min}
use native.Mathlib.Nat.{mul-zero, zero-div, zero-mod, mod-lt, div-add-mod', le_refl, le_of_mul-le-mul_right}
use native.Mathlib.Decide.{dec_lt}
use native.Mathlib.Omega.{arith}
use borrow.Author.Differences.{up, down}
use borrow.Author.Tests.{lt-ltb, le-ltb}
use Rattle.std.proofs.lemmas.Int.{ints}
use lib.Dec.{ltb}
use lib.ListN.{get_or, take}
use lib.IntN.{ℤ, pos}
use Rattle.arithmetic.specs.Growth.{sum_to, total, comes_before, rank, grow_sum, whole_share, remainder, missing, share, plan_growth}
use Rattle.arithmetic.specs.Fair.{miss, total_miss, Fair, FairShares}
use Rattle.arithmetic.proofs.FairRows.{shares_of_7, totals_of_7}
use Rattle.arithmetic.proofs.GrowthPlans.{share_of_place}
use Rattle.arithmetic.proofs.GrowthRanks.{bit_yes, bit_no, lower_rank_no_smaller}
use Rattle.arithmetic.proofs.GrowthShares.{rest, shares_and_rests, whole_shares_within_leftover}
use Rattle.arithmetic.proofs.GrowthTheorems.{shares_sum_to_leftover, plan_at}
use Rattle.arithmetic.proofs.Sums.{equal_summands_equal_sums, sum_of_equals, multiple_summands_multiple_sum, total_by_parts}

-- The largest of f 0, .., f (n - 1), 0 of none.
largest : (ℕ → ℕ) → ℕ → ℕ
largest f zero = 0
largest f (suc n) = max (largest f n) (f n)

at_most_largest : (f : ℕ → ℕ) (n k : ℕ) → k < n → f k ≤ largest f n
unfolding largest
at_most_largest f zero k h = absurd (omega arith)
at_most_largest f (suc n) k h = by (dec_lt k n) (at_most_largest f n k)
  where
    by : Dec (k < n) → (k < n → f k ≤ largest f n) → f k ≤ max (largest f n) (f n)
    by (yes p) ih = omega (arith, ih p)
    by (no p) ih = let e : k ≡ n = omega arith in omega (arith, ap f e)

largest_at_most : (f : ℕ → ℕ) (b n : ℕ) → ((k : ℕ) → k < n → f k ≤ b) → largest f n ≤ b
unfolding largest
largest_at_most f b zero h = zero-le
largest_at_most f b (suc n) h = omega (arith, largest_at_most f b n (λ k p. h k (omega arith)), h n (omega arith))

-- At a price of φ - θ for a unit, a child that has u - d units and misses its quota by a does no better than with s units, where it misses it by c.
abbrev NoBetter : ℕ → ℕ → ℕ → ℕ → ℕ → ℕ → ℕ → Type 0
NoBetter θ φ s c u d a = c + φ * u + θ * (s + d) ≤ a + φ * (s + d) + θ * u

-- One child, whose quota is b + r / (θ + φ).
module _ (θ φ b r s c u d a : ℕ) (above : u * (θ + φ) ≤ a + d * (θ + φ) + (b * (θ + φ) + r)) (below : d * (θ + φ) + (b * (θ + φ) + r) ≤ a + u * (θ + φ)) where
  times : {x y : ℕ} → x ≡ y → (θ * x ≡ θ * y) × (φ * x ≡ φ * y)
  times e = (ap (λ (z : ℕ). θ * z) e, ap (λ (z : ℕ). φ * z) e)

  -- What it has is above the floor of the quota, or it is not.
  sides : Dec (b + d < u) → ((y : ℕ) → u ≡ b + d + 1 + y → NoBetter θ φ s c u d a) → ((y : ℕ) → u + y ≡ b + d → NoBetter θ φ s c u d a) → NoBetter θ φ s c u d a
  sides (yes p) f g = f (u - (b + d + 1)) (omega arith)
  sides (no p) f g = g (b + d - u) (omega arith)

  one_child : ((s ≡ b) × (c ≡ r) × (r ≤ θ)) ⊎ ((s ≡ b + 1) × (c + r ≡ θ + φ) × (θ ≤ r)) → NoBetter θ φ s c u d a
  one_child (inl (e, f, g)) = sides (dec_lt (b + d) u) (λ y w. omega (arith, times w, times e)) (λ y w. omega (arith, times w, times e))
  one_child (inr (e, f, g)) = sides (dec_lt (b + d) u) (λ y w. omega (arith, times w, times e)) (λ y w. omega (arith, times w, times e))

all_children : (θ φ : ℕ) (s c u d a : ℕ → ℕ) (n : ℕ) → ((k : ℕ) → k < n → NoBetter θ φ (s k) (c k) (u k) (d k) (a k))
    → NoBetter θ φ (sum_to s n) (sum_to c n) (sum_to u n) (sum_to d n) (sum_to a n)
unfolding sum_to
all_children θ φ s c u d a zero h = omega arith
all_children θ φ s c u d a (suc n) h = omega (arith, all_children θ φ s c u d a n (λ k p. h k (omega arith)), h n (omega arith))

larger_comes_before : (a i b j : ℕ) → a < b → comes_before a i b j ≡ 1
unfolding comes_before
larger_comes_before a i b j h = simp (lt-ltb a b h)

-- What a list misses at place k: the difference of two numbers, either way round.
miss_by_parts : (l : ℕ) (grows : List ℕ) (n : ℕ) (xs : List ℤ) (k : ℕ)
    → miss l grows n xs k
    ≡ (up (get_or xs k (pos 0)) * grow_sum grows n - (down (get_or xs k (pos 0)) * grow_sum grows n + l * get_or grows k 0))
    + (down (get_or xs k (pos 0)) * grow_sum grows n + l * get_or grows k 0 - up (get_or xs k (pos 0)) * grow_sum grows n)
unfolding miss
miss_by_parts l grows n xs k = omega (arith, ints)

module _ (l : ℕ) (grows : List ℕ) (n : ℕ) (fits : n ≤ 128) (left : 0 < l) (some : 0 < grow_sum grows n) where
  -- T; the grow of a child, the floor of its quota, its remainder, its share; how many units are missing; and how many children come before one.
  abbrev t : ℕ
  t = grow_sum grows n

  abbrev g : ℕ → ℕ
  g k = get_or grows k 0

  abbrev b : ℕ → ℕ
  b = whole_share l grows n

  abbrev r : ℕ → ℕ
  r = rest l grows n

  abbrev s : ℕ → ℕ
  s = share l grows n

  abbrev m : ℕ
  m = missing l grows n

  abbrev before : ℕ → ℕ
  before = rank (remainder l grows n) n

  quota : (k : ℕ) → b k * t + r k ≡ l * g k
  unfolding whole_share
  quota k = div-add-mod' (l * g k) t

  rest_below : (k : ℕ) → r k < t
  rest_below k = mod-lt (l * g k) some

  -- Whether a child gets a unit; and its share by that.
  served : (k : ℕ) → Dec (before k < m)
  served k = dec_lt (before k) m

  by_unit : (k : ℕ) → k < n → Dec (before k < m) → ((s k ≡ b k) × (m ≤ before k)) ⊎ ((s k ≡ b k + 1) × (before k < m))
  by_unit k h (yes p) = inr (omega (arith, share_of_place l grows n k left some h, bit_yes (before k) m p), p)
  by_unit k h (no p) = inl (omega (arith, share_of_place l grows n k left some h, bit_no (before k) m (omega arith)), omega arith)

  -- Who gets a unit has no smaller remainder than who gets none.
  unit_to_no_smaller_rest : (j k : ℕ) → j < n → k < n → before k < m → m ≤ before j → r j ≤ r k
  unfolding remainder
  unit_to_no_smaller_rest j k p q h i = omega (arith, lower_rank_no_smaller (remainder l grows n) n fits k j q p (omega arith))

  -- No remainder gets no unit: the remainders together are m times t, each is below t, and each that is not 0 comes before it.
  no_rest_no_unit : (k : ℕ) → r k ≡ 0 → m ≤ before k
  unfolding rank missing remainder
  no_rest_no_unit k e =
      let w : m + sum_to b n ≡ l = omega (arith, whole_shares_within_leftover l grows n n (le_refl n) some) in
      le_of_mul-le-mul_right
      (omega (arith, shares_and_rests l grows n n, ap (λ (z : ℕ). z * t) w, multiple_summands_multiple_sum r (λ j. comes_before (remainder l grows n k) k (remainder l grows n j) j) t n (λ j h. by j (dec_lt 0 (r j)))))
      some
    where
      by : (j : ℕ) → Dec (0 < r j) → r j ≤ comes_before (remainder l grows n k) k (remainder l grows n j) j * t
      by j (yes p) = omega (arith, ap (λ (z : ℕ). z * t) (larger_comes_before (remainder l grows n k) k (remainder l grows n j) j (omega arith)), rest_below j)
      by j (no p) = omega arith

  share_of_no_grow : (k : ℕ) → k < n → g k ≡ 0 → s k ≡ 0
  unfolding whole_share
  share_of_no_grow k h e =
      ⊎_elim (λ p. p.0 ∙ simp (e, mul-zero l) (zero-div t)) (λ p. absurd (omega (arith, no_rest_no_unit k (simp (e, mul-zero l) (zero-mod t))))) (by_unit k h (served k))

  -- The remainder where no unit is given, otherwise 0; and the largest of these.
  abbrev unserved : ℕ → ℕ
  unserved k = cond (ltb (before k) m) 0 (r k)

  θ : ℕ
  θ = largest unserved n

  unserved_is : (k : ℕ) → Dec (before k < m) → ((before k < m) × (unserved k ≡ 0)) ⊎ ((m ≤ before k) × (unserved k ≡ r k))
  unserved_is k (yes h) = inl (h, simp (lt-ltb (before k) m h))
  unserved_is k (no h) = inr (omega arith, simp (le-ltb (before k) m (omega arith)))

  at_most_θ : (k : ℕ) → k < n → m ≤ before k → r k ≤ θ
  unfolding θ
  at_most_θ k h p = simp (le-ltb (before k) m p) at (at_most_largest unserved n k h)

  at_least_θ : (k : ℕ) → k < n → before k < m → θ ≤ r k
  unfolding θ
  at_least_θ k h p =
      largest_at_most unserved (r k) n
      (λ j q. ⊎_elim (λ z. omega arith) (λ z. omega (arith, unit_to_no_smaller_rest j k q h p z.0)) (unserved_is j (served j)))

  θ_within_t : θ ≤ t
  unfolding θ
  θ_within_t = largest_at_most unserved t n (λ k h. ⊎_elim (λ z. omega arith) (λ z. omega (arith, rest_below k)) (unserved_is k (served k)))

  -- A list with the shares at its places.
  module _ (xs : List ℤ) (shares : (k : ℕ) → k < n → get_or xs k (pos 0) ≡ pos (s k)) where
    sum_is : total (take n xs) ≡ pos l
    sum_is =
        omega
        (arith, ints, total_by_parts n xs, sum_of_equals (λ k. down (get_or xs k (pos 0))) 0 n (λ k h. ap down (shares k h)), equal_summands_equal_sums (λ k. up (get_or xs k (pos 0))) s n (λ k h. ap up (shares k h)), shares_sum_to_leftover l grows n fits left some)

    -- What it misses at each place.
    missed : (φ : ℕ) → θ + φ ≡ t → (k : ℕ) → k < n
        → ((s k ≡ b k) × (miss l grows n xs k ≡ r k) × (r k ≤ θ)) ⊎ ((s k ≡ b k + 1) × (miss l grows n xs k + r k ≡ θ + φ) × (θ ≤ r k))
    missed φ parts k h =
        ⊎_elim (λ p. inl (p.0, low p.0, at_most_θ k h p.1)) (λ p. inr (p.0, high p.0, at_least_θ k h p.1)) (by_unit k h (served k))
      where
        low : s k ≡ b k → miss l grows n xs k ≡ r k
        low e = omega (arith, quota k, rw (shares k h) at (miss_by_parts l grows n xs k), ap (λ (z : ℕ). z * t) e)

        high : s k ≡ b k + 1 → miss l grows n xs k + r k ≡ θ + φ
        high e = omega (arith, quota k, rw (shares k h) at (miss_by_parts l grows n xs k), ap (λ (z : ℕ). z * t) e, rest_below k)

    least_by : (φ : ℕ) → θ + φ ≡ t → (others : List ℤ) → total (take n others) ≡ pos l → total_miss l grows n xs ≤ total_miss l grows n others
    unfolding total_miss
    least_by φ parts ys e =
        omega (arith, ap (λ (z : ℕ). θ * z) even, ap (λ (z : ℕ). φ * z) even, all_children θ φ s (miss l grows n xs) (λ k. up (get_or ys k (pos 0))) (λ k. down (get_or ys k (pos 0))) (miss l grows n ys) n one)
      where
        even : sum_to (λ k. up (get_or ys k (pos 0))) n ≡ sum_to s n + sum_to (λ k. down (get_or ys k (pos 0))) n
        even = omega (arith, ints, total_by_parts n ys, e, shares_sum_to_leftover l grows n fits left some)

        one : (k : ℕ) → k < n → NoBetter θ φ (s k) (miss l grows n xs k) (up (get_or ys k (pos 0))) (down (get_or ys k (pos 0))) (miss l grows n ys k)
        one k h =
            one_child θ φ (b k) (r k) (s k) (miss l grows n xs k) (up (get_or ys k (pos 0))) (down (get_or ys k (pos 0))) (miss l grows n ys k)
            (rw (parts, quota k) (omega (arith, miss_by_parts l grows n ys k)))
            (rw (parts, quota k) (omega (arith, miss_by_parts l grows n ys k)))
            (missed φ parts k h)

    fair_list : Fair l grows n xs
    unfolding whole_share
    fair_list = record {
      sum_is_the_leftover = sum_is;
      floor_or_one_more = λ k h. ⊎_elim (λ p. inl (shares k h ∙ ap pos p.0)) (λ p. inr (shares k h ∙ ap pos p.0)) (by_unit k h (served k));
      no_grow_no_share = λ k h e. shares k h ∙ ap pos (share_of_no_grow k h e);
      least_total = least_by (t - θ) (omega (arith, θ_within_t));
    }

pub fair_shares : FairShares
fair_shares = record {
  fair = λ l grows count left some. fair_list l grows (min count 128) (omega arith) left some (plan_growth (pos l) grows count) (λ k h. plan_at l grows count k (omega arith));
  shares_of_7 = shares_of_7;
  totals_of_7 = totals_of_7;
}
