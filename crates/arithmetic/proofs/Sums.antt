-- Sums and tables over the first n numbers, and lists that a loop fills from the front. All by induction on n. Assumes nothing.
use mathlib.Core.Path.{◌≡◌, refl, sym, ◌∙◌, ap, ap₂, subst}
use mathlib.Core.List.{List, [], ◌∷◌}
use Prim.Native.Nat.{ℕ, zero, suc, ◌+◌, ◌*◌, ◌-◌, ◌≤◌, ◌<◌, zero-le}
use native.Mathlib.Nat.{le_of_suc-le-suc, not-suc-le-zero, add-mul, add-zero, le_refl, lt_irrefl}
use native.Mathlib.Numerals.{add-one}
use native.Mathlib.Decide.{dec_lt}
use native.Mathlib.Omega.{arith}
use borrow.Author.Differences.{up, down}
use Rattle.std.proofs.lemmas.Int.{ints}
use lib.IntN.{ℤ, pos}
use lib.ListN.{get_or, length, set, replicate, take}
use lib.Seq.{get_or-set_same, get_or-set_other, ext_get_or, take-length}
use borrow.Author.Count.{below_more}
use Rattle.std.specs.Prelude.{sum}
use Rattle.std.proofs.lemmas.List.Sums.{fold_more}
use Rattle.arithmetic.specs.Growth.{sum_to, total, table}

pub sum_of_none : (f : ℕ → ℕ) → sum_to f 0 ≡ 0
unfolding sum_to
sum_of_none f = refl

pub sum_of_one_more : (f : ℕ → ℕ) (i : ℕ) → sum_to f (i + 1) ≡ sum_to f i + f i
unfolding sum_to
sum_of_one_more f i = rw add-one

pub equal_summands_equal_sums : (f g : ℕ → ℕ) (n : ℕ) → ((k : ℕ) → k < n → f k ≡ g k) → sum_to f n ≡ sum_to g n
unfolding sum_to
equal_summands_equal_sums f g zero h = refl
equal_summands_equal_sums f g (suc n) h =
    ap₂ ◌+◌ (equal_summands_equal_sums f g n (λ k p. h k (omega arith))) (h n (omega arith))

pub sum_of_equals : (f : ℕ → ℕ) (m n : ℕ) → ((k : ℕ) → k < n → f k ≡ m) → sum_to f n ≡ n * m
unfolding sum_to
sum_of_equals f m zero h = omega arith
sum_of_equals f m (suc n) h =
    omega (arith, sum_of_equals f m n (λ k p. h k (omega arith)), h n (omega arith), add-mul n 1 m)

pub bounded_summands_bounded_sum : (f : ℕ → ℕ) (m n : ℕ) → ((k : ℕ) → k < n → f k ≤ m) → sum_to f n ≤ n * m
unfolding sum_to
bounded_summands_bounded_sum f m zero h = zero-le
bounded_summands_bounded_sum f m (suc n) h =
    omega (arith, bounded_summands_bounded_sum f m n (λ k p. h k (omega arith)), h n (omega arith), add-mul n 1 m)

pub multiple_summands_multiple_sum : (f g : ℕ → ℕ) (m n : ℕ) → ((k : ℕ) → k < n → f k ≤ g k * m) → sum_to f n ≤ sum_to g n * m
unfolding sum_to
multiple_summands_multiple_sum f g m zero h = zero-le
multiple_summands_multiple_sum f g m (suc n) h =
    omega (arith, multiple_summands_multiple_sum f g m n (λ k p. h k (omega arith)), h n (omega arith))

pub smaller_summands_smaller_sum : (f g : ℕ → ℕ) (n : ℕ) → ((k : ℕ) → k < n → f k ≤ g k) → sum_to f n ≤ sum_to g n
unfolding sum_to
smaller_summands_smaller_sum f g zero h = zero-le
smaller_summands_smaller_sum f g (suc n) h =
    omega (arith, smaller_summands_smaller_sum f g n (λ k p. h k (omega arith)), h n (omega arith))

pub one_smaller_summand_smaller_sum : (f g : ℕ → ℕ) (n k : ℕ) → ((j : ℕ) → j < n → f j ≤ g j) → k < n → f k < g k → sum_to f n < sum_to g n
unfolding sum_to
one_smaller_summand_smaller_sum f g zero k h l s = absurd (not-suc-le-zero l)
one_smaller_summand_smaller_sum f g (suc n) k h l s =
    by (dec_lt k n) (λ p. one_smaller_summand_smaller_sum f g n k (λ j q. h j (omega arith)) p s)
  where
    by : Dec (k < n) → (k < n → sum_to f n < sum_to g n) → sum_to f n + f n < sum_to g n + g n
    by (yes p) ih = omega (arith, ih p, h n (omega arith))
    by (no p) ih =
        let e : k ≡ n = omega arith in
        omega (arith, smaller_summands_smaller_sum f g n (λ j q. h j (omega arith)), rw e at s)

pub sum_of_sums : (f g : ℕ → ℕ) (n : ℕ) → sum_to (λ k. f k + g k) n ≡ sum_to f n + sum_to g n
unfolding sum_to
sum_of_sums f g zero = refl
sum_of_sums f g (suc n) = omega (arith, sum_of_sums f g n)

more_summands_by_steps : (f : ℕ → ℕ) (m d : ℕ) → sum_to f m ≤ sum_to f (m + d)
more_summands_by_steps f m zero = rw add-zero (le_refl (sum_to f m))
more_summands_by_steps f m (suc d) =
    omega (arith, more_summands_by_steps f m d, ap (sum_to f) (suc_is m d), sum_of_one_more f (m + d))
  where
    suc_is : (m d : ℕ) → m + suc d ≡ m + d + 1
    suc_is m d = omega arith

pub more_summands_larger_sum : (f : ℕ → ℕ) (m n : ℕ) → m ≤ n → sum_to f m ≤ sum_to f n
more_summands_larger_sum f m n h =
    let e : m + (n - m) ≡ n = omega arith in rw e at (more_summands_by_steps f m (n - m))

pub summand_at_most_sum : (f : ℕ → ℕ) (n k : ℕ) → k < n → f k ≤ sum_to f n
summand_at_most_sum f n k h =
    omega (arith, sum_of_one_more f k, more_summands_larger_sum f (k + 1) n (omega arith))

pub sum_from_front : (f : ℕ → ℕ) (n : ℕ) → sum_to f (suc n) ≡ f 0 + sum_to (λ k. f (suc k)) n
unfolding sum_to
sum_from_front f zero = omega arith
sum_from_front f (suc n) = omega (arith, sum_from_front f n)

-- The total of whole numbers by what lies above zero and what below.
pub total_by_parts : (n : ℕ) (xs : List ℤ) → up (total (take n xs)) + sum_to (λ k. down (get_or xs k (pos 0))) n ≡ sum_to (λ k. up (get_or xs k (pos 0))) n + down (total (take n xs))
unfolding total
total_by_parts zero xs = omega (arith, sum_of_none (λ k. down (get_or xs k (pos 0))), sum_of_none (λ k. up (get_or xs k (pos 0))))
total_by_parts (suc n) [] =
    omega (arith, sum_of_equals (λ k. down (get_or [] k (pos 0))) 0 (suc n) (λ k h. refl), sum_of_equals (λ k. up (get_or [] k (pos 0))) 0 (suc n) (λ k h. refl))
total_by_parts (suc n) (x ∷ xs) =
    omega (arith, ints, total_by_parts n xs, sum_from_front (λ k. down (get_or (x ∷ xs) k (pos 0))) n, sum_from_front (λ k. up (get_or (x ∷ xs) k (pos 0))) n)

sum_of_front : (xs : List ℕ) (n : ℕ) → n ≤ length xs → sum (take n xs) ≡ sum_to (λ k. get_or xs k 0) n
unfolding sum_to
sum_of_front xs zero h = refl
sum_of_front xs (suc n) h =
    ap (λ (m : ℕ). sum (take m xs)) (sym (add-one n)) ∙ fold_more (λ a x. a + x) 0 xs n 0 (omega arith)
    ∙ ap (λ (t : ℕ). t + get_or xs n 0) (sum_of_front xs n (omega arith))

-- The sum of a list as the sum over its places.
pub sum_of_places : (xs : List ℕ) → sum xs ≡ sum_to (λ k. get_or xs k 0) (length xs)
sum_of_places xs = ap sum (sym (take-length xs)) ∙ sum_of_front xs (length xs) (le_refl (length xs))

pub table_length : {X : Type 0} (n : ℕ) (f : ℕ → X) → length (table n f) ≡ n
unfolding table
table_length zero f = refl
table_length (suc n) f = ap suc (table_length n (λ k. f (suc k)))

pub table_at : {X : Type 0} (n k : ℕ) (f : ℕ → X) (d : X) → k < n → get_or (table n f) k d ≡ f k
unfolding table
table_at zero k f d h = absurd (not-suc-le-zero h)
table_at (suc n) zero f d h = refl
table_at (suc n) (suc k) f d h = table_at n k (λ j. f (suc j)) d (le_of_suc-le-suc h)

-- A list with the elements of a table is that table.
pub list_is_table : {X : Type 0} (n : ℕ) (f : ℕ → X) (d : X) (xs : List X) → length xs ≡ n → ((k : ℕ) → k < n → get_or xs k d ≡ f k) → xs ≡ table n f
list_is_table n f d xs h e =
    ext_get_or d xs (table n f) (h ∙ sym (table_length n f))
    (λ k l. let m : k < n = subst (λ (x : ℕ). k < x) h l in e k m ∙ sym (table_at n k f d m))

-- A list filled from the front by f stays so after one store more.
pub filled_one_further : {X : Type 0} (f : ℕ → X) (xs : List X) (i : ℕ) (v d : X) → i < length xs → v ≡ f i → ((k : ℕ) → k < i → get_or xs k d ≡ f k) → (k : ℕ) → k < i + 1 → get_or (set xs i v) k d ≡ f k
filled_one_further f xs i v d h e p =
    below_more (λ k. get_or (set xs i v) k d ≡ f k) i
    (λ k q. get_or-set_other xs i k v d (λ z. lt_irrefl i (subst (λ (j : ℕ). j < i) z q)) ∙ p k q)
    (get_or-set_same xs i v d h ∙ e)

pub repeated_at : {X : Type 0} (n k : ℕ) (d : X) → get_or (replicate n d) k d ≡ d
repeated_at zero k d = refl
repeated_at (suc n) zero d = refl
repeated_at (suc n) (suc k) d = repeated_at n k d
