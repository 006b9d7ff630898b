-- Bytes sort as the codes that they write. Of two codes the smaller one has the smaller first byte, or the same first byte and a smaller second
-- one, and so on: a shorter form begins lower, and in forms of one length each byte is a digit of the code. What follows the two characters is not
-- looked at, so texts are compared at the first characters that differ. Assumes nothing.
use mathlib.Core.Path.{◌≡◌, refl, sym, ap, ap₂, ◌∙◌}
use mathlib.Core.Bool.{Bool, true, false, false≢true, cond}
use mathlib.Core.List.{List, [], ◌∷◌, ◌++◌, append-nil}
use Prim.Native.Nat.{ℕ, ◌+◌, ◌/◌, ◌%◌, ◌≤◌, ◌<◌}
use native.Mathlib.Omega.{arith}
use borrow.Author.Tests.{eq-eqb, ne_eqb, eqb-true, eqb-false, lt-ltb, le-ltb, ltb-true, ltb-false}
use lib.Dec.{eqb, ltb}
use Rattle.text.specs.Utf8.{is_scalar, all_scalars, encoded, encoded_all}
use Rattle.text.specs.Rfc3629.{before}
use Rattle.arithmetic.proofs.BoolLaws.{and_left, and_right}
use Rattle.text.proofs.Scalars.{encoded_one, encoded_two, encoded_three, encoded_four, Size, size_of}
use Rattle.text.proofs.Scalars.Size.{of_one, of_two, of_three, of_four}
use Rattle.text.proofs.Shapes.{shape}

-- ---- lists by their first numbers

first_smaller : (x y : ℕ) (s t : List ℕ) → x < y → before (x ∷ s) (y ∷ t) ≡ true
unfolding before
first_smaller x y s t h = rw (ne_eqb x y (λ e. omega arith), lt-ltb x y h)

first_larger : (x y : ℕ) (s t : List ℕ) → y < x → before (x ∷ s) (y ∷ t) ≡ false
unfolding before
first_larger x y s t h = rw (ne_eqb x y (λ e. omega arith), le-ltb x y (omega arith))

first_same : (x y : ℕ) (s t : List ℕ) → x ≡ y → before (x ∷ s) (y ∷ t) ≡ before s t
unfolding before
first_same x y s t e = rw (eq-eqb x y e)

-- smaller, or the same and smaller behind it
in_turn : (x y : ℕ) (s t : List ℕ) → x ≤ y → (x ≡ y → before s t ≡ true) → before (x ∷ s) (y ∷ t) ≡ true
in_turn x y s t h k = go (eqb x y) refl
  where
    go : (b : Bool) → eqb x y ≡ b → before (x ∷ s) (y ∷ t) ≡ true
    go true e = let q = eqb-true x y e in first_same x y s t q ∙ k q
    go false e = let q = eqb-false x y e in first_smaller x y s t (omega arith)

-- the same beginning is passed over
begun_alike : (u s t : List ℕ) → before (u ++ s) (u ++ t) ≡ before s t
begun_alike [] s t = refl
begun_alike (x ∷ u) s t = first_same x x (u ++ s) (u ++ t) refl ∙ begun_alike u s t

-- of two lists not both stand before the other
one_way : (s t : List ℕ) → before s t ≡ true → before t s ≡ false
unfolding before
one_way [] [] h = refl
one_way [] (y ∷ t) h = refl
one_way (x ∷ s) [] h = absurd (false≢true h)
one_way (x ∷ s) (y ∷ t) h = go (eqb x y) (ltb x y) refl refl (λ k. one_way s t k)
  where
    go : (b k : Bool) → eqb x y ≡ b → ltb x y ≡ k → (before s t ≡ true → before t s ≡ false) → before (y ∷ t) (x ∷ s) ≡ false
    go true k e f ih = let q = eqb-true x y e in first_same y x t s (sym q) ∙ ih (sym (first_same x y s t q) ∙ h)
    go false true e f ih = first_larger y x t s (ltb-true x y f)
    go false false e f ih =
        let q = eqb-false x y e in
        let m = ltb-false x y f in
        absurd (false≢true (sym (first_larger x y s t (omega arith)) ∙ h))

-- ---- characters

-- a byte that carries six bits: where all above it is alike, the smaller number's is no larger, and the last one's is smaller
module _ (a b : ℕ) (above : a / 64 ≡ b / 64) where
  byte_rises : a ≤ b → 0x80 + a % 64 ≤ 0x80 + b % 64
  byte_rises h = omega arith

  last_byte_rises : a < b → 0x80 + a % 64 < 0x80 + b % 64
  last_byte_rises h = omega arith

  byte_is_all : 0x80 + a % 64 ≡ 0x80 + b % 64 → a ≡ b
  byte_is_all e = omega arith

module _ (a b : ℕ) (l : a < b) where
  two_bytes_rise : (s t : List ℕ) → before ((0xC0 + a / 64) ∷ (0x80 + a % 64) ∷ s) ((0xC0 + b / 64) ∷ (0x80 + b % 64) ∷ t) ≡ true
  two_bytes_rise s t = in_turn _ _ _ _ (omega arith) (λ e. first_smaller _ _ _ _ (last_byte_rises a b (omega arith) l))

  -- the last two bytes of a longer form
  ends_rise : (s t : List ℕ) → a / 64 / 64 ≡ b / 64 / 64
      → before ((0x80 + a / 64 % 64) ∷ (0x80 + a % 64) ∷ s) ((0x80 + b / 64 % 64) ∷ (0x80 + b % 64) ∷ t) ≡ true
  ends_rise s t e =
      in_turn _ _ _ _ (byte_rises (a / 64) (b / 64) e (omega arith))
      (λ f. first_smaller _ _ _ _ (last_byte_rises a b (byte_is_all (a / 64) (b / 64) e f) l))

  three_bytes_rise : (s t : List ℕ)
      → before ((0xE0 + a / 4096) ∷ (0x80 + a / 64 % 64) ∷ (0x80 + a % 64) ∷ s) ((0xE0 + b / 4096) ∷ (0x80 + b / 64 % 64) ∷ (0x80 + b % 64) ∷ t) ≡ true
  three_bytes_rise s t = in_turn _ _ _ _ (omega arith) (λ e. ends_rise s t (omega arith))

  four_bytes_rise : (s t : List ℕ)
      → before ((0xF0 + a / 262144) ∷ (0x80 + a / 4096 % 64) ∷ (0x80 + a / 64 % 64) ∷ (0x80 + a % 64) ∷ s)
      ((0xF0 + b / 262144) ∷ (0x80 + b / 4096 % 64) ∷ (0x80 + b / 64 % 64) ∷ (0x80 + b % 64) ∷ t)
      ≡ true
  four_bytes_rise s t =
      in_turn _ _ _ _ (omega arith)
      (λ e. let d : a / 4096 / 64 ≡ b / 4096 / 64 = omega arith in
      in_turn _ _ _ _ (byte_rises (a / 4096) (b / 4096) d (omega arith))
      (λ f. let g = byte_is_all (a / 4096) (b / 4096) d f in ends_rise s t (omega (arith, g))))

smaller_sorts_first : (a b : ℕ) (s t : List ℕ) → Size a → Size b → a < b → before (encoded a ++ s) (encoded b ++ t) ≡ true
smaller_sorts_first a b s t (of_one h) (of_one k) l = rw (encoded_one a h, encoded_one b k) (first_smaller a b s t l)
smaller_sorts_first a b s t (of_one h) (of_two i k) l = rw (encoded_one a h, encoded_two b i k) (first_smaller _ _ _ _ (omega arith))
smaller_sorts_first a b s t (of_one h) (of_three i k) l = rw (encoded_one a h, encoded_three b i k) (first_smaller _ _ _ _ (omega arith))
smaller_sorts_first a b s t (of_one h) (of_four i) l = rw (encoded_one a h, encoded_four b i) (first_smaller _ _ _ _ (omega arith))
smaller_sorts_first a b s t (of_two g h) (of_one k) l = absurd (omega arith)
smaller_sorts_first a b s t (of_two g h) (of_two i k) l = rw (encoded_two a g h, encoded_two b i k) (two_bytes_rise a b l s t)
smaller_sorts_first a b s t (of_two g h) (of_three i k) l = rw (encoded_two a g h, encoded_three b i k) (first_smaller _ _ _ _ (omega arith))
smaller_sorts_first a b s t (of_two g h) (of_four i) l = rw (encoded_two a g h, encoded_four b i) (first_smaller _ _ _ _ (omega arith))
smaller_sorts_first a b s t (of_three g h) (of_one k) l = absurd (omega arith)
smaller_sorts_first a b s t (of_three g h) (of_two i k) l = absurd (omega arith)
smaller_sorts_first a b s t (of_three g h) (of_three i k) l = rw (encoded_three a g h, encoded_three b i k) (three_bytes_rise a b l s t)
smaller_sorts_first a b s t (of_three g h) (of_four i) l = rw (encoded_three a g h, encoded_four b i) (first_smaller _ _ _ _ (omega arith))
smaller_sorts_first a b s t (of_four g) (of_one k) l = absurd (omega arith)
smaller_sorts_first a b s t (of_four g) (of_two i k) l = absurd (omega arith)
smaller_sorts_first a b s t (of_four g) (of_three i k) l = absurd (omega arith)
smaller_sorts_first a b s t (of_four g) (of_four i) l = rw (encoded_four a g, encoded_four b i) (four_bytes_rise a b l s t)

-- two characters before anything: the texts behind them count where the codes are the same
characters_decide : (a b : ℕ) (s t : List ℕ) → before (encoded a ++ s) (encoded b ++ t) ≡ cond (eqb a b) (before s t) (ltb a b)
characters_decide a b s t = go (eqb a b) (ltb a b) refl refl
  where
    go : (e l : Bool) → eqb a b ≡ e → ltb a b ≡ l → before (encoded a ++ s) (encoded b ++ t) ≡ cond e (before s t) l
    go true l p q = rw (eqb-true a b p) (begun_alike (encoded b) s t)
    go false true p q = smaller_sorts_first a b s t (size_of a) (size_of b) (ltb-true a b q)
    go false false p q =
        let n = eqb-false a b p in
        let m = ltb-false a b q in
        one_way (encoded b ++ t) (encoded a ++ s) (smaller_sorts_first b a t s (size_of b) (size_of a) (omega arith))

pub characters_sort_as_codes : (a b : ℕ) → before (encoded a) (encoded b) ≡ ltb a b
unfolding before
characters_sort_as_codes a b =
    ap₂ before (sym (append-nil (encoded a))) (sym (append-nil (encoded b))) ∙ characters_decide a b [] [] ∙ go (eqb a b) refl
  where
    go : (e : Bool) → eqb a b ≡ e → cond e (before [] []) (ltb a b) ≡ ltb a b
    go true p = let q = eqb-true a b p in sym (le-ltb a b (omega arith))
    go false p = refl

-- ---- texts

pub texts_sort_as_their_codes : (cs ds : List ℕ) → all_scalars cs ≡ true → all_scalars ds ≡ true → before (encoded_all cs) (encoded_all ds) ≡ before cs ds
unfolding before encoded_all all_scalars
texts_sort_as_their_codes [] [] h k = refl
texts_sort_as_their_codes [] (d ∷ ds) h k = let p = shape d (and_left (is_scalar d) (all_scalars ds) k) in rw p.parts
texts_sort_as_their_codes (c ∷ cs) [] h k = let p = shape c (and_left (is_scalar c) (all_scalars cs) h) in rw p.parts
texts_sort_as_their_codes (c ∷ cs) (d ∷ ds) h k =
    characters_decide c d (encoded_all cs) (encoded_all ds)
    ∙ ap (λ (x : Bool). cond (eqb c d) x (ltb c d))
    (texts_sort_as_their_codes cs ds (and_right (is_scalar c) (all_scalars cs) h) (and_right (is_scalar d) (all_scalars ds) k))
