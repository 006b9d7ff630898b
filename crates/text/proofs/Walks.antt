-- Walks over a list of bytes, a place at a time: back to a byte that is no tail, and forward while a test holds. Assumes nothing.
use mathlib.Core.Path.{◌≡◌, refl, sym, ap, ◌∙◌}
use mathlib.Core.Bool.{Bool, true, false, cond}
use mathlib.Core.List.{List, [], ◌∷◌}
use Prim.Native.Nat.{ℕ, zero, suc, ◌+◌, ◌-◌, ◌≤◌, ◌<◌}
use native.Mathlib.Numerals.{add-one}
use native.Mathlib.Omega.{arith}
use borrow.Author.Tests.{lt-leb}
use lib.ListN.{length, get_or, drop, drop_of_length-le, get_or-eq_default, take, length-drop}
use lib.Seq.{drop-cons, take-length}
use Rattle.std.proofs.lemmas.List.{get_or-drop}
use Rattle.arithmetic.specs.Tests.{within}
use Rattle.text.specs.Steps.{is_tail, back_of, front}

-- the walk back ends here: at a byte that is no tail, and none stands past the bytes
pub back_ends_at_no_tail : (s : List ℕ) (i : ℕ) → is_tail (get_or s i 0) ≡ false → back_of s i ≡ i
unfolding back_of
back_ends_at_no_tail s zero e = refl
back_ends_at_no_tail s (suc i) e = rw e

pub no_tail_past : (s : List ℕ) (i : ℕ) → length s ≤ i → is_tail (get_or s i 0) ≡ false
unfolding within
no_tail_past s i h = ap is_tail (get_or-eq_default s 0 h) ∙ rw (lt-leb 0x80 0 (omega arith))

-- or goes on before a tail
pub back_goes_on : (s : List ℕ) (i : ℕ) → 0 < i → is_tail (get_or s i 0) ≡ true → back_of s i ≡ back_of s (i - 1)
unfolding back_of
back_goes_on s zero p e = absurd (omega arith)
back_goes_on s (suc i) p e = let z : suc i - 1 ≡ i = omega arith in rw (z, e)

pub back_not_after : (s : List ℕ) (i : ℕ) → back_of s i ≤ i
unfolding back_of
back_not_after s zero = omega arith
back_not_after s (suc i) = go (is_tail (get_or s (suc i) 0)) (back_not_after s i)
  where
    go : (t : Bool) → back_of s i ≤ i → cond t (back_of s i) (suc i) ≤ suc i
    go true h = omega arith
    go false h = omega arith

module _ (t : ℕ → Bool) (s : List ℕ) (i : ℕ) where
  -- the walk forward ends here, goes on, or ends at the end
  pub front_ends : i < length s → t (get_or s i 0) ≡ false → front t (drop i s) ≡ 0
  unfolding front
  front_ends h e = rw (drop-cons s i 0, e)

  pub front_goes_on : i < length s → t (get_or s i 0) ≡ true → front t (drop i s) ≡ suc (front t (drop (i + 1) s))
  unfolding front
  front_goes_on h e = rw (add-one, drop-cons s i 0, e)

  pub front_of_none : length s ≤ i → front t (drop i s) ≡ 0
  unfolding front
  front_of_none h = rw (drop_of_length-le s h)

pub front_not_longer : (t : ℕ → Bool) (s : List ℕ) → front t s ≤ length s
unfolding front
front_not_longer t [] = omega arith
front_not_longer t (b ∷ s) = go (t b) (front_not_longer t s)
  where
    go : (k : Bool) → front t s ≤ length s → cond k (suc (front t s)) 0 ≤ suc (length s)
    go true h = omega arith
    go false h = omega arith

-- what is lent from place n on
pub lent_from : (n : ℕ) (s : List ℕ) → take (length s - n) (drop n s) ≡ drop n s
lent_from n s = ap (λ (k : ℕ). take k (drop n s)) (sym (length-drop n s)) ∙ take-length (drop n s)

pub lent_at : (n : ℕ) (s : List ℕ) (i : ℕ) → get_or (take (length s - n) (drop n s)) i 0 ≡ get_or s (n + i) 0
lent_at n s i = ap (λ (l : List ℕ). get_or l i 0) (lent_from n s) ∙ get_or-drop n s i 0
