-- A character's bytes are one that is no tail, and then tails: so a walk over tails is a walk over a character. Assumes nothing.
use mathlib.Core.Path.{◌≡◌, refl, sym, ap, ap₂, ◌∙◌}
use mathlib.Core.Bool.{true, false}
use mathlib.Core.List.{List, [], ◌∷◌, ◌++◌, append_assoc}
use Prim.Native.Nat.{ℕ, zero, suc, ◌+◌, ◌-◌, ◌/◌, ◌%◌, ◌≤◌, ◌<◌}
use native.Mathlib.Nat.{add-zero, add-suc}
use native.Mathlib.Omega.{arith}
use borrow.Author.Tests.{lt-leb, le-leb, lt-ltb}
use lib.ListN.{length, get_or, drop, length-drop, length-append, get_or-append}
use lib.Seq.{drop-drop, get_or-append-add, get_or-append_seam}
use Rattle.arithmetic.specs.Tests.{within}
use Rattle.text.specs.Utf8.{is_scalar, all_scalars, encoded, encoded_all}
use Rattle.arithmetic.proofs.BoolLaws.{within_yes, and_left}
use Rattle.text.proofs.Scalars.{encoded_one, encoded_two, encoded_three, encoded_four, Size, size_of}
use Rattle.text.proofs.Scalars.Size.{of_one, of_two, of_three, of_four}
use Rattle.text.specs.Steps.{is_tail, back_of, front, step_back, step_forward}
use Rattle.text.proofs.Walks.{back_ends_at_no_tail}

abbrev pub Tails : List ℕ → Type 0
Tails [] = Unit
Tails (b ∷ s) = (is_tail b ≡ true) × Tails s

pub record Shape (s : List ℕ) : Type 0 where
  pub lead : ℕ
  pub rest : List ℕ
  pub parts : s ≡ lead ∷ rest
  pub first : is_tail lead ≡ false
  pub others : Tails rest
  pub few : length rest ≤ 3

low : (x : ℕ) → x < 0x80 → is_tail x ≡ false
unfolding within
low x h = rw (lt-leb 0x80 x h)

high : (x : ℕ) → 0xBF < x → is_tail x ≡ false
unfolding within
high x h = rw (le-leb 0x80 x (omega arith), lt-leb x 0xBF h)

pub six_bits_are_a_tail : (x : ℕ) → is_tail (0x80 + x % 64) ≡ true
six_bits_are_a_tail x = within_yes 0x80 0xBF (0x80 + x % 64) (omega arith) (omega arith)

pub shape : (c : ℕ) → is_scalar c ≡ true → Shape (encoded c)
shape c h = by_size (size_of c)
  where
    by_size : Size c → Shape (encoded c)
    by_size (of_one m) = record { lead = c; rest = []; parts = encoded_one c m; first = low c (omega arith); others = tt; few = omega arith }
    by_size (of_two l m) = record {
      lead = 0xC0 + c / 64;
      rest = (0x80 + c % 64) ∷ [];
      parts = encoded_two c l m;
      first = high (0xC0 + c / 64) (omega arith);
      others = (six_bits_are_a_tail c, tt);
      few = omega arith;
    }
    by_size (of_three l m) = record {
      lead = 0xE0 + c / 4096;
      rest = (0x80 + c / 64 % 64) ∷ (0x80 + c % 64) ∷ [];
      parts = encoded_three c l m;
      first = high (0xE0 + c / 4096) (omega arith);
      others = (six_bits_are_a_tail (c / 64), (six_bits_are_a_tail c, tt));
      few = omega arith;
    }
    by_size (of_four l) = record {
      lead = 0xF0 + c / 262144;
      rest = (0x80 + c / 4096 % 64) ∷ (0x80 + c / 64 % 64) ∷ (0x80 + c % 64) ∷ [];
      parts = encoded_four c l;
      first = high (0xF0 + c / 262144) (omega arith);
      others = (six_bits_are_a_tail (c / 4096), (six_bits_are_a_tail (c / 64), (six_bits_are_a_tail c, tt)));
      few = omega arith;
    }

tail_at : (ts : List ℕ) (j : ℕ) → Tails ts → j < length ts → is_tail (get_or ts j 0) ≡ true
tail_at [] j t h = absurd (omega arith)
tail_at (b ∷ ts) zero t h = t.0
tail_at (b ∷ ts) (suc j) t h = tail_at ts j t.1 (omega arith)

-- back from the last of a character's bytes to its first
pub back_over : (u : List ℕ) (l : ℕ) (ts r : List ℕ) → is_tail l ≡ false → Tails ts
    → (j : ℕ) → j ≤ length ts → back_of (u ++ (l ∷ ts ++ r)) (length u + j) ≡ length u
unfolding back_of
back_over u l ts r e t zero h =
    rw (add-zero (length u)) (back_ends_at_no_tail (u ++ (l ∷ ts ++ r)) (length u) (ap is_tail (get_or-append_seam u l (ts ++ r) 0) ∙ e))
back_over u l ts r e t (suc j) h =
    let k : is_tail (get_or (u ++ (l ∷ ts ++ r)) (suc (length u + j)) 0) ≡ true =
    ap (λ (i : ℕ). is_tail (get_or (u ++ (l ∷ ts ++ r)) i 0)) (sym (add-suc (length u) j))
    ∙ ap is_tail (get_or-append-add u (l ∷ ts ++ r) (suc j) 0 ∙ get_or-append ts r 0 j h) ∙ tail_at ts j t h in
    rw (add-suc (length u) j, k) (back_over u l ts r e t j (omega arith))

pub tails_over : (ts r : List ℕ) → Tails ts → front is_tail r ≡ 0 → front is_tail (ts ++ r) ≡ length ts
unfolding front
tails_over [] r t e = e
tails_over (b ∷ ts) r t e = rw t.0 (ap suc (tails_over ts r t.1 e))

-- a text starts with no tail
pub tails_start : (cs : List ℕ) → all_scalars cs ≡ true → front is_tail (encoded_all cs) ≡ 0
unfolding front encoded_all all_scalars
tails_start [] h = refl
tails_start (c ∷ cs) h = let s = shape c (and_left (is_scalar c) (all_scalars cs) h) in rw (s.parts, s.first)

-- back over the character before a place
pub step_back_is_one_character : (u : List ℕ) (c : ℕ) (r : List ℕ) → is_scalar c ≡ true
    → step_back ((u ++ encoded c) ++ r) (length (u ++ encoded c)) ≡ length u
unfolding step_back
step_back_is_one_character u c r h =
    let p = shape c h in
    let d : (u ++ encoded c) ++ r ≡ u ++ (p.lead ∷ p.rest ++ r) =
    append_assoc u (encoded c) r ∙ ap (λ (l : List ℕ). u ++ (l ++ r)) p.parts in
    let n : length (u ++ encoded c) - 1 ≡ length u + length p.rest =
    omega (arith, length-append u (encoded c), ap length p.parts) in
    ap₂ back_of d n ∙ back_over u p.lead p.rest r p.first p.others (length p.rest) (omega arith)

-- forward over the character after a place
pub step_forward_is_one_character : (s : List ℕ) (at c : ℕ) (cs : List ℕ) → is_scalar c ≡ true → all_scalars cs ≡ true
    → drop at s ≡ encoded c ++ encoded_all cs → step_forward s at ≡ at + length (encoded c)
unfolding step_forward
step_forward_is_one_character s at c cs h k e =
    let p = shape c h in
    let m : length (drop at s) ≡ 1 + length p.rest + length (encoded_all cs) =
    ap length e ∙ length-append (encoded c) (encoded_all cs) ∙ ap (λ (l : List ℕ). length l + length (encoded_all cs)) p.parts ∙ omega arith in
    let i : at < length s = omega (arith, length-drop at s) in
    let d : drop (at + 1) s ≡ p.rest ++ encoded_all cs =
    sym (drop-drop 1 at s) ∙ ap (λ (l : List ℕ). drop 1 l) (e ∙ ap (λ (l : List ℕ). l ++ encoded_all cs) p.parts) in
    let t : front is_tail (drop (at + 1) s) ≡ length p.rest =
    ap (front is_tail) d ∙ tails_over p.rest (encoded_all cs) p.others (tails_start cs k) in
    rw (lt-ltb at (length s) i) (omega (arith, ap length p.parts))
