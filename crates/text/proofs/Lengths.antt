-- A code's length from its bits. A code of m bits has 32 - m leading zeros; it is below 2 ^ m and, unless it is 0, not below 2 ^ (m - 1). So a bound
-- on the zeros is a bound on the code, and the other way round. Assumes nothing.
use mathlib.Core.Path.{◌≡◌, sym, ap, ◌∙◌}
use mathlib.Core.Bool.{true, false}
use mathlib.Core.List.{[]}
use Prim.Native.Nat.{ℕ, suc, ◌+◌, ◌^◌, ◌≤◌, ◌<◌}
use native.Mathlib.Nat.{lt_of_not-le, pow-suc}
use native.Mathlib.Omega.{arith}
use lib.Count.{count_leading_zeros, leading_length}
use lib.ListN.{length}
use lib.Pow.{pow_mono}
use Rattle.text.specs.Utf8.{is_scalar, encoded, encoded_as, padded}
use Rattle.text.specs.Lengths.{length_by, length_of, EachCodeKeepsItsLength}
use Rattle.text.proofs.LengthRows.{at_the_ends}
use Rattle.text.proofs.Scalars.{scalar_top, encoded_one, encoded_two, encoded_three, encoded_four, Size, size_of}
use Rattle.text.proofs.Scalars.Size.{of_one, of_two, of_three, of_four}

module _ (c : ℕ) (h : c < 2 ^ 32) where
  many_zeros_are_low : (k : ℕ) → 32 ≤ count_leading_zeros 32 c + k → c < 2 ^ k
  many_zeros_are_low k g =
      let s = leading_length 32 c h in
      let m : s.0 ≤ k = omega (arith, s.1) in
      omega (arith, s.2, pow_mono m)

  few_zeros_are_high : (k : ℕ) → count_leading_zeros 32 c + k < 32 → 2 ^ k ≤ c
  few_zeros_are_high k g =
      let s = leading_length 32 c h in
      let m : suc k ≤ s.0 = omega (arith, s.1) in
      omega (arith, s.3, pow_mono m, pow-suc 2 k)

  low_has_many_zeros : (k : ℕ) → c < 2 ^ k → 32 ≤ count_leading_zeros 32 c + k
  low_has_many_zeros k l =
      let m : 31 < count_leading_zeros 32 c + k = lt_of_not-le (λ (g : count_leading_zeros 32 c + k ≤ 31). omega (arith, few_zeros_are_high k (omega arith))) in
      omega arith

  high_has_few_zeros : (k : ℕ) → 2 ^ k ≤ c → count_leading_zeros 32 c + k < 32
  high_has_few_zeros k l = lt_of_not-le (λ (g : 32 ≤ count_leading_zeros 32 c + k). omega (arith, many_zeros_are_low k g))

  pub every_code : length_of c ≡ length (encoded c)
  unfolding length_of length_by
  every_code = by_size (size_of c)
    where
      by_size : Size c → length_of c ≡ length (encoded c)
      by_size (of_one m) = omega (arith, low_has_many_zeros 7 (omega arith)) ∙ sym (ap length (encoded_one c m))
      by_size (of_two l m) = omega (arith, high_has_few_zeros 7 l, low_has_many_zeros 11 (omega arith)) ∙ sym (ap length (encoded_two c l m))
      by_size (of_three l m) = omega (arith, high_has_few_zeros 11 l, low_has_many_zeros 16 (omega arith)) ∙ sym (ap length (encoded_three c l m))
      by_size (of_four l) = omega (arith, high_has_few_zeros 16 l) ∙ sym (ap length (encoded_four c l))

  -- the codes of each length
  pub of_length_one : length_of c ≡ 1 → c ≤ 0x7F
  unfolding length_of length_by
  of_length_one e = omega (arith, many_zeros_are_low 7 (omega arith))

  pub of_length_two : length_of c ≡ 2 → (0x7F < c) × (c ≤ 0x7FF)
  unfolding length_of length_by
  of_length_two e = (few_zeros_are_high 7 (omega arith), omega (arith, many_zeros_are_low 11 (omega arith)))

  pub of_length_three : length_of c ≡ 3 → (0x7FF < c) × (c ≤ 0xFFFF)
  unfolding length_of length_by
  of_length_three e = (few_zeros_are_high 11 (omega arith), omega (arith, many_zeros_are_low 16 (omega arith)))

  pub of_another_length : (length_of c ≡ 1 → ⊥) → (length_of c ≡ 2 → ⊥) → (length_of c ≡ 3 → ⊥) → 0xFFFF < c
  unfolding length_of length_by
  of_another_length one two three = few_zeros_are_high 16 (omega arith)

no_character_is_written : (c : ℕ) → is_scalar c ≡ false → encoded_as c ≡ padded []
unfolding encoded_as
no_character_is_written c e = rw e

pub a_character : (c : ℕ) → is_scalar c ≡ true → length_of c ≡ length (encoded c)
a_character c e = every_code c (omega (arith, scalar_top c e))

pub each_code_keeps_its_length : EachCodeKeepsItsLength
each_code_keeps_its_length = record {
  a_character = a_character;
  every_code = every_code;
  no_character_is_written = no_character_is_written;
  at_the_ends = at_the_ends;
}
