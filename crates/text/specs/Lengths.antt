-- Document 02, **Wish 3**: the number of UTF-8 bytes by arithmetic from the count of leading zero bits, and that each code still gets the length it
-- had. This is `EachCodeKeepsItsLength`, which is proved in proofs/Lengths.antt.
use Rattle.std.specs.Prelude.{◌≡◌, true, false, [], ◌∷◌, map, ℕ, ◌+◌, ◌-◌, ◌/◌, ◌^◌, ◌<◌, length}
use Rattle.std.specs.Int.Count.{count_leading_zeros}
use Rattle.text.specs.Utf8.{is_scalar, encoded, encoded_as, padded}

-- The number of bytes by z, how many of a code's 32 bits stand above its highest set one. With z of at most 24, 20 and 15 the code has at least
-- 8, 12 and 17 bits: each quotient is 1 from there on, and 0 before.
unfoldable pub length_by : ℕ → ℕ
length_by z = 1 + (56 - z) / 32 + (52 - z) / 32 + (47 - z) / 32

-- The number of bytes of a code.
unfoldable pub length_of : ℕ → ℕ
length_of c = length_by (count_leading_zeros 32 c)

pub record EachCodeKeepsItsLength : Type 0 where
  -- a character has the length of the bytes that it is written as
  pub a_character : (c : ℕ) → is_scalar c ≡ true → length_of c ≡ length (encoded c)
  -- so has every other u32, of what `encoded` gives it, whose last row has no upper end: 3 for a surrogate, 4 past the last character
  pub every_code : (c : ℕ) → c < 2 ^ 32 → length_of c ≡ length (encoded c)
  -- but it is written as nothing, whatever its length
  pub no_character_is_written : (c : ℕ) → is_scalar c ≡ false → encoded_as c ≡ padded []
  -- the first and the last code of each length; 65, whose trailing zero bits are not its leading ones; a surrogate, and the last u32
  pub at_the_ends : map length_of (0 ∷ 65 ∷ 0x7F ∷ 0x80 ∷ 0x7FF ∷ 0x800 ∷ 0xD800 ∷ 0xFFFF ∷ 0x10000 ∷ 0x10FFFF ∷ (2 ^ 32 - 1) ∷ []) ≡ 1 ∷ 1 ∷ 1 ∷ 2 ∷ 2 ∷ 3 ∷ 3 ∷ 3 ∷ 4 ∷ 4 ∷ 4 ∷ []
