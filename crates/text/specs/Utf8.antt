-- RFC 3629: which numbers are characters, the bytes that a character is written as (section 3), and which byte strings are
-- well-formed (the grammar of section 4). `Rfc3629` says how these and the reader of `Reader` hang together.
use Rattle.std.specs.Prelude.{ℕ, ◌+◌, ◌/◌, ◌%◌, ◌≤◌, ◌≡◌, Bool, true, ◌&&◌, ◌||◌, cond, List, [], ◌∷◌, ◌++◌, leb, length, take}
use Rattle.arithmetic.specs.Tests.{within}
use Rattle.text.specs.declared.utf8.Encoded.{Encoded}

-- A Unicode scalar value: a number to 0x10FFFF that is no surrogate.
unfoldable pub is_scalar : ℕ → Bool
is_scalar c = leb c 0xD7FF || within 0xE000 0x10FFFF c

unfoldable pub all_scalars : List ℕ → Bool
all_scalars [] = true
all_scalars (c ∷ cs) = is_scalar c && all_scalars cs

-- Section 3: the bytes of one character. Each byte but the first carries six bits.
unfoldable pub encoded : ℕ → List ℕ
encoded c =
    cond (leb c 0x7F) (c ∷ [])
    (cond (leb c 0x7FF) ((0xC0 + c / 64) ∷ (0x80 + c % 64) ∷ [])
    (cond (leb c 0xFFFF) ((0xE0 + c / 4096) ∷ (0x80 + c / 64 % 64) ∷ (0x80 + c % 64) ∷ [])
    ((0xF0 + c / 262144) ∷ (0x80 + c / 4096 % 64) ∷ (0x80 + c / 64 % 64) ∷ (0x80 + c % 64) ∷ [])))

-- The bytes of a text.
unfoldable pub encoded_all : List ℕ → List ℕ
encoded_all [] = []
encoded_all (c ∷ cs) = encoded c ++ encoded_all cs

-- Section 4: a byte of the range %xLO-HI, and UTF8-tail.
abbrev pub In : ℕ → ℕ → ℕ → Type 0
In lo hi x = (lo ≤ x) × (x ≤ hi)

abbrev pub Tail : ℕ → Type 0
Tail x = In 0x80 0xBF x

-- UTF8-octets = *( UTF8-char ), with a constructor for each alternative of UTF8-1, UTF8-2, UTF8-3 and UTF8-4.
pub data Octets : List ℕ → Type 0 where
  none : Octets []
  utf8_1 : {a : ℕ} {s : List ℕ} → In 0x00 0x7F a → Octets s → Octets (a ∷ s)
  utf8_2 : {a b : ℕ} {s : List ℕ} → In 0xC2 0xDF a → Tail b → Octets s → Octets (a ∷ b ∷ s)
  utf8_3_e0 : {a b c : ℕ} {s : List ℕ} → a ≡ 0xE0 → In 0xA0 0xBF b → Tail c → Octets s → Octets (a ∷ b ∷ c ∷ s)
  utf8_3_e1 : {a b c : ℕ} {s : List ℕ} → In 0xE1 0xEC a → Tail b → Tail c → Octets s → Octets (a ∷ b ∷ c ∷ s)
  utf8_3_ed : {a b c : ℕ} {s : List ℕ} → a ≡ 0xED → In 0x80 0x9F b → Tail c → Octets s → Octets (a ∷ b ∷ c ∷ s)
  utf8_3_ee : {a b c : ℕ} {s : List ℕ} → In 0xEE 0xEF a → Tail b → Tail c → Octets s → Octets (a ∷ b ∷ c ∷ s)
  utf8_4_f0 : {a b c d : ℕ} {s : List ℕ} → a ≡ 0xF0 → In 0x90 0xBF b → Tail c → Tail d → Octets s → Octets (a ∷ b ∷ c ∷ d ∷ s)
  utf8_4_f1 : {a b c d : ℕ} {s : List ℕ} → In 0xF1 0xF3 a → Tail b → Tail c → Tail d → Octets s → Octets (a ∷ b ∷ c ∷ d ∷ s)
  utf8_4_f4 : {a b c d : ℕ} {s : List ℕ} → a ≡ 0xF4 → In 0x80 0x8F b → Tail c → Tail d → Octets s → Octets (a ∷ b ∷ c ∷ d ∷ s)

-- Up to four bytes in an array, 0 behind them, and their count.
abbrev pub padded : List ℕ → Encoded
padded s = record { bytes = take 4 (s ++ 0 ∷ 0 ∷ 0 ∷ 0 ∷ []); len = length s }

-- The bytes of a character, and none of a number that is no character.
unfoldable pub encoded_as : ℕ → Encoded
encoded_as c = cond (is_scalar c) (padded (encoded c)) (padded [])
