-- Document 01, **Field**: "Backspace, Delete, Left and Right move over one character". A character's first byte is no UTF8-tail,
-- and its others are.
use Rattle.std.specs.Prelude.{ℕ, zero, suc, ◌+◌, ◌-◌, Bool, cond, List, [], ◌∷◌, ltb, length, get_or, drop}
use Rattle.arithmetic.specs.Tests.{within}

-- UTF8-tail of the grammar: a byte that starts no character.
abbrev pub is_tail : ℕ → Bool
is_tail b = within 0x80 0xBF b

-- The nearest place at or before i that holds no tail, or the start.
unfoldable pub back_of : List ℕ → ℕ → ℕ
back_of s zero = zero
back_of s (suc i) = cond (is_tail (get_or s (suc i) 0)) (back_of s i) (suc i)

-- How many bytes at the front of a list pass a test.
unfoldable pub front : (ℕ → Bool) → List ℕ → ℕ
front p [] = 0
front p (b ∷ s) = cond (p b) (suc (front p s)) 0

-- The start of the character that ends at `end`.
unfoldable pub step_back : List ℕ → ℕ → ℕ
step_back s end = back_of s (end - 1)

-- The end of the character that starts at `start`.
unfoldable pub step_forward : List ℕ → ℕ → ℕ
step_forward s start = cond (ltb start (length s)) (start + 1 + front is_tail (drop (start + 1) s)) start
