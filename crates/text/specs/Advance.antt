-- Document 01, **Text**: the width of a text is the sum of its characters' advances.
use Rattle.std.specs.Prelude.{ℕ, ◌+◌, ◌-◌, ◌^◌, min, cond, List, [], ◌∷◌, map, eqb, ℤ, pos, get_or}
use Rattle.arithmetic.specs.Scalar.{from_int}
use Rattle.arithmetic.specs.Tests.{within}
use Rattle.text.specs.Reader.{is_utf8, scalars}
use Rattle.text.specs.Refusal.{Answer, accepted, refused}
use Rattle.text.specs.declared.refusal.Refusal.TheVariants.{IllFormed}
use Rattle.text.specs.declared.utf8.Place.{Place}

-- The advances of codes 32 to 126, in pixels.
unfoldable pub advances : List ℕ
advances =
    4 ∷ 4 ∷ 5 ∷ 7 ∷ 7 ∷ 12 ∷ 9 ∷ 2 ∷ 4 ∷ 4 ∷ 5 ∷ 8 ∷ 4 ∷ 4 ∷ 4 ∷ 4 ∷ 7 ∷ 7 ∷ 7 ∷ 7 ∷ 7 ∷ 7 ∷ 7 ∷ 7 ∷ 7 ∷ 7 ∷ 4 ∷ 4 ∷ 8 ∷ 8 ∷ 8
    ∷ 7 ∷ 13 ∷ 9 ∷ 9 ∷ 9 ∷ 9 ∷ 9 ∷ 8 ∷ 10 ∷ 9 ∷ 4 ∷ 7 ∷ 9 ∷ 7 ∷ 11 ∷ 9 ∷ 10 ∷ 9 ∷ 10 ∷ 9 ∷ 9 ∷ 8 ∷ 9 ∷ 9 ∷ 12 ∷ 9 ∷ 9 ∷ 8 ∷ 4 ∷ 4
    ∷ 4 ∷ 6 ∷ 7 ∷ 4 ∷ 7 ∷ 7 ∷ 7 ∷ 7 ∷ 7 ∷ 4 ∷ 7 ∷ 7 ∷ 3 ∷ 3 ∷ 7 ∷ 3 ∷ 11 ∷ 7 ∷ 7 ∷ 7 ∷ 7 ∷ 4 ∷ 7 ∷ 4 ∷ 7 ∷ 7 ∷ 9 ∷ 7 ∷ 7 ∷ 7 ∷ 4
    ∷ 3 ∷ 4 ∷ 8 ∷ []

-- The advance of one character: any other than 32 to 126 counts as '?', which is 63.
unfoldable pub advance_of : ℕ → ℕ
advance_of c = get_or advances (cond (within 32 126 c) c 63 - 32) 0

-- A sum that stops at the top of an i32.
unfoldable pub stop_sum : ℕ → List ℕ → ℕ
stop_sum t [] = t
stop_sum t (a ∷ rest) = stop_sum (min (t + a) (2 ^ 31 - 1)) rest

-- The sum after a byte: one advance more where a character has ended.
unfoldable pub counted_of : ℕ → Place → ℕ
counted_of t p = cond (eqb p.left 0) (min (t + advance_of p.code) (2 ^ 31 - 1)) t

-- The width of a text in raw units; bytes that are not UTF-8 have none.
unfoldable pub measure_of : List ℕ → Answer ℤ
measure_of s = cond (is_utf8 s) (accepted (from_int (pos (stop_sum 0 (map advance_of (scalars s)))))) (refused IllFormed (pos 0))
