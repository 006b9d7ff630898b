-- A reader of UTF-8 that takes a byte at a time: whether bytes are well-formed, and the characters that they are. `Rfc3629` says
-- that this is what the RFC's grammar and its section 3 say.
use Rattle.std.specs.Prelude.{ℕ, ◌+◌, ◌-◌, ◌*◌, ◌%◌, Bool, true, false, cond, List, [], ◌∷◌, leb, eqb}
use Rattle.arithmetic.specs.Tests.{within}
use Rattle.text.specs.declared.utf8.Place.{Place}

-- Where a reader stands: `left` bytes are still to come of a character, the next of them from `low` to `high`, the others from
-- 0x80 to 0xBF; `code` is what the bits read so far make. With 0 left, a character has just ended.
abbrev pub place : ℕ → ℕ → ℕ → ℕ → Place
place n lo hi v = record { left = n; low = lo; high = hi; code = v }

abbrev pub start : Place
start = place 0 0 0 0

-- No byte lies from 255 to 0: who stands here stays here.
abbrev pub lost : Place
lost = place 1 255 0 0

-- Section 4: what a first byte asks for, by the lines of the grammar.
unfoldable pub lead_of : ℕ → Place
lead_of b =
    cond (leb b 0x7F) (place 0 0 0 b)
    (cond (within 0xC2 0xDF b) (place 1 0x80 0xBF (b % 32))
    (cond (eqb b 0xE0) (place 2 0xA0 0xBF (b % 16))
    (cond (within 0xE1 0xEC b) (place 2 0x80 0xBF (b % 16))
    (cond (eqb b 0xED) (place 2 0x80 0x9F (b % 16))
    (cond (within 0xEE 0xEF b) (place 2 0x80 0xBF (b % 16))
    (cond (eqb b 0xF0) (place 3 0x90 0xBF (b % 8))
    (cond (within 0xF1 0xF3 b) (place 3 0x80 0xBF (b % 8))
    (cond (eqb b 0xF4) (place 3 0x80 0x8F (b % 8))
    lost))))))))

-- A byte more.
unfoldable pub step_of : Place → ℕ → Place
step_of p b =
    cond (eqb p.left 0) (lead_of b)
    (cond (within p.low p.high b) (place (p.left - 1) 0x80 0xBF (p.code * 64 + b % 64))
    lost)

-- Where a reader stands after some bytes.
unfoldable pub run_from : Place → List ℕ → Place
run_from p [] = p
run_from p (b ∷ s) = run_from (step_of p b) s

-- The bytes are well-formed.
unfoldable pub is_utf8 : List ℕ → Bool
is_utf8 s = eqb (run_from start s).left 0

abbrev pub emit : Bool → ℕ → List ℕ → List ℕ
emit true c cs = c ∷ cs
emit false c cs = cs

-- The characters that end in these bytes.
unfoldable pub scalars_from : Place → List ℕ → List ℕ
scalars_from p [] = []
scalars_from p (b ∷ s) = emit (eqb (step_of p b).left 0) (step_of p b).code (scalars_from (step_of p b) s)

-- The characters of well-formed bytes.
unfoldable pub scalars : List ℕ → List ℕ
scalars s = scalars_from start s
