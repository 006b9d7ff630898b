-- Document 01's examples P1 to P12, P5 as document 02 has it, and those of document 02, as rows of one list; and what becomes of marks, as
-- rows of another.
use Rattle.std.specs.Prelude.{ℕ, ◌-◌, ◌*◌, ◌^◌, List, [], ◌∷◌, ◌++◌, map, ℤ, pos, take, replicate, None}
use Rattle.arithmetic.specs.Scalar.{add_sat, half_of}
use Rattle.arithmetic.specs.Growth.{plan_growth}
use Rattle.text.specs.Refusal.{Answer}
use Rattle.text.specs.Utf8.{encoded}
use Rattle.text.specs.Advance.{measure_of}
use Rattle.field.specs.Fields.{empty_field, inserted, edited, with_mark, unconfirmed, view_of, metres_of_view}
use Rattle.field.specs.declared.EditOp.TheVariants.{Backspace, Delete, Left}
use Rattle.field.specs.Metres.{metres_of}
use Rattle.field.specs.Marks.{mark_number}
use Rattle.field.specs.declared.Field.{Field}
use Rattle.field.specs.declared.Mark.TheVariants.{Untouched, Confirmed}

-- What a definition gives, and what the documents say.
pub record Row : Type 0 where
  pub given : List ℤ
  pub wanted : List ℤ

-- The first shares of a leftover.
abbrev shares : ℕ → ℕ → List ℕ → List ℤ
shares count leftover grows = take count (plan_growth (pos leftover) grows count)

abbrev numbers : List ℕ → List ℤ
numbers s = map pos s

-- A field's length, caret and bytes, all 64.
abbrev seen : Field → List ℤ
seen f = pos f.len ∷ pos f.cursor ∷ numbers f.bytes

-- The letter a, `n` times, with the caret behind, and the bytes past them.
abbrev letters : ℕ → List ℕ → Field
letters n past = record { owner = None; bytes = replicate n 97 ++ past; len = n; cursor = n; mark = Untouched }

-- The refusal's number, 0 for none, and the value.
abbrev told : Answer ℕ → List ℤ
told a = pos a.number ∷ pos a.value ∷ []

abbrev told_raw : Answer ℤ → List ℤ
told_raw a = pos a.number ∷ a.value ∷ []

abbrev marks : List Field → List ℤ
marks fs = map (λ (f : Field). pos (mark_number f.mark)) fs

-- The text "7", as its key made it, and confirmed.
abbrev seven : Field
seven = inserted empty_field 55

abbrev confirmed_seven : Field
confirmed_seven = with_mark seven Confirmed

-- What the ramp gets of a field.
abbrev told_of : Field → List ℤ
told_of f = told (metres_of_view (view_of f))

unfoldable pub rows : List Row
rows =
    record { given = shares 3 10 (1 ∷ 1 ∷ 1 ∷ []); wanted = numbers (4 ∷ 3 ∷ 3 ∷ []) }  -- P1
    ∷ record { given = shares 3 7 (1 ∷ 2 ∷ 0 ∷ []); wanted = numbers (2 ∷ 5 ∷ 0 ∷ []) }  -- P2
    ∷ record { given = shares 2 (2 ^ 62) ((2 ^ 32 - 1) ∷ 1 ∷ []); wanted = numbers ((2 ^ 62 - 2 ^ 30) ∷ (2 ^ 30) ∷ []) }  -- P3
    ∷ record { given = shares 3 0 (1 ∷ 2 ∷ 0 ∷ []); wanted = numbers (0 ∷ 0 ∷ 0 ∷ []) }  -- P4
    ∷ record { given = half_of (pos 5) ∷ []; wanted = numbers (0 ∷ []) }  -- P5, by wish 5 of document 02
    ∷ record { given = half_of (pos 196608) ∷ []; wanted = numbers (65536 ∷ []) }
    ∷ record { given = add_sat (pos (2 ^ 63 - 1)) (pos 1) ∷ []; wanted = numbers ((2 ^ 63 - 1) ∷ []) }  -- P6
    ∷ record { given = numbers (encoded 0xE9); wanted = numbers (0xC3 ∷ 0xA9 ∷ []) }  -- P7
    ∷ record { given = seen (inserted (letters 62 (0 ∷ 0 ∷ [])) 0xE9); wanted = pos 64 ∷ pos 64 ∷ numbers (replicate 62 97 ++ 0xC3 ∷ 0xA9 ∷ []) }  -- P8
    ∷ record { given = seen (inserted (letters 63 (0 ∷ [])) 0xE9); wanted = seen (letters 63 (0 ∷ [])) }
    ∷ record { given = told (metres_of (55 ∷ 46 ∷ 52 ∷ 48 ∷ [])); wanted = numbers (0 ∷ 740 ∷ []) }  -- P9: "7.40" and "7.4"
    ∷ record { given = told (metres_of (55 ∷ 46 ∷ 52 ∷ [])); wanted = numbers (0 ∷ 740 ∷ []) }
    ∷ record { given = told (metres_of (55 ∷ 46 ∷ [])); wanted = numbers (10 ∷ 0 ∷ []) }  -- P10: "7." and "1000"
    ∷ record { given = told (metres_of (49 ∷ 48 ∷ 48 ∷ 48 ∷ [])); wanted = numbers (10 ∷ 0 ∷ []) }
    ∷ record { given = told (metres_of []); wanted = numbers (9 ∷ 0 ∷ []) }  -- P11: "" and "0"
    ∷ record { given = told (metres_of (48 ∷ [])); wanted = numbers (0 ∷ 0 ∷ []) }
    ∷ record { given = told (metres_of (55 ∷ 44 ∷ 52 ∷ 48 ∷ [])); wanted = numbers (0 ∷ 740 ∷ []) }  -- wish 1 of document 02: "7,40" and " 7.4 "
    ∷ record { given = told (metres_of (32 ∷ 55 ∷ 46 ∷ 52 ∷ 32 ∷ [])); wanted = numbers (0 ∷ 740 ∷ []) }
    ∷ record { given = told (metres_of (32 ∷ 32 ∷ 32 ∷ [])); wanted = numbers (9 ∷ 0 ∷ []) }  -- three spaces
    ∷ record { given = told (metres_of (55 ∷ 32 ∷ 52 ∷ [])); wanted = numbers (10 ∷ 0 ∷ []) }  -- "7 4" and "7 .4"
    ∷ record { given = told (metres_of (55 ∷ 32 ∷ 46 ∷ 52 ∷ [])); wanted = numbers (10 ∷ 0 ∷ []) }
    ∷ record { given = told (metres_of (55 ∷ 44 ∷ [])); wanted = numbers (10 ∷ 0 ∷ []) }  -- "7,", ",5" and "7,4.0"
    ∷ record { given = told (metres_of (44 ∷ 53 ∷ [])); wanted = numbers (10 ∷ 0 ∷ []) }
    ∷ record { given = told (metres_of (55 ∷ 44 ∷ 52 ∷ 46 ∷ 48 ∷ [])); wanted = numbers (10 ∷ 0 ∷ []) }
    ∷ record { given = told_raw (measure_of (72 ∷ 105 ∷ [])); wanted = numbers (0 ∷ 12 * 65536 ∷ []) }  -- P12: "Hi", 12 pixels
    ∷ []

-- Document 02, **Wish 6**, as rows.
unfoldable pub mark_rows : List Row
mark_rows =
    -- a key that changes the text sets typed; one that moves the caret or does nothing leaves the mark
    record { given = marks (empty_field ∷ seven ∷ inserted confirmed_seven 55 ∷ edited confirmed_seven Backspace ∷ []); wanted = numbers (0 ∷ 1 ∷ 1 ∷ 1 ∷ []) }
    ∷ record { given = marks (edited confirmed_seven Left ∷ edited confirmed_seven Delete ∷ inserted confirmed_seven 0xD800 ∷ []); wanted = numbers (2 ∷ 2 ∷ 2 ∷ []) }
    -- for the next ship confirmed becomes untouched, and typed stays typed
    ∷ record { given = marks (unconfirmed empty_field ∷ unconfirmed seven ∷ unconfirmed confirmed_seven ∷ []); wanted = numbers (0 ∷ 1 ∷ 0 ∷ []) }
    -- the ramp gets centimetres only when confirmed
    ∷ record { given = told_of empty_field ++ told_of seven ++ told_of confirmed_seven; wanted = numbers (14 ∷ 0 ∷ 14 ∷ 0 ∷ 0 ∷ 700 ∷ []) }
    ∷ []
