-- Document 01, **Field**: a text with a caret, and what a key makes of it, by characters. Characters are Unicode scalar values.
use Rattle.std.specs.Prelude.{ℕ, ◌+◌, Bool, ◌&&◌, cond, leb, length}
use mathlib.Core.List.{List, [], ◌∷◌, reverse, reverse_aux}
use Rattle.text.specs.Utf8.{is_scalar, encoded, encoded_all}
use Rattle.field.specs.declared.EditOp.{EditOp}
use Rattle.field.specs.declared.EditOp.TheVariants.{Backspace, Delete, Left, Right, Home, End}

-- The characters before the caret, the nearest first, and those after it, the nearest first.
pub data Text : Type 0 where
  text : List ℕ → List ℕ → Text

-- The text's bytes, and the caret as a count of bytes.
unfoldable pub bytes_of : Text → List ℕ
bytes_of (text b a) = encoded_all (reverse_aux b a)

unfoldable pub caret_of : Text → ℕ
caret_of (text b a) = length (encoded_all (reverse b))

abbrev pub before : ℕ → Text → Text
before c (text b a) = text (c ∷ b) a

-- A character goes in at the caret; a number that is no character, and one whose bytes would pass 64 in all, does not.
unfoldable pub goes_in : ℕ → Text → Bool
goes_in c t = is_scalar c && leb (length (bytes_of t) + length (encoded c)) 64

unfoldable pub typed : ℕ → Text → Text
typed c t = cond (goes_in c t) (before c t) t

-- One character at a time.
unfoldable pub keyed : EditOp → Text → Text
keyed Backspace (text [] a) = text [] a
keyed Backspace (text (c ∷ b) a) = text b a
keyed Delete (text b []) = text b []
keyed Delete (text b (c ∷ a)) = text b a
keyed Left (text [] a) = text [] a
keyed Left (text (c ∷ b) a) = text b (c ∷ a)
keyed Right (text b []) = text b []
keyed Right (text b (c ∷ a)) = text (c ∷ b) a
keyed Home (text b a) = text [] (reverse_aux b a)
keyed End (text b a) = text (reverse_aux a b) []
