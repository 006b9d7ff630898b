-- Document 02, **Wish 6**: a text with its mark, and what a key, a confirmation and the next ship make of the mark.
use Rattle.std.specs.Prelude.{Bool, true, false, cond, List, ℕ, ◌∷◌, []}
use Rattle.field.specs.Text.{Text, text}
use Rattle.field.specs.Metres.{reads}
use Rattle.field.specs.declared.EditOp.{EditOp}
use Rattle.field.specs.declared.EditOp.TheVariants.{Backspace, Delete, Left, Right, Home, End}
use Rattle.field.specs.declared.Mark.{Mark}
use Rattle.field.specs.declared.Mark.TheVariants.{Untouched, Typed, Confirmed}

-- The mark's number, where it is written as one.
abbrev pub mark_number : Mark → ℕ
mark_number Untouched = 0
mark_number Typed = 1
mark_number Confirmed = 2

-- A text, and its mark.
pub record Marked : Type 0 where
  pub text : Text
  pub mark : Mark

-- A new field's.
abbrev pub new_marked : Marked
new_marked = record { text = text [] []; mark = Untouched }

-- The edit takes a character away. The others move the caret, or do nothing.
unfoldable pub takes : EditOp → Text → Bool
takes Backspace (text [] a) = false
takes Backspace (text (c ∷ b) a) = true
takes Delete (text b []) = false
takes Delete (text b (c ∷ a)) = true
takes Left t = false
takes Right t = false
takes Home t = false
takes End t = false

-- A change of the text sets typed; what changes no text changes no mark.
abbrev pub mark_after : Bool → Mark → Mark
mark_after changed m = cond changed Typed m

abbrev pub is_confirmed : Mark → Bool
is_confirmed Untouched = false
is_confirmed Typed = false
is_confirmed Confirmed = true

-- The next ship: confirmed becomes untouched, and typed stays typed.
abbrev pub next_mark : Mark → Mark
next_mark Untouched = Untouched
next_mark Typed = Typed
next_mark Confirmed = Untouched

-- The mark may stand beside the text: what is confirmed reads as metres.
abbrev pub may_stand : Mark → List ℕ → Bool
may_stand Untouched s = true
may_stand Typed s = true
may_stand Confirmed s = reads s
