-- Document 01, **Field**, with wish 6 of document 02: the rules for one field, and each edit of it, with all 64 bytes and the mark said.
-- proofs/Laws.antt says of a field that keeps the rules that these are the edits of its text, character by character (`Text`, `Marks`).
use Rattle.std.specs.Prelude.{ℕ, ◌+◌, ◌-◌, Bool, ◌&&◌, cond, List, ◌++◌, reverse, leb, ltb, length, take, drop, replicate, None, Some}
use Rattle.arithmetic.specs.Tests.{over}
use Rattle.text.specs.Utf8.{is_scalar, encoded}
use Rattle.text.specs.Reader.{is_utf8, scalars}
use Rattle.text.specs.Steps.{step_back, step_forward}
use Rattle.text.specs.Refusal.{Answer, accepted, refused, verdict_of}
use Rattle.text.specs.declared.refusal.Refusal.TheVariants.{Broken, Unconfirmed}
use Rattle.field.specs.Text.{Text, text, bytes_of, caret_of}
use Rattle.field.specs.Metres.{metres_of}
use Rattle.field.specs.Marks.{Marked, may_stand, next_mark}
use Rattle.field.specs.declared.Field.{Field}
use Rattle.field.specs.declared.NodeId.{NodeId}
use Rattle.field.specs.declared.Edited.{Edited}
use Rattle.field.specs.declared.Mark.{Mark}
use Rattle.field.specs.declared.Mark.TheVariants.{Untouched, Typed, Confirmed}
use Rattle.field.specs.declared.EditOp.{EditOp}
use Rattle.field.specs.declared.EditOp.TheVariants.{Backspace, Delete, Left, Right, Home, End}

-- The field of nobody, with no text.
unfoldable pub empty_field : Field
empty_field = record { owner = None; bytes = replicate 64 0; len = 0; cursor = 0; mark = Untouched }

-- A node's new field, with no text, untouched.
abbrev pub own_field : NodeId → Field
own_field d = record { owner = Some d; bytes = empty_field.bytes; len = 0; cursor = 0; mark = Untouched }

-- The bytes of the text.
abbrev pub held : Field → List ℕ
held f = take f.len f.bytes

-- The length is at most 64, and the caret stands from 0 to the length.
unfoldable pub in_range : Field → Bool
in_range f = leb f.len 64 && leb f.cursor f.len

-- Document 01's rules: in range, the text is UTF-8, and so is what stands before the caret, which is then on a character's edge.
unfoldable pub text_ok : Field → Bool
text_ok f = in_range f && (is_utf8 (held f) && is_utf8 (take f.cursor f.bytes))

-- Document 02's: a confirmed text reads as metres.
unfoldable pub mark_ok : Field → Bool
mark_ok f = may_stand f.mark (held f)

-- The rules for one field.
unfoldable pub field_ok : Field → Bool
field_ok f = text_ok f && mark_ok f

-- The field with another caret. The mark stays.
unfoldable pub moved : Field → ℕ → Field
moved f k = record { owner = f.owner; bytes = f.bytes; len = f.len; cursor = k; mark = f.mark }

-- The field with another text, caret and mark. Every edit that changes a text goes through this, and every other through `moved`. Bytes past
-- the text are those that stood there, so that they are written `over` the old ones.
abbrev pub with_content : Field → List ℕ → ℕ → ℕ → Mark → Field
with_content f text' len' cursor' mark' = record { owner = f.owner; bytes = over text' f.bytes; len = len'; cursor = cursor'; mark = mark' }

-- The field without the bytes of its text from `from` to `to`, the caret at `from`; typed, where there are such bytes.
unfoldable pub cut_out : Field → ℕ → ℕ → Field
cut_out f from to =
    with_content f (take from f.bytes ++ drop to (held f)) (f.len - (to - from)) from (cond (ltb from to) Typed f.mark)

-- The field with more bytes in its text at the caret, and the caret behind them; typed.
unfoldable pub put_in : Field → List ℕ → Field
put_in f s =
    with_content f ((take f.cursor f.bytes ++ s) ++ drop f.cursor (held f)) (f.len + length s) (f.cursor + length s) Typed

-- The edges of the characters before and after the caret; the caret itself where there is none.
unfoldable pub step_back_of : Field → ℕ
step_back_of f = step_back (held f) f.cursor

unfoldable pub step_forward_of : Field → ℕ
step_forward_of f = step_forward (held f) f.cursor

-- An edit of a field that is in range.
unfoldable pub edited_in : Field → EditOp → Field
edited_in f Backspace = cut_out f (step_back_of f) f.cursor
edited_in f Delete = cut_out f f.cursor (step_forward_of f)
edited_in f Left = moved f (step_back_of f)
edited_in f Right = moved f (step_forward_of f)
edited_in f Home = moved f 0
edited_in f End = moved f f.len

-- An edit of any field: one that is not in range stays as it is.
unfoldable pub edited : Field → EditOp → Field
edited f op = cond (in_range f) (edited_in f op) f

-- A character goes in at the caret; a code that is no character, and one whose bytes would pass 64 in all, changes nothing.
unfoldable pub inserted : Field → ℕ → Field
inserted f c = cond (in_range f && (is_scalar c && leb (f.len + length (encoded c)) 64)) (put_in f (encoded c)) f

-- The number and the field of an answer.
abbrev pub answer_of : Edited → Answer Field
answer_of e = record { number = verdict_of e.verdict; value = e.field }

-- An edit asked by a caller: a field that breaks the rules is refused and handed back.
unfoldable pub edit_answer : Field → EditOp → Answer Field
edit_answer f op = cond (field_ok f) (accepted (edited f op)) (refused Broken f)

unfoldable pub insert_answer : Field → ℕ → Answer Field
insert_answer f c = cond (field_ok f) (accepted (inserted f c)) (refused Broken f)

-- What a read gives: the text, and 0 behind it to 64 bytes.
unfoldable pub shown_of : Field → List ℕ
shown_of f = held f ++ replicate (64 - f.len) 0

-- The text that a field holds, by its characters.
unfoldable pub text_of : Field → Text
text_of f = text (reverse (scalars (take f.cursor f.bytes))) (scalars (drop f.cursor (held f)))

-- The text and the mark.
abbrev pub marked_of : Field → Marked
marked_of f = record { text = text_of f; mark = f.mark }

-- The field with another text and mark: the text's bytes are written over the front of the old ones.
unfoldable pub with_text : Field → Text → Mark → Field
with_text f t mark' = with_content f (bytes_of t) (length (bytes_of t)) (caret_of t) mark'

-- The field with another mark; and for the next ship, confirmed no more.
unfoldable pub with_mark : Field → Mark → Field
with_mark f mark' = record { owner = f.owner; bytes = f.bytes; len = f.len; cursor = f.cursor; mark = mark' }

unfoldable pub unconfirmed : Field → Field
unconfirmed f = with_mark f (next_mark f.mark)

-- The centimetres of a field; 1 for one that breaks the rules.
unfoldable pub field_metres : Field → Answer ℕ
field_metres f = cond (field_ok f) (metres_of (held f)) (refused Broken 0)

-- All of a field that the ramp may depend on: whether it is confirmed, and the text if it is.
pub data View : Type 0 where
  not_confirmed : View
  confirmed : List ℕ → View

abbrev pub view_by : Mark → List ℕ → View
view_by Untouched s = not_confirmed
view_by Typed s = not_confirmed
view_by Confirmed s = confirmed s

abbrev pub view_of : Field → View
view_of f = view_by f.mark (held f)

-- What the ramp gets.
abbrev pub metres_of_view : View → Answer ℕ
metres_of_view not_confirmed = refused Unconfirmed 0
metres_of_view (confirmed s) = metres_of s
