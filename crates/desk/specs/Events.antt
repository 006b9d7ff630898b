-- Document 01, **Input** and **Metres**, with wish 2 of document 02: each event, the oldest output, the fingerprint, and metres by node.
use Rattle.boxes.specs.declared.Pixel.{Pixel}
use Rattle.std.specs.Prelude.{ℕ, Bool, true, false, ◌&&◌, not, cond, List, [], ◌∷◌, ◌++◌, ltb, None, Option, Some}
use Rattle.arithmetic.specs.Scalar.{incremented, unsigned_of}
use Rattle.arithmetic.specs.Fold.{low_bytes, empty_hash, absorbed}
use Rattle.arithmetic.specs.declared.fold.StateHash.{StateHash}
use Rattle.field.specs.Fields.{inserted, edited, field_metres}
use Rattle.field.specs.declared.NodeId.{NodeId}
use Rattle.field.specs.declared.Field.{Field}
use Rattle.field.specs.declared.EditOp.{EditOp}
use Rattle.field.specs.declared.EditOp.TheVariants.{Backspace, Delete, Left, Right, Home, End}
use Rattle.arithmetic.specs.Tests.{same}
use Rattle.tree.specs.Slots.{is_live, is_id}
use Rattle.tree.specs.Wearing.{refreshed}
use Rattle.tree.specs.Input.{hit_under}
use Rattle.tree.specs.Fields.{owns, field_of, change_first}
use Rattle.tree.specs.Trees.{limit_of, waiting_of, with_fields, with_interaction, with_waiting}
use Rattle.tree.specs.Calls.{Outcome, gives, guarded, on_field}
use Rattle.tree.specs.declared.Ui.{Ui}
use Rattle.tree.specs.declared.Interaction.{Interaction}
use Rattle.boxes.specs.declared.UiEvent.{UiEvent}
use Rattle.boxes.specs.declared.UiEvent.TheVariants.{PointerMoved, PointerPressed, PointerReleased, TextEntered, Edit}
use Rattle.boxes.specs.declared.Key.{Key}
use Rattle.boxes.specs.declared.Key.TheVariants.{Char, Op}

-- The interaction with some of it changed.
abbrev pub pointed_at : Interaction → Option Pixel → Interaction
pointed_at a pointer' = record { pointer = pointer'; pressed = a.pressed; focus = a.focus; activations = a.activations; decisions = a.decisions; edit_fold = a.edit_fold; overflowed = a.overflowed }

abbrev pub pressed_on : Interaction → Option NodeId → Interaction
pressed_on a d = record { pointer = a.pointer; pressed = d; focus = a.focus; activations = a.activations; decisions = a.decisions; edit_fold = a.edit_fold; overflowed = a.overflowed }

abbrev pub folded_by : Interaction → ℕ → Interaction
folded_by a h = record { pointer = a.pointer; pressed = a.pressed; focus = a.focus; activations = a.activations; decisions = a.decisions; edit_fold = h; overflowed = a.overflowed }

-- An id's bytes, as the folds take them; an absent one is 2^32 - 1 and generation 0.
abbrev pub id_bytes : NodeId → List ℕ
id_bytes d = low_bytes 4 d.index ++ low_bytes 8 d.generation

abbrev pub maybe_bytes : Option NodeId → List ℕ
maybe_bytes None = low_bytes 4 4294967295 ++ low_bytes 8 0
maybe_bytes (Some d) = id_bytes d

-- A node is activated: it is counted, folded, and takes the focus; the press ends. The output waits where the queue has room, else it is counted as lost.
unfoldable pub activated : Interaction → NodeId → Bool → Interaction
activated a d lost = record {
  pointer = a.pointer;
  pressed = None;
  focus = Some d;
  activations = incremented a.activations;
  decisions = (absorbed empty_hash (low_bytes 8 a.decisions ++ id_bytes d)).state;
  edit_fold = a.edit_fold;
  overflowed = cond lost (incremented a.overflowed) a.overflowed;
}

unfoldable pub activate : Ui → NodeId → Ui
activate u d =
    cond (ltb u.output_count (limit_of u))
    (with_interaction (with_waiting u (waiting_of u ++ d ∷ [])) (activated u.interaction d false))
    (with_interaction u (activated u.interaction d true))

-- A release on the very node of the press activates it; every release ends the press.
abbrev pub released_on : Ui → Option NodeId → Option NodeId → Ui
released_on u hit None = with_interaction u (pressed_on u.interaction None)
released_on u hit (Some d) = cond (is_id hit d) (activate u d) (with_interaction u (pressed_on u.interaction None))

-- A key's edit, its kind and its number for the fold.
abbrev pub keyed_field : Key → Field → Field
keyed_field (Char c) f = inserted f c
keyed_field (Op op) f = edited f op

abbrev pub op_code : EditOp → ℕ
op_code Backspace = 1
op_code Delete = 2
op_code Left = 3
op_code Right = 4
op_code Home = 5
op_code End = 6

abbrev pub key_bytes : Key → List ℕ
key_bytes (Char c) = low_bytes 8 1 ++ low_bytes 8 c
key_bytes (Op op) = low_bytes 8 2 ++ low_bytes 8 (op_code op)

-- The edit changed something: length or caret.
abbrev pub has_changed : Field → Field → Bool
has_changed f g = not (same f.len g.len && same f.cursor g.cursor)

unfoldable pub edit_fold : Ui → NodeId → Key → ℕ
edit_fold u d key = (absorbed empty_hash (low_bytes 8 u.interaction.edit_fold ++ id_bytes d ++ key_bytes key)).state

-- The field of the node in focus is edited; the fold takes what changed it.
abbrev pub edit_field : Ui → NodeId → Key → Option Field → Ui
edit_field u d key None = u
edit_field u d key (Some f) =
    with_interaction (with_fields u (change_first (owns d) (keyed_field key) u.fields))
    (cond (has_changed f (keyed_field key f)) (folded_by u.interaction (edit_fold u d key)) u.interaction)

abbrev pub edit_focused : Ui → Key → Option NodeId → Ui
edit_focused u key None = u
edit_focused u key (Some d) = cond (is_live (limit_of u) u.slots d) (edit_field u d key (field_of d u.fields)) u

-- An event before the bits are refreshed, with `hit` the node under the pointer.
abbrev pub applied_event : Ui → Option NodeId → UiEvent → Ui
applied_event u hit (PointerMoved x' y') = with_interaction u (pointed_at u.interaction (Some (record { x = x'; y = y' })))
applied_event u hit PointerPressed = with_interaction u (pressed_on u.interaction hit)
applied_event u hit PointerReleased = released_on u hit u.interaction.pressed
applied_event u hit (TextEntered ch) = edit_focused u (Char ch) u.interaction.focus
applied_event u hit (Edit op) = edit_focused u (Op op) u.interaction.focus

-- The node under the pointer. Press, release and hover all go by it.
unfoldable pub hit_of : Ui → Option NodeId
hit_of u = hit_under u u.interaction.pointer

unfoldable pub handled : Ui → UiEvent → Ui
handled u event = let v = applied_event u (hit_of u) event in refreshed v (hit_of v)

unfoldable pub handle : Ui → UiEvent → Outcome ℕ
handle u event = guarded u 0 (gives (handled u event) 0)

-- The oldest waiting output is taken; none where none waits.
abbrev pub take_oldest : Ui → List NodeId → Outcome (Option NodeId)
take_oldest u [] = gives u None
take_oldest u (d ∷ ds) = gives (with_waiting u ds) (Some d)

unfoldable pub next_output : Ui → Outcome (Option NodeId)
next_output u = guarded u None (take_oldest u (waiting_of u))

-- The pointer's bytes: x and y, then 1; of a pointer that is nowhere 0 and 0, then 0.
abbrev pub pointer_bytes : Option Pixel → List ℕ
pointer_bytes None = low_bytes 4 0 ++ low_bytes 4 0 ++ low_bytes 4 0
pointer_bytes (Some pixel) = low_bytes 4 (unsigned_of pixel.x) ++ low_bytes 4 (unsigned_of pixel.y) ++ low_bytes 4 1

-- The fingerprint: the interaction on a fold that stands at some state.
abbrev pub interaction_bytes : Interaction → List ℕ
interaction_bytes a =
    pointer_bytes a.pointer ++ maybe_bytes a.pressed ++ maybe_bytes a.focus
    ++ low_bytes 8 a.activations ++ low_bytes 8 a.decisions ++ low_bytes 8 a.overflowed ++ low_bytes 8 a.edit_fold

unfoldable pub absorb : Ui → StateHash → Outcome ℕ
absorb u h = guarded u 0 (gives u (absorbed h (interaction_bytes u.interaction)).state)

-- The field of the node read as metres, in whole centimetres.
unfoldable pub metres : Ui → NodeId → Outcome ℕ
metres u d = on_field u d 0 (λ f. record { next = u; answer = field_metres f })
