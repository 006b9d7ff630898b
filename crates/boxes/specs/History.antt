-- Document 01, "The history of demand 3", with wishes 2 and 6 of document 02. It is fed the new tree's start and limit and each call with its
-- arguments, and of the answers only the id that an accepted insert gives. Press, focus and the field of a key are names: a name is made at each
-- accepted insert and used once.
use Rattle.boxes.specs.declared.Pixel.{Pixel}
use Rattle.std.specs.Prelude.{ℕ, ◌+◌, ◌-◌, Bool, true, false, ◌&&◌, ◌||◌, not, cond, List, [], ◌∷◌, ◌++◌, ltb, pos, length, get_or, take, replicate, None, Option, Some}
use Rattle.text.specs.Refusal.{Answer, accepted, refused, number_of}
use Rattle.text.specs.declared.refusal.Refusal.TheVariants.{Missing, Full, Root, Foreign, Long, Fieldless}
use Rattle.arithmetic.specs.declared.fold.StateHash.{StateHash}
use Rattle.field.specs.Text.{Text, bytes_of, caret_of, typed, keyed, goes_in}
use Rattle.field.specs.Metres.{metres_of}
use Rattle.field.specs.Marks.{Marked, new_marked, takes, mark_after, next_mark}
use Rattle.field.specs.declared.Mark.{Mark}
use Rattle.field.specs.declared.Mark.TheVariants.{Confirmed}
use Rattle.field.specs.Fields.{view_by, metres_of_view}
use Rattle.field.specs.declared.NodeId.{NodeId}
use Rattle.arithmetic.specs.Tests.{same, all}
use Rattle.boxes.specs.Styles.{no_patch, no_rect}
use Rattle.boxes.specs.States.{in_pool}
use Rattle.arena.specs.Slots.{same_id, nobody}
use Rattle.boxes.specs.Layout.{view_rect, same_view}
use Rattle.boxes.specs.Pointers.{first_pointer, under_pointer}
use Rattle.arena.specs.Forest.{Forest, nil, node, app, has_both, has_id, kids_of, set_kids_of, cut_of, find, first_id, next_id, size, map_f, any_f}
use Rattle.boxes.specs.Nodes.{Info, new_info, with_field, change_of, change_named, wears, swaps, bits_for, restyled, with_table, bare, place_f, hit_f, has_field, bit}
use Rattle.boxes.specs.declared.Style.{Style}
use Rattle.boxes.specs.declared.Rect.{Rect}
use Rattle.boxes.specs.declared.StatePatch.{StatePatch}
use Rattle.boxes.specs.declared.Viewport.{Viewport}
use Rattle.boxes.specs.declared.StartKind.{StartKind}
use Rattle.boxes.specs.declared.UiEvent.{UiEvent}
use Rattle.boxes.specs.declared.UiEvent.TheVariants.{PointerMoved, PointerPressed, PointerReleased, TextEntered, Edit}
use Rattle.boxes.specs.declared.Key.{Key}
use Rattle.boxes.specs.declared.Key.TheVariants.{Char, Op}
use Rattle.arena.specs.Fields.{Shown, no_text, ShownMarked, no_marked}

-- A call of the tree with its arguments: an insertion, which alone gives an id; another call that may change the tree; a read, which cannot.
pub data Change : Type 0 where
  remove : NodeId → Change
  set_style : NodeId → Style → Change
  set_state_table : NodeId → List ℕ → Change
  set_patch_pool : List StatePatch → ℕ → Change
  make_field : NodeId → Change
  solve : Viewport → Change
  handle : UiEvent → Change
  next_output : Change
  confirm : NodeId → Change
  next_ship : Change

pub data Question : Type 0 where
  field_text : NodeId → Question
  field_cursor : NodeId → Question
  metres : NodeId → Question
  rect : NodeId → Question
  live : NodeId → Question
  first_child : NodeId → Question
  next_sibling : NodeId → Question
  absorb : StateHash → Question
  confirmed_metres : NodeId → Question
  marked_text : NodeId → Question

pub data Call : Type 0 where
  insert : NodeId → Call
  change : Change → Call
  ask : Question → Call

-- The pointer, and the names of the nodes pressed and in focus, dead or not.
pub record Input : Type 0 where
  pub pointer : Option Pixel
  pub pressed : Option ℕ
  pub focus : Option ℕ

-- What a pass and wearing go by: the pool, the viewport of the last pass, and whether a pass is due.
pub record Styling : Type 0 where
  pub pool : List StatePatch
  pub viewport : Viewport
  pub dirty : Bool

-- The live nodes; every id that was ever given, at the place of its node's name; the styling; the input.
pub record History : Type 0 where
  pub limit : ℕ
  pub tree : Forest Info
  pub named : List NodeId
  pub styling : Styling
  pub input : Input

abbrev pub root_id : NodeId
root_id = record { index = 0; generation = 1 }

-- A limit of 0 means 1, and so does one above 128, which is refused.
unfoldable pub limit_from : ℕ → ℕ
limit_from limit = cond (ltb 128 limit) 1 (cond (same limit 0) 1 limit)

unfoldable pub start : StartKind → ℕ → History
start kind limit' = record {
  limit = limit_from limit';
  tree = node 0 1 (new_info 0) nil nil;
  named = root_id ∷ [];
  styling = record { pool = []; viewport = record { width = pos 0; height = pos 0 }; dirty = true };
  input = record { pointer = first_pointer kind; pressed = None; focus = None };
}

-- The history with some of it changed: definitions touch it through these alone, so that a field more changes them and the start.
abbrev pub with_styling : History → Forest Info → Styling → History
with_styling h t s = record { limit = h.limit; tree = t; named = h.named; styling = s; input = h.input }

abbrev pub with_names : History → List NodeId → History
with_names h names = record { limit = h.limit; tree = h.tree; named = names; styling = h.styling; input = h.input }

abbrev pub with_input : History → Input → History
with_input h i = record { limit = h.limit; tree = h.tree; named = h.named; styling = h.styling; input = i }

-- Other nodes, and whether a pass is due.
abbrev pub with_tree : History → Forest Info → Bool → History
with_tree h t due = with_styling h t (record { pool = h.styling.pool; viewport = h.styling.viewport; dirty = due })

-- Some live node has the id.
abbrev pub has : History → NodeId → Bool
has h d = has_id d h.tree

-- How many live nodes have a field.
abbrev pub field_count : Forest Info → ℕ
field_count nil = 0
field_count (node i g x cs sib) = bit (has_field x) + (field_count cs + field_count sib)

-- What reads answer of an id: of a live node what the history has of it.
abbrev pub of_marked : {A : Type 0} → A → (Marked → Answer A) → Option Marked → Answer A
of_marked none read None = refused Fieldless none
of_marked none read (Some e) = read e

abbrev pub of_node : {A : Type 0} → A → (Info → Answer A) → Option Info → Answer A
of_node none read None = refused Missing none
of_node none read (Some x) = read x

abbrev pub padded : Text → Shown
padded t = record { bytes = bytes_of t ++ replicate (64 - length (bytes_of t)) 0; len = length (bytes_of t) }

-- A read of the node's field, by its text and mark.
abbrev pub field_said : {A : Type 0} → History → NodeId → A → (Marked → Answer A) → Answer A
field_said h d none read = of_node none (λ x. of_marked none read x.marked) (find d h.tree)

unfoldable pub text_said : History → NodeId → Answer Shown
text_said h d = field_said h d no_text (λ e. accepted (padded e.text))

unfoldable pub caret_said : History → NodeId → Answer ℕ
caret_said h d = field_said h d 0 (λ e. accepted (caret_of e.text))

unfoldable pub metres_said : History → NodeId → Answer ℕ
metres_said h d = field_said h d 0 (λ e. metres_of (bytes_of e.text))

-- Document 02, wish 6: the ramp's reader, and the harbour office's.
unfoldable pub confirmed_said : History → NodeId → Answer ℕ
confirmed_said h d = field_said h d 0 (λ e. metres_of_view (view_by e.mark (bytes_of e.text)))

abbrev pub padded_marked : Marked → ShownMarked
padded_marked e = record { shown = padded e.text; caret = caret_of e.text; mark = e.mark }

unfoldable pub marked_said : History → NodeId → Answer ShownMarked
marked_said h d = field_said h d no_marked (λ e. accepted (padded_marked e))

unfoldable pub rect_said : History → NodeId → Answer Rect
rect_said h d = of_node no_rect (λ x. accepted x.rect) (find d h.tree)

unfoldable pub live_said : History → NodeId → Answer Bool
live_said h d = accepted (has h d)

-- A dead node has no first child; of its next sibling is asked in vain.
unfoldable pub first_said : History → NodeId → Answer (Option NodeId)
first_said h d = accepted (first_id (kids_of d h.tree))

unfoldable pub next_said : History → NodeId → Answer (Option NodeId)
next_said h d = cond (has h d) (accepted (next_id d h.tree)) (refused Missing None)

-- The refusal number of a call, by document 01's table; 0 where it is accepted. Number 1 never comes.
abbrev pub unless : Bool → ℕ → ℕ → ℕ
unless b n m = cond b m n

abbrev pub refusal_of_field : History → Option Info → ℕ
refusal_of_field h None = number_of Missing
refusal_of_field h (Some x) = unless (has_field x || ltb (field_count h.tree) 8) (number_of Full) 0

abbrev pub refusal_of_change : History → Change → ℕ
refusal_of_change h (remove d) = unless (has h d) (number_of Missing) (unless (not (same_id d root_id)) (number_of Root) 0)
refusal_of_change h (set_style d s) = unless (has h d) (number_of Missing) 0
refusal_of_change h (set_state_table d table) = unless (has h d) (number_of Missing) (unless (all (in_pool (length h.styling.pool)) table) (number_of Foreign) 0)
refusal_of_change h (set_patch_pool patches count) = unless (not (ltb 64 count)) (number_of Long) 0
refusal_of_change h (make_field d) = refusal_of_field h (find d h.tree)
refusal_of_change h (solve v) = 0
refusal_of_change h (handle e) = 0
refusal_of_change h next_output = 0
refusal_of_change h (confirm d) = (metres_said h d).number
refusal_of_change h next_ship = 0

abbrev pub refusal_of_question : History → Question → ℕ
refusal_of_question h (field_text d) = (text_said h d).number
refusal_of_question h (field_cursor d) = (caret_said h d).number
refusal_of_question h (metres d) = (metres_said h d).number
refusal_of_question h (rect d) = (rect_said h d).number
refusal_of_question h (live d) = (live_said h d).number
refusal_of_question h (first_child d) = (first_said h d).number
refusal_of_question h (next_sibling d) = (next_said h d).number
refusal_of_question h (absorb s) = 0
refusal_of_question h (confirmed_metres d) = (confirmed_said h d).number
refusal_of_question h (marked_text d) = (marked_said h d).number

unfoldable pub refusal_of : History → Call → ℕ
refusal_of h (insert d) = unless (has h d) (number_of Missing) (unless (ltb (size h.tree) h.limit) (number_of Full) 0)
refusal_of h (change c) = refusal_of_change h c
refusal_of h (ask q) = refusal_of_question h q

-- The name of the node under the pointer, by this tree and these boxes. Press, release and hover all go by it.
abbrev pub hit_name : History → Option ℕ
hit_name h = under_pointer None (λ pixel. hit_f pixel None h.tree) h.input.pointer

-- The bits of a node follow from the hit, the press and the focus.
abbrev pub bits_in : History → Info → ℕ
bits_in h x = bits_for (hit_name h) h.input.pressed h.input.focus x

-- Every live node wears its bits as they stand.
unfoldable pub refresh : History → History
refresh h =
    let pool = h.styling.pool in
    with_tree h (map_f (λ i g x. wears pool (bits_in h x) x) h.tree) (h.styling.dirty || any_f (λ i g x. swaps pool (bits_in h x) x) h.tree)

-- The name is the other's.
abbrev pub same_name : Option ℕ → Option ℕ → Bool
same_name None m = false
same_name (Some k) None = false
same_name (Some k) (Some m) = same k m

-- A key is one edit of the text.
abbrev pub key_text : Key → Text → Text
key_text (Char c) t = typed c t
key_text (Op op) t = keyed op t

-- The key changes the text: it puts a character in, or takes one away.
abbrev pub key_changes : Key → Text → Bool
key_changes (Char c) t = goes_in c t
key_changes (Op op) t = takes op t

abbrev pub key_marked : Key → Marked → Marked
key_marked key e = record { text = key_text key e.text; mark = mark_after (key_changes key e.text) e.mark }

abbrev pub marked_as : Mark → Marked → Marked
marked_as mark' e = record { text = e.text; mark = mark' }

abbrev pub map_maybe : (Marked → Marked) → Option Marked → Option Marked
map_maybe f None = None
map_maybe f (Some e) = Some (f e)

abbrev pub refilled : (Marked → Marked) → Info → Info
refilled f x = with_field x (map_maybe f x.marked)

abbrev pub typed_into : History → Key → History
typed_into h key = with_tree h (change_named h.input.focus (refilled (key_marked key)) h.tree) h.styling.dirty

-- An event before the bits are refreshed.
abbrev pub after_event : History → UiEvent → History
after_event h (PointerMoved x' y') = with_input h (record { pointer = Some (record { x = x'; y = y' }); pressed = h.input.pressed; focus = h.input.focus })
after_event h PointerPressed = with_input h (record { pointer = h.input.pointer; pressed = hit_name h; focus = h.input.focus })
after_event h PointerReleased =
    with_input h (record { pointer = h.input.pointer; pressed = None; focus = cond (same_name h.input.pressed (hit_name h)) h.input.pressed h.input.focus })
after_event h (TextEntered ch) = typed_into h (Char ch)
after_event h (Edit op) = typed_into h (Op op)

-- A new last child of a node, with a name never used.
unfoldable pub grown : History → NodeId → NodeId → History
grown h parent new =
    let child = node new.index new.generation (new_info (length h.named)) nil nil in
    with_names (with_tree h (set_kids_of parent (app (kids_of parent h.tree) child) h.tree) true) (h.named ++ new ∷ [])

abbrev pub keep_marked : Option Marked → Option Marked
keep_marked None = Some new_marked
keep_marked (Some e) = Some e

-- What an accepted call makes of the history; `new` is the id that an insertion gave.
abbrev pub after_change : History → Change → History
after_change h (remove d) = with_tree h (cut_of d h.tree) true
after_change h (set_style d s) = with_tree h (change_of d (restyled s) h.tree) true
after_change h (set_state_table d table) =
    let pool = h.styling.pool in
    with_tree h (change_of d (λ x. wears pool x.bits (with_table table x)) h.tree)
    (h.styling.dirty || any_f (λ i g x. has_both d i g && swaps pool x.bits (with_table table x)) h.tree)
after_change h (set_patch_pool patches count) =
    with_styling h (map_f (λ i g x. bare x) h.tree)
    (record { pool = take count patches; viewport = h.styling.viewport; dirty = h.styling.dirty || any_f (λ i g x. not (same x.applied no_patch)) h.tree })
after_change h (make_field d) = with_tree h (change_of d (λ x. with_field x (keep_marked x.marked)) h.tree) h.styling.dirty
after_change h (solve v) =
    cond (not h.styling.dirty && same_view h.styling.viewport v) h
    (with_styling h (place_f h.tree (view_rect v ∷ [])) (record { pool = h.styling.pool; viewport = v; dirty = false }))
after_change h (handle e) = refresh (after_event h e)
after_change h next_output = h
after_change h (confirm d) = with_tree h (change_of d (refilled (marked_as Confirmed)) h.tree) h.styling.dirty
after_change h next_ship = with_tree h (map_f (λ i g x. refilled (λ e. marked_as (next_mark e.mark) e) x) h.tree) h.styling.dirty

unfoldable pub accept : History → Call → NodeId → History
accept h (insert d) new = grown h d new
accept h (change c) new = after_change h c
accept h (ask q) new = h

-- A refused call changes nothing.
unfoldable pub recorded : History → Call → NodeId → History
recorded h c new = cond (same (refusal_of h c) 0) (accept h c new) h

-- The stored focus: the id of the node that has the name, dead or not.
abbrev pub id_named : List NodeId → Option ℕ → Option NodeId
id_named named None = None
id_named named (Some m) = Some (get_or named m nobody)
