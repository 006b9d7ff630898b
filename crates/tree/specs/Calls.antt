-- Document 01: each call of the tree, with its answer and the next tree. The lowest refusal number that applies is given; a refused call
-- hands back the tree that it got.
use Rattle.boxes.specs.declared.Pixel.{Pixel}
use Rattle.std.specs.Prelude.{ℕ, ◌+◌, ◌-◌, Bool, true, false, ◌&&◌, not, cond, List, ltb, pos, length, set, replicate, None, Option, Some}
use Rattle.text.specs.Refusal.{Answer, accepted, refused}
use Rattle.text.specs.declared.refusal.Refusal.{Refusal}
use Rattle.text.specs.declared.refusal.Refusal.TheVariants.{Broken, Large, Missing, Full, Root, Foreign, Long, Fieldless}
use Rattle.field.specs.Fields.{empty_field, shown_of}
use Rattle.field.specs.declared.NodeId.{NodeId}
use Rattle.field.specs.declared.Field.{Field}
use Rattle.arithmetic.specs.Tests.{same, all, from_to, final_or}
use Rattle.arena.specs.Slots.{NIL, at, put, used, is_live, id_at, nobody, link_last, unlink, freeing, freed, new_slots}
use Rattle.boxes.specs.Styles.{no_rect, fresh_style, fresh_layout, fresh_state, layout_at}
use Rattle.boxes.specs.States.{in_pool, bare_all, reset_states}
use Rattle.tree.specs.Wearing.{appearance_of, styled_at, tabled_at}
use Rattle.boxes.specs.Layout.{same_view, passed}
use Rattle.boxes.specs.Pointers.{first_pointer}
use Rattle.arena.specs.Fields.{field_of, vacant, reclaimed, claimed, first_field, Shown, no_text}
use Rattle.tree.specs.Trees.{limit_of, with_nodes, with_styles, with_pool, with_fields, with_pass}
use Rattle.tree.specs.Broken.{broken}
use Rattle.tree.specs.declared.Ui.{Ui}
use Rattle.arena.specs.declared.Slot.{Slot}
use Rattle.boxes.specs.declared.Style.{Style}
use Rattle.boxes.specs.declared.Rect.{Rect}
use Rattle.boxes.specs.declared.StatePatch.{StatePatch}
use Rattle.boxes.specs.declared.Viewport.{Viewport}
use Rattle.boxes.specs.declared.StartKind.{StartKind}

-- What a call gives: the next tree, and its answer.
pub record Outcome (A : Type 0) : Type 0 where
  pub next : Ui
  pub answer : Answer A

abbrev pub gives : {A : Type 0} → Ui → A → Outcome A
gives u v = record { next = u; answer = accepted v }

abbrev pub refuses : {A : Type 0} → Ui → Refusal → A → Outcome A
refuses u word none = record { next = u; answer = refused word none }

-- A broken tree is refused; then a node that is not live.
unfoldable pub guarded : {A : Type 0} → Ui → A → Outcome A → Outcome A
guarded u none o = cond (broken u) (refuses u Broken none) o

unfoldable pub on_live : {A : Type 0} → Ui → NodeId → A → Outcome A → Outcome A
on_live u d none o = guarded u none (cond (is_live (limit_of u) u.slots d) o (refuses u Missing none))

-- The tree of n slots that has its root alone, with the pointer as given.
unfoldable pub fresh : Option Pixel → ℕ → Ui
fresh first n = record {
  slots = new_slots n 0 128;
  layout = replicate 128 fresh_layout;
  dirty = true;
  solved_for = record { width = pos 0; height = pos 0 };
  interaction = record { pointer = first; pressed = None; focus = None; activations = 0; decisions = 0; edit_fold = 0; overflowed = 0 };
  outputs = replicate 128 nobody;
  output_count = 0;
  states = replicate 128 fresh_state;
  patches = replicate 64 (record { style = fresh_style; touches_layout = false });
  patch_count = 0;
  stated = replicate 3 0;
  stated_count = 0;
  layout_passes = 0;
  free = cond (ltb 1 n) 1 NIL;
  live = 1;
  limits = record { nodes = n };
  fields = replicate 8 empty_field;
}

-- What a start gives: the two share all but the pointer. A limit of 0 means 1; one above 128 is refused, with the tree of limit 1.
unfoldable pub new_tree : StartKind → ℕ → Outcome ℕ
new_tree kind limit =
    let first = first_pointer kind in
    cond (ltb 128 limit) (refuses (fresh first 1) Large 0) (gives (fresh first (cond (same limit 0) 1 limit)) 0)

-- A new last child of slot p, in the first free slot.
unfoldable pub insert_at : Ui → ℕ → Ui
insert_at u p =
    let i = u.free in
    let s = at u.slots i in
    with_nodes u
    (link_last (put u.slots i (used s.generation p NIL NIL NIL NIL)) p i)
    (set u.layout i fresh_layout) (set u.states i fresh_state) s.next_sibling (u.live + 1)

unfoldable pub insert : Ui → NodeId → Outcome NodeId
insert u parent =
    on_live u parent nobody
    (cond (same u.free NIL) (refuses u Full nobody) (gives (insert_at u parent.index) (id_at u.slots u.free)))

-- Other slots, of which those of a list are freed; their state slots are as new.
abbrev pub with_freed : Ui → List Slot → List ℕ → Ui
with_freed u s o = with_nodes u (freed s u.free o) u.layout (reset_states u.states o) (final_or u.free o) (u.live - length o)

-- Slot i leaves its parent's children, and it and all below it are freed.
unfoldable pub remove_at : Ui → ℕ → Ui
remove_at u i = let s = unlink u.slots i in with_freed u s (freeing s i)

unfoldable pub remove : Ui → NodeId → Outcome ℕ
remove u d = on_live u d 0 (cond (same d.index 0) (refuses u Root 0) (gives (remove_at u d.index) 0))

unfoldable pub set_style : Ui → NodeId → Style → Outcome ℕ
set_style u d style = on_live u d 0 (gives (styled_at u d.index style) 0)

unfoldable pub set_state_table : Ui → NodeId → List ℕ → Outcome ℕ
set_state_table u d table =
    on_live u d 0 (cond (all (in_pool u.patch_count) table) (gives (tabled_at u d.index table) 0) (refuses u Foreign 0))

-- The pool is the first `count` of the patches; every slot below the limit loses table, bits and patch.
unfoldable pub pooled : Ui → List StatePatch → ℕ → Ui
pooled u patches count =
    let k = bare_all (appearance_of u) (from_to 0 (limit_of u)) in
    with_pool (with_styles u k.layout k.states k.dirty) patches count

unfoldable pub set_patch_pool : Ui → List StatePatch → ℕ → Outcome ℕ
set_patch_pool u patches count = guarded u 0 (cond (ltb 64 count) (refuses u Long 0) (gives (pooled u patches count) 0))

-- A node that has a field keeps it. Otherwise the fields of dead owners are cleared and the first free one is taken.
abbrev pub take_vacant : Ui → NodeId → Option Field → Outcome ℕ
take_vacant u d None = refuses u Full 0
take_vacant u d (Some f) = gives (with_fields u (claimed d (reclaimed (limit_of u) u.slots u.fields))) 0

abbrev pub take_field : Ui → NodeId → Option Field → Outcome ℕ
take_field u d (Some f) = gives u 0
take_field u d None = take_vacant u d (first_field vacant (reclaimed (limit_of u) u.slots u.fields))

unfoldable pub make_field : Ui → NodeId → Outcome ℕ
make_field u d = on_live u d 0 (take_field u d (field_of d u.fields))

-- A read of the node's field.
abbrev pub of_field : {A : Type 0} → Ui → A → (Field → Outcome A) → Option Field → Outcome A
of_field u none read None = refuses u Fieldless none
of_field u none read (Some f) = read f

unfoldable pub on_field : {A : Type 0} → Ui → NodeId → A → (Field → Outcome A) → Outcome A
on_field u d none read = on_live u d none (of_field u none read (field_of d u.fields))

abbrev pub shown : Field → Shown
shown f = record { bytes = shown_of f; len = f.len }

unfoldable pub field_text : Ui → NodeId → Outcome Shown
field_text u d = on_field u d no_text (λ f. gives u (shown f))

unfoldable pub field_cursor : Ui → NodeId → Outcome ℕ
field_cursor u d = on_field u d 0 (λ f. gives u f.cursor)

unfoldable pub solve : Ui → Viewport → Outcome ℕ
solve u v =
    guarded u 0 (cond (not u.dirty && same_view u.solved_for v) (gives u 0) (gives (with_pass u (passed u.slots u.layout v) v) 0))

unfoldable pub rect : Ui → NodeId → Outcome Rect
rect u d = on_live u d no_rect (gives u (layout_at u.layout d.index).rect)

-- A dead node is just not live, and has no first child; of its next sibling is asked in vain.
unfoldable pub live : Ui → NodeId → Outcome Bool
live u d = guarded u false (gives u (is_live (limit_of u) u.slots d))

abbrev pub neighbour_at : Ui → ℕ → Option NodeId
neighbour_at u i = cond (same i NIL) None (Some (id_at u.slots i))

unfoldable pub first_child : Ui → NodeId → Outcome (Option NodeId)
first_child u d =
    guarded u None (gives u (cond (is_live (limit_of u) u.slots d) (neighbour_at u (at u.slots d.index).first_child) None))

unfoldable pub next_sibling : Ui → NodeId → Outcome (Option NodeId)
next_sibling u d = on_live u d None (gives u (neighbour_at u (at u.slots d.index).next_sibling))
