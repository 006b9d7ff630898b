-- Before the first move from a start whose pointer is nowhere: press and release find no node, and keys no focus. One induction over the list,
-- on the history alone. Assumes nothing.
use Rattle.std.specs.Prelude.{None, Option, Some}
use mathlib.Core.Path.{◌≡◌, ap}
use mathlib.Core.Bool.{true, ◌&&◌, not, cond}
use mathlib.Core.List.{List, [], ◌∷◌}
use Prim.Native.Nat.{ℕ}
use Rattle.field.specs.declared.NodeId.{NodeId}
use Rattle.arithmetic.specs.Tests.{same, all}
use Rattle.arithmetic.proofs.BoolLaws.{no_more, both}
use Rattle.arithmetic.proofs.TestLaws.{bool_cases}
use Rattle.field.specs.Marks.{Marked}
use Rattle.tree.specs.Forest.{find}
use Rattle.tree.specs.Layout.{same_view}
use Rattle.tree.specs.Nodes.{Info, hit_f}
use Rattle.tree.specs.Pointers.{under_pointer}
use Rattle.tree.specs.History.{History, Input, Call, Change, refusal_of, after_change, accept, recorded, grown, refresh, after_event, same_name}
use Rattle.tree.specs.History.Call.{insert, change, ask}
use Rattle.tree.specs.History.Change.{remove, set_style, set_state_table, set_patch_pool, make_field, solve, handle, next_output, confirm, next_ship}
use Rattle.boxes.specs.declared.UiEvent.{UiEvent}
use Rattle.boxes.specs.declared.UiEvent.TheVariants.{PointerMoved, PointerPressed, PointerReleased, TextEntered, Edit}
use Rattle.desk.specs.Demand3.{follow}
use Rattle.desk.specs.Keys.{Log, begin_at, log_field, log_event, logged_change, logged, logs}
use Rattle.desk.specs.Corollaries.{is_move, change_moves, moves, NoMove}

-- the input of a start whose pointer is nowhere
abbrev pub untouched : Input
untouched = record { pointer = None; pressed = None; focus = None }

module _ (h : History) (e : h.input ≡ untouched) where
  event_touches_nothing : (v : UiEvent) → not (is_move v) ≡ true → (after_event h v).input ≡ untouched
  event_touches_nothing (PointerMoved x y) s = no_more s
  event_touches_nothing PointerPressed s =
      ap (λ (i : Input). record { pointer = i.pointer; pressed = under_pointer None (λ pixel. hit_f pixel None h.tree) i.pointer; focus = i.focus }) e
  event_touches_nothing PointerReleased s =
      ap (λ (i : Input). record {
        pointer = i.pointer;
        pressed = None;
        focus = cond (same_name i.pressed (under_pointer None (λ pixel. hit_f pixel None h.tree) i.pointer)) i.pressed i.focus;
      }) e
  event_touches_nothing (TextEntered ch) s = e
  event_touches_nothing (Edit op) s = e

  change_touches_nothing : (c : Change) → not (change_moves c) ≡ true → (after_change h c).input ≡ untouched
  unfolding refresh
  change_touches_nothing (remove d) s = e
  change_touches_nothing (set_style d y) s = e
  change_touches_nothing (set_state_table d table) s = e
  change_touches_nothing (set_patch_pool patches count) s = e
  change_touches_nothing (make_field d) s = e
  change_touches_nothing (solve v) s = bool_cases (not h.styling.dirty && same_view h.styling.viewport v) (λ b. rw b e) (λ b. rw b e)
  change_touches_nothing (handle v) s = event_touches_nothing v s
  change_touches_nothing next_output s = e
  change_touches_nothing (confirm d) s = e
  change_touches_nothing next_ship s = e

  accepted_touches_nothing : (c : Call) (new : NodeId) → not (moves c) ≡ true → (accept h c new).input ≡ untouched
  unfolding accept grown
  accepted_touches_nothing (insert d) new s = e
  accepted_touches_nothing (change c) new s = change_touches_nothing c s
  accepted_touches_nothing (ask q) new s = e

  call_touches_nothing : (c : Call) (new : NodeId) → not (moves c) ≡ true → (recorded h c new).input ≡ untouched
  unfolding recorded
  call_touches_nothing c new s = bool_cases (same (refusal_of h c) 0) (λ b. rw b (accepted_touches_nothing c new s)) (λ b. rw b e)

-- nor does a key fall into a field, where none fell before
module _ (log : Log) (none : (m : ℕ) → log m ≡ []) where
  key_falls_nowhere : (focus : Option ℕ) → focus ≡ None → (v : UiEvent) (m : ℕ) → log_event focus v log m ≡ []
  key_falls_nowhere focus e (PointerMoved x y) m = none m
  key_falls_nowhere focus e PointerPressed m = none m
  key_falls_nowhere focus e PointerReleased m = none m
  key_falls_nowhere focus e (TextEntered ch) m = rw e (none m)
  key_falls_nowhere focus e (Edit op) m = rw e (none m)

  begun_is_empty : (o : Option Marked) (name m : ℕ) → begin_at o name log m ≡ []
  begun_is_empty None name m = bool_cases (same m name) (λ b. rw b) (λ b. rw b (none m))
  begun_is_empty (Some t) name m = none m

  field_is_empty : (o : Option Info) (m : ℕ) → log_field o log m ≡ []
  field_is_empty None m = none m
  field_is_empty (Some x) m = begun_is_empty x.marked x.name m

  change_types_nothing : (h : History) → h.input.focus ≡ None → (c : Change) (m : ℕ) → logged_change h c log m ≡ []
  change_types_nothing h e (remove d) m = none m
  change_types_nothing h e (set_style d y) m = none m
  change_types_nothing h e (set_state_table d table) m = none m
  change_types_nothing h e (set_patch_pool patches count) m = none m
  change_types_nothing h e (make_field d) m = field_is_empty (find d h.tree) m
  change_types_nothing h e (solve v) m = none m
  change_types_nothing h e (handle v) m = key_falls_nowhere h.input.focus e v m
  change_types_nothing h e next_output m = none m
  change_types_nothing h e (confirm d) m = none m
  change_types_nothing h e next_ship m = none m

  call_types_nothing : (h : History) → h.input.focus ≡ None → (c : Call) (m : ℕ) → logged h c log m ≡ []
  unfolding logged
  call_types_nothing h e (insert d) m = none m
  call_types_nothing h e (change c) m = change_types_nothing h e c m
  call_types_nothing h e (ask q) m = none m

pub nothing_is_touched : (h : History) (cs : List Call) (fed : List NodeId) (log : Log) → h.input ≡ untouched → ((m : ℕ) → log m ≡ []) → NoMove cs
    → ((follow h cs fed).input ≡ untouched) × ((m : ℕ) → logs h cs fed log m ≡ [])
nothing_is_touched h [] fed log e none s = (e, none)
nothing_is_touched h (c ∷ cs) [] log e none s = (e, none)
nothing_is_touched h (c ∷ cs) (d ∷ fed) log e none s =
    let r = both (not (moves c)) (all (λ c'. not (moves c')) cs) s in
    nothing_is_touched (recorded h c d) cs fed (cond (same (refusal_of h c) 0) (logged h c log) log) (call_touches_nothing h e c d r.0)
    (λ m. bool_cases (same (refusal_of h c) 0) (λ b. rw b (call_types_nothing log none h (ap (λ (i : Input). i.focus) e) c m)) (λ b. rw b (none m))) r.1
