-- What an event leaves alone: slots, boxes and, unless it moves it, the pointer. So one hit test serves an event, and the hover after it.
-- Assumes nothing.
use Rattle.std.specs.Prelude.{None, Option, Some}
use Rattle.boxes.specs.declared.Pixel.{Pixel}
use Prim.Native.Nat.{ℕ}
use mathlib.Core.Path.{◌≡◌, refl, sym, ap, ◌∙◌}
use mathlib.Core.Bool.{Bool, true, false, cond}
use lib.Dec.{ltb}
use lib.IntN.{ℤ}
use Rattle.field.specs.declared.NodeId.{NodeId}
use Rattle.field.specs.declared.Field.{Field}
use Rattle.tree.specs.Slots.{is_live, is_id}
use Rattle.tree.specs.Input.{hit_under}
use Rattle.tree.specs.Fields.{field_of}
use Rattle.tree.specs.Trees.{limit_of, with_fields, with_interaction, with_waiting}
use Rattle.tree.specs.declared.Interaction.{Interaction}
use Rattle.tree.specs.declared.Ui.{Ui}
use Rattle.desk.specs.Events.{activated, activate, folded_by, has_changed, keyed_field, edit_fold, edit_field, edit_focused, released_on, applied_event, hit_of}
use Rattle.boxes.specs.declared.UiEvent.{UiEvent}
use Rattle.boxes.specs.declared.UiEvent.TheVariants.{PointerMoved, PointerPressed, PointerReleased, TextEntered, Edit}
use Rattle.boxes.specs.declared.Key.{Key}
use Rattle.boxes.specs.declared.Key.TheVariants.{Char, Op}

-- Slots and boxes are what they were.
pub record Unmoved (u v : Ui) : Type 0 where
  pub slots : v.slots ≡ u.slots
  pub layout : v.layout ≡ u.layout

-- And so is the pointer.
pub record Stays (u v : Ui) : Type 0 where
  pub rest : Unmoved u v
  pub pointer : v.interaction.pointer ≡ u.interaction.pointer

nothing_moves : (u : Ui) → Stays u u
nothing_moves u = record { rest = record { slots = refl; layout = refl }; pointer = refl }

either_stays : (u : Ui) (b : Bool) (v w : Ui) → Stays u v → Stays u w → Stays u (cond b v w)
either_stays u true v w p q = p
either_stays u false v w p q = q

-- one more output may wait
abbrev pub has_room : Ui → Bool
has_room u = ltb u.output_count (limit_of u)

activate_stays : (u : Ui) (d : NodeId) → Stays u (activate u d)
unfolding activate activated with_interaction with_waiting
activate_stays u d =
    either_stays u (has_room u) _ _ (record { rest = record { slots = refl; layout = refl }; pointer = refl }) (record { rest = record { slots = refl; layout = refl }; pointer = refl })

release_stays : (u : Ui) (hit : Option NodeId) (m : Option NodeId) → Stays u (released_on u hit m)
unfolding with_interaction
release_stays u hit None = record { rest = record { slots = refl; layout = refl }; pointer = refl }
release_stays u hit (Some d) =
    either_stays u (is_id hit d) _ _ (activate_stays u d) (record { rest = record { slots = refl; layout = refl }; pointer = refl })

fold_stays : (b : Bool) (a : Interaction) (n : ℕ) → (cond b (folded_by a n) a).pointer ≡ a.pointer
fold_stays true a n = refl
fold_stays false a n = refl

edit_stays : (u : Ui) (d : NodeId) (key : Key) (m : Option Field) → Stays u (edit_field u d key m)
unfolding with_interaction with_fields
edit_stays u d key None = nothing_moves u
edit_stays u d key (Some f) =
    record { rest = record { slots = refl; layout = refl }; pointer = fold_stays (has_changed f (keyed_field key f)) u.interaction (edit_fold u d key) }

key_stays : (u : Ui) (key : Key) (m : Option NodeId) → Stays u (edit_focused u key m)
key_stays u key None = nothing_moves u
key_stays u key (Some d) =
    either_stays u (is_live (limit_of u) u.slots d) _ _ (edit_stays u d key (field_of d u.fields)) (nothing_moves u)

-- What every event leaves alone.
pub event_keeps : (u : Ui) (hit : Option NodeId) (event : UiEvent) → Unmoved u (applied_event u hit event)
unfolding with_interaction
event_keeps u hit (PointerMoved x' y') = record { slots = refl; layout = refl }
event_keeps u hit PointerPressed = record { slots = refl; layout = refl }
event_keeps u hit PointerReleased = (release_stays u hit u.interaction.pressed).rest
event_keeps u hit (TextEntered ch) = (key_stays u (Char ch) u.interaction.focus).rest
event_keeps u hit (Edit op) = (key_stays u (Op op) u.interaction.focus).rest

pub release_keeps_the_pointer : (u : Ui) (hit : Option NodeId) → (applied_event u hit PointerReleased).interaction.pointer ≡ u.interaction.pointer
release_keeps_the_pointer u hit = (release_stays u hit u.interaction.pressed).pointer

pub key_keeps_the_pointer : (u : Ui) (key : Key) → (edit_focused u key u.interaction.focus).interaction.pointer ≡ u.interaction.pointer
key_keeps_the_pointer u key = (key_stays u key u.interaction.focus).pointer

pub other_events_keep_the_pointer : (u : Ui) (hit : Option NodeId) (event : UiEvent) → ((x' y' : ℤ) → event ≡ PointerMoved x' y' → ⊥) → (applied_event u hit event).interaction.pointer ≡ u.interaction.pointer
unfolding with_interaction
other_events_keep_the_pointer u hit (PointerMoved x' y') n = absurd (n x' y' refl)
other_events_keep_the_pointer u hit PointerPressed n = refl
other_events_keep_the_pointer u hit PointerReleased n = release_keeps_the_pointer u hit
other_events_keep_the_pointer u hit (TextEntered ch) n = key_keeps_the_pointer u (Char ch)
other_events_keep_the_pointer u hit (Edit op) n = key_keeps_the_pointer u (Op op)

-- The hit may be taken where the pointer is after the event: one that moves it takes no notice of the hit.
pub hit_once : (u : Ui) (event : UiEvent) (q : Option Pixel) → q ≡ (applied_event u (hit_of u) event).interaction.pointer → applied_event u (hit_of u) event ≡ applied_event u (hit_under u q) event
unfolding hit_of with_interaction
hit_once u (PointerMoved x' y') q e = refl
hit_once u PointerPressed q e = rw e
hit_once u PointerReleased q e = rw (e ∙ release_keeps_the_pointer u (hit_of u))
hit_once u (TextEntered ch) q e = refl
hit_once u (Edit op) q e = refl

-- What is under a pointer follows from slots and boxes alone.
hit_of_lem : (u v : Ui) (q : Option Pixel) → v.slots ≡ u.slots → v.layout ≡ u.layout → hit_under v q ≡ hit_under u q
hit_of_lem u v None a b = refl
hit_of_lem u v (Some pixel) a b = rw (a, b)

-- So may the hover after it.
pub hover_once : (u : Ui) (event : UiEvent) (q : Option Pixel) → q ≡ (applied_event u (hit_of u) event).interaction.pointer → hit_of (applied_event u (hit_of u) event) ≡ hit_under u q
unfolding hit_of
hover_once u event q e =
    let s = event_keeps u (hit_of u) event in
    let v = applied_event u (hit_of u) event in
    hit_of_lem u v v.interaction.pointer s.slots s.layout ∙ ap (hit_under u) (sym e)
