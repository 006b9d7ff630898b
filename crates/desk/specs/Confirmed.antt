-- Document 02, **Wish 6**, in a harbour master's words: what the ramp gets was confirmed on that very node, since the last ship came. Proved in
-- proofs/Confirmed.antt.
use Rattle.std.specs.Prelude.{◌≡◌, Bool, true, false, ◌&&◌, ◌||◌, not, List, [], ◌∷◌, ◌++◌, ℕ, ◌<◌, ◌^◌, length}
use Rattle.text.specs.Refusal.{accepted, refused}
use Rattle.text.specs.declared.refusal.Refusal.TheVariants.{Unconfirmed}
use Rattle.field.specs.Text.{bytes_of, caret_of}
use Rattle.field.specs.Metres.{metres_of}
use Rattle.field.specs.declared.NodeId.{NodeId}
use Rattle.arithmetic.specs.Tests.{same, all}
use Rattle.tree.specs.Slots.{same_id}
use Rattle.tree.specs.Nodes.{Info}
use Rattle.tree.specs.History.{Call, Change, padded}
use Rattle.tree.specs.History.Call.{insert, change, ask}
use Rattle.tree.specs.History.Change.{remove, set_style, set_state_table, set_patch_pool, make_field, solve, handle, next_output, confirm, next_ship}
use Rattle.tree.specs.Types.{StartKind}
use Rattle.desk.specs.Marks as marks
use Rattle.desk.specs.Demand3.{step, Machines}
use Rattle.desk.specs.Keys.{text_of_keys, leave_alone}
use Rattle.tree.specs.declared.Ui.{Ui}
use Rattle.desk.specs.Corollaries.{new_one, tree_after, keys_after, HasField}
use Rattle.boxes.specs.declared.Key.{Key}

-- A confirmation of the id, and the next ship, as a change and as a call.
abbrev pub change_confirms : NodeId → Change → Bool
change_confirms d (remove e) = false
change_confirms d (set_style e s) = false
change_confirms d (set_state_table e table) = false
change_confirms d (set_patch_pool patches count) = false
change_confirms d (make_field e) = false
change_confirms d (solve v) = false
change_confirms d (handle e) = false
change_confirms d next_output = false
change_confirms d (confirm e) = same_id d e
change_confirms d next_ship = false

abbrev pub confirms : NodeId → Call → Bool
confirms d (insert e) = false
confirms d (change c) = change_confirms d c
confirms d (ask q) = false

abbrev pub change_is_next_ship : Change → Bool
change_is_next_ship (remove d) = false
change_is_next_ship (set_style d s) = false
change_is_next_ship (set_state_table d table) = false
change_is_next_ship (set_patch_pool patches count) = false
change_is_next_ship (make_field d) = false
change_is_next_ship (solve v) = false
change_is_next_ship (handle e) = false
change_is_next_ship next_output = false
change_is_next_ship (confirm d) = false
change_is_next_ship next_ship = true

abbrev pub is_next_ship : Call → Bool
is_next_ship (insert d) = false
is_next_ship (change c) = change_is_next_ship c
is_next_ship (ask q) = false

-- A list of calls on a tree confirms the id: one of them is a confirmation of it, and is accepted.
abbrev pub is_confirmed_by : NodeId → Ui → List Call → Bool
is_confirmed_by d u [] = false
is_confirmed_by d u (c ∷ cs) = (confirms d c && same (step u c).number 0) || is_confirmed_by d (step u c).next cs

-- No call of the list is a next ship.
abbrev pub NoNextShip : List Call → Type 0
NoNextShip cs = all (λ c. not (is_next_ship c)) cs ≡ true

module _ (kind : StartKind) (limit : ℕ) (cs : List Call) where
  -- Of an id, a name and keys, after the calls: a confirmation stands. The id was confirmed, no next ship came since, and of the keys, which are
  -- those that the name had then and those that it got since, none since changed the text.
  pub record Stands (d : NodeId) (name : ℕ) (keys : List Key) : Type 0 where
    pub before : List Call
    pub after : List Call
    pub calls_are : cs ≡ before ++ change (confirm d) ∷ after
    pub was_accepted : (step (tree_after kind limit before) (change (confirm d))).number ≡ 0
    pub no_next_ship_since : NoNextShip after
    pub since : List Key
    pub keys_are : keys ≡ keys_after kind limit before name ++ since
    pub text_left_alone : leave_alone (text_of_keys (keys_after kind limit before name)) since ≡ true

  -- Of a live node which has a field.
  pub record OfMarks (d : NodeId) (x : Info) : Type 0 where
    -- what the ramp gets is the metres of just the keys handled while the node had the focus, as they stood at a confirmation that stands
    pub the_ramp_gets_what_was_confirmed : (n : ℕ) → (marks.confirmed_metres (tree_after kind limit cs) d).answer ≡ accepted n
        → (s : Stands d x.name (keys_after kind limit cs x.name)) × (metres_of (bytes_of (text_of_keys (keys_after kind limit s.before x.name))) ≡ accepted n)
    -- after the next ship and until that very node is confirmed anew the ramp is refused by 14, whatever was typed since, however often a
    -- confirmation was refused, and whatever its slot and its field held before
    pub no_last_ships_draught : (before after : List Call) → cs ≡ before ++ change next_ship ∷ after
        → is_confirmed_by d (step (tree_after kind limit before) (change next_ship)).next after ≡ false
        → (marks.confirmed_metres (tree_after kind limit cs) d).answer ≡ refused Unconfirmed 0
    -- so it is from the start on until the node is confirmed
    pub no_unconfirmed_draught : is_confirmed_by d (new_one kind limit cs) cs ≡ false → (marks.confirmed_metres (tree_after kind limit cs) d).answer ≡ refused Unconfirmed 0
    -- the office reads text and caret of the node's keys, whatever the mark
    pub the_office_reads_the_keys : ((marks.marked_text (tree_after kind limit cs) d).answer.number ≡ 0)
        × ((marks.marked_text (tree_after kind limit cs) d).answer.value.shown ≡ padded (text_of_keys (keys_after kind limit cs x.name)))
        × ((marks.marked_text (tree_after kind limit cs) d).answer.value.caret ≡ caret_of (text_of_keys (keys_after kind limit cs x.name)))

abbrev pub ConfirmedDraughts : Type 0
ConfirmedDraughts =
    (kind : StartKind) (limit : ℕ) → limit < 2 ^ 32 → (cs : List Call) → length cs < 2 ^ 63 → Machines cs
    → (d : NodeId) (x : Info) → HasField kind limit cs d x → OfMarks kind limit cs d x
