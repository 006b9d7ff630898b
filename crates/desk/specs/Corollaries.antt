-- What follows from demand 3, each in words that a planner can check. Proved in proofs/Corollaries.antt.
use Rattle.std.specs.Prelude.{◌≡◌, Bool, true, false, not, List, [], ◌∷◌, ℕ, ◌<◌, ◌^◌, length, None, Some}
use Rattle.text.specs.Refusal.{accepted, refused}
use Rattle.text.specs.declared.refusal.Refusal.TheVariants.{Empty}
use Rattle.field.specs.Text.{bytes_of, caret_of}
use Rattle.field.specs.Metres.{metres_of}
use Rattle.field.specs.declared.NodeId.{NodeId}
use Rattle.arithmetic.specs.Tests.{all}
use Rattle.tree.specs.Fields.{no_text}
use Rattle.tree.specs.Forest.{find}
use Rattle.tree.specs.Nodes.{Info, has_field}
use Rattle.tree.specs.Calls as tree
use Rattle.tree.specs.History.{History, Call, Change, start, padded, root_id}
use Rattle.tree.specs.History.Call.{insert, change, ask}
use Rattle.tree.specs.History.Change.{remove, set_style, set_state_table, set_patch_pool, make_field, solve, handle, next_output, confirm, next_ship}
use Rattle.tree.specs.declared.Ui.{Ui}
use Rattle.tree.specs.Types.{StartKind}
use Rattle.boxes.specs.declared.StartKind.TheVariants.{New}
use Rattle.boxes.specs.declared.UiEvent.{UiEvent}
use Rattle.boxes.specs.declared.UiEvent.TheVariants.{PointerMoved, PointerPressed, PointerReleased, TextEntered, Edit}
use Rattle.desk.specs.Events as desk
use Rattle.desk.specs.Demand3.{run, numbers, feed, given, Machines, follow, Distinct}
use Rattle.desk.specs.Keys.{Log, text_of_keys, is_blank, logs, no_keys}

-- A move of the pointer, as an event, a change and a call.
abbrev pub is_move : UiEvent → Bool
is_move (PointerMoved x y) = true
is_move PointerPressed = false
is_move PointerReleased = false
is_move (TextEntered ch) = false
is_move (Edit op) = false

abbrev pub change_moves : Change → Bool
change_moves (remove d) = false
change_moves (set_style d s) = false
change_moves (set_state_table d table) = false
change_moves (set_patch_pool patches count) = false
change_moves (make_field d) = false
change_moves (solve v) = false
change_moves (handle e) = is_move e
change_moves next_output = false
change_moves (confirm d) = false
change_moves next_ship = false

abbrev pub moves : Call → Bool
moves (insert d) = false
moves (change c) = change_moves c
moves (ask q) = false

-- No call of the list is one.
abbrev pub NoMove : List Call → Type 0
NoMove cs = all (λ c. not (moves c)) cs ≡ true

-- No number of the list is 1.
abbrev pub NeverOne : List ℕ → Type 0
NeverOne [] = Unit {0}
NeverOne (n ∷ ns) = (n ≡ 1 → ⊥) × NeverOne ns

-- The new tree of a start and a limit, and after a list of calls: the tree, the history, and the keys of each node by its name.
module _ (kind : StartKind) (limit : ℕ) (cs : List Call) where
  abbrev pub new_one : Ui
  new_one = (tree.new_tree kind limit).next

  abbrev pub tree_after : Ui
  tree_after = run new_one cs

  abbrev pub history_after : History
  history_after = follow (start kind limit) cs (feed new_one cs)

  abbrev pub keys_after : Log
  keys_after = logs (start kind limit) cs (feed new_one cs) no_keys

  -- The id is that of a live node which has a field.
  abbrev pub HasField : NodeId → Info → Type 0
  HasField d x = (find d history_after.tree ≡ Some x) × (has_field x ≡ true)

  pub record Follows : Type 0 where
    -- the ids of the root and of the accepted inserts are all different
    pub no_id_is_given_twice : Distinct (root_id ∷ given new_one cs)
    -- no call says that the tree is broken
    pub number_1_never_comes : NeverOne (numbers new_one cs)
    -- a live field's bytes and caret are those of an empty text after just the keys handled while its node had the focus, since it was made
    pub a_text_is_its_keys : (d : NodeId) (x : Info) → HasField d x → (tree.field_text tree_after d).answer ≡ accepted (padded (text_of_keys (keys_after x.name)))
    pub a_caret_is_its_keys : (d : NodeId) (x : Info) → HasField d x → (tree.field_cursor tree_after d).answer ≡ accepted (caret_of (text_of_keys (keys_after x.name)))
    -- and so its metres are read from those keys
    pub metres_are_of_its_keys : (d : NodeId) (x : Info) → HasField d x → (desk.metres tree_after d).answer ≡ metres_of (bytes_of (text_of_keys (keys_after x.name)))
    -- a field into which no such key fell reads as no text, and its metres are refused by 9, never read as 0
    pub an_untouched_field_is_empty : (d : NodeId) (x : Info) → HasField d x → keys_after x.name ≡ []
        → ((tree.field_text tree_after d).answer ≡ accepted no_text) × ((tree.field_cursor tree_after d).answer ≡ accepted 0) × ((desk.metres tree_after d).answer ≡ refused Empty 0)
    -- the metres of a field into which only spaces fell, whatever edits were among them, are refused by 9 too
    pub a_field_of_spaces_is_empty : (d : NodeId) (x : Info) → HasField d x → all is_blank (keys_after x.name) ≡ true → (desk.metres tree_after d).answer ≡ refused Empty 0
    -- in a list that has no move, from the start whose pointer is nowhere, no press and no release changes press or focus: nothing is pressed
    -- or in focus, and no key fell into a field
    pub nothing_is_hit_before_a_move : kind ≡ New → NoMove cs
        → (tree_after.interaction.pressed ≡ None) × (tree_after.interaction.focus ≡ None) × ((name : ℕ) → keys_after name ≡ [])

abbrev pub Corollaries : Type 0
Corollaries = (kind : StartKind) (limit : ℕ) → limit < 2 ^ 32 → (cs : List Call) → length cs < 2 ^ 63 → Machines cs → Follows kind limit cs
