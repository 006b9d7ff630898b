-- Demand 3, as one statement over every list of calls. Start here.
--
-- What it promises the harbour master: whatever was inserted, removed, styled, pressed and typed before, and however slots and fields were
-- used again, a live node answers as if every node ever made had a name of its own. Its text is made of the keys that were handled while it had
-- the focus, and of no other ship's; a field into which no key fell is empty and reads as 9, never as 0; its box is that of the last pass.
-- What follows of keys is in Corollaries.antt, and of confirmed draughts in Confirmed.antt.
use Rattle.std.specs.Prelude.{ℕ, zero, suc, ◌+◌, ◌<◌, ◌^◌, ◌≡◌, false, cond, List, [], ◌∷◌, ◌++◌, length, None, Option, Some}
use Rattle.field.specs.declared.NodeId.{NodeId}
use Rattle.arithmetic.specs.Tests.{same}
use Rattle.tree.specs.Slots.{same_id, nobody}
use Rattle.tree.specs.Forest.{kids_of, ids}
use Rattle.tree.specs.Calls as tree
use Rattle.tree.specs.Calls.{Outcome}
use Rattle.tree.specs.declared.Ui.{Ui}
use Rattle.tree.specs.Types.{StartKind}
use Rattle.desk.specs.Events as desk
use Rattle.desk.specs.Marks as marks
use Rattle.tree.specs.History.{History, Call, Change, Question, start, refusal_of, recorded, text_said, caret_said, metres_said, rect_said, live_said, first_said, next_said, confirmed_said, marked_said, id_named}
use Rattle.tree.specs.History.Call.{insert, change, ask}
use Rattle.tree.specs.History.Change.{remove, set_style, set_state_table, set_patch_pool, make_field, solve, handle, next_output, confirm, next_ship}
use Rattle.tree.specs.History.Question.{field_text, field_cursor, metres, rect, live, first_child, next_sibling, absorb, confirmed_metres, marked_text}

-- ---- the calls, by the definitions that the contracts cite

-- The next tree, the refusal number, and what the history is told: the id that an accepted insert gave.
pub record Step : Type 0 where
  pub next : Ui
  pub number : ℕ
  pub told : NodeId

abbrev pub silent : {A : Type 0} → Outcome A → Step
silent o = record { next = o.next; number = o.answer.number; told = nobody }

abbrev pub telling : Outcome NodeId → Step
telling o = record { next = o.next; number = o.answer.number; told = o.answer.value }

abbrev pub change_step : Ui → Change → Step
change_step u (remove d) = silent (tree.remove u d)
change_step u (set_style d s) = silent (tree.set_style u d s)
change_step u (set_state_table d table) = silent (tree.set_state_table u d table)
change_step u (set_patch_pool patches count) = silent (tree.set_patch_pool u patches count)
change_step u (make_field d) = silent (tree.make_field u d)
change_step u (solve v) = silent (tree.solve u v)
change_step u (handle e) = silent (desk.handle u e)
change_step u next_output = silent (desk.next_output u)
change_step u (confirm d) = silent (marks.confirm u d)
change_step u next_ship = silent (marks.next_ship u)

-- A read's number is its answer's; the tree stays as it is.
abbrev pub number_asked : Ui → Question → ℕ
number_asked u (field_text d) = (tree.field_text u d).answer.number
number_asked u (field_cursor d) = (tree.field_cursor u d).answer.number
number_asked u (metres d) = (desk.metres u d).answer.number
number_asked u (rect d) = (tree.rect u d).answer.number
number_asked u (live d) = (tree.live u d).answer.number
number_asked u (first_child d) = (tree.first_child u d).answer.number
number_asked u (next_sibling d) = (tree.next_sibling u d).answer.number
number_asked u (absorb s) = (desk.absorb u s).answer.number
number_asked u (confirmed_metres d) = (marks.confirmed_metres u d).answer.number
number_asked u (marked_text d) = (marks.marked_text u d).answer.number

unfoldable pub step : Ui → Call → Step
step u (insert d) = telling (tree.insert u d)
step u (change c) = change_step u c
step u (ask q) = record { next = u; number = number_asked u q; told = nobody }

-- A list of calls: the tree after it, the refusal numbers, what the history is told, and the ids of the accepted inserts.
abbrev pub run : Ui → List Call → Ui
run u [] = u
run u (c ∷ cs) = run (step u c).next cs

abbrev pub numbers : Ui → List Call → List ℕ
numbers u [] = []
numbers u (c ∷ cs) = (step u c).number ∷ numbers (step u c).next cs

abbrev pub feed : Ui → List Call → List NodeId
feed u [] = []
feed u (c ∷ cs) = (step u c).told ∷ feed (step u c).next cs

abbrev pub id_given : Call → Step → List NodeId
id_given (insert d) s = cond (same s.number 0) (s.told ∷ []) []
id_given (change c) s = []
id_given (ask q) s = []

abbrev pub given : Ui → List Call → List NodeId
given u [] = []
given u (c ∷ cs) = id_given c (step u c) ++ given (step u c).next cs

-- The arguments are machine values. Numbers may be any at all; what counts is that arrays have their lengths.
abbrev pub MachineChange : Change → Type 0
MachineChange (remove d) = Unit {0}
MachineChange (set_style d s) = Unit {0}
MachineChange (set_state_table d table) = length table ≡ 16
MachineChange (set_patch_pool patches count) = length patches ≡ 64
MachineChange (make_field d) = Unit {0}
MachineChange (solve v) = Unit {0}
MachineChange (handle e) = Unit {0}
MachineChange next_output = Unit {0}
MachineChange (confirm d) = Unit {0}
MachineChange next_ship = Unit {0}

abbrev pub Machine : Call → Type 0
Machine (insert d) = Unit {0}
Machine (change c) = MachineChange c
Machine (ask q) = Unit {0}

abbrev pub Machines : List Call → Type 0
Machines [] = Unit {0}
Machines (c ∷ cs) = Machine c × Machines cs

-- ---- the history over the same list

abbrev pub follow : History → List Call → List NodeId → History
follow h [] fed = h
follow h (c ∷ cs) [] = h
follow h (c ∷ cs) (d ∷ fed) = follow (recorded h c d) cs fed

abbrev pub refusals : History → List Call → List NodeId → List ℕ
refusals h [] fed = []
refusals h (c ∷ cs) [] = []
refusals h (c ∷ cs) (d ∷ fed) = refusal_of h c ∷ refusals (recorded h c d) cs fed

-- ---- the claim

-- The children of a node in order, by the calls for the first child and the next sibling.
abbrev pub siblings : ℕ → Ui → Option NodeId → List NodeId
siblings zero u m = []
siblings (suc k) u None = []
siblings (suc k) u (Some d) = d ∷ siblings k u (tree.next_sibling u d).answer.value

abbrev pub children_by : Ui → NodeId → List NodeId
children_by u d = siblings 128 u (tree.first_child u d).answer.value

-- Of every id at all, what the calls answer is what the history says; and the stored pointer, press and focus are the history's, dead ones or
-- none included.
pub record Agree (u : Ui) (h : History) : Type 0 where
  pub live_is : (d : NodeId) → (tree.live u d).answer ≡ live_said h d
  pub first_child_is : (d : NodeId) → (tree.first_child u d).answer ≡ first_said h d
  pub next_sibling_is : (d : NodeId) → (tree.next_sibling u d).answer ≡ next_said h d
  pub children_are : (d : NodeId) → children_by u d ≡ ids (kids_of d h.tree)
  pub text_is : (d : NodeId) → (tree.field_text u d).answer ≡ text_said h d
  pub caret_is : (d : NodeId) → (tree.field_cursor u d).answer ≡ caret_said h d
  pub metres_are : (d : NodeId) → (desk.metres u d).answer ≡ metres_said h d
  pub confirmed_metres_are : (d : NodeId) → (marks.confirmed_metres u d).answer ≡ confirmed_said h d
  pub marked_text_is : (d : NodeId) → (marks.marked_text u d).answer ≡ marked_said h d
  pub rect_is : (d : NodeId) → (tree.rect u d).answer ≡ rect_said h d
  pub pointer_is : u.interaction.pointer ≡ h.input.pointer
  pub press_is : u.interaction.pressed ≡ id_named h.named h.input.pressed
  pub focus_is : u.interaction.focus ≡ id_named h.named h.input.focus

-- No two ids of a list are the same.
abbrev pub Others : NodeId → List NodeId → Type 0
Others d [] = Unit {0}
Others d (e ∷ es) = (same_id d e ≡ false) × Others d es

abbrev pub Distinct : List NodeId → Type 0
Distinct [] = Unit {0}
Distinct (d ∷ ds) = Others d ds × Distinct ds

-- Of a tree and a history to start from, and a list of calls: each call is refused just as the history says, no id is given twice or was given before,
-- and then all is as the history says.
pub record Holds (u : Ui) (h : History) (cs : List Call) : Type 0 where
  pub refused_alike : numbers u cs ≡ refusals h cs (feed u cs)
  pub ids_differ : Distinct (h.named ++ given u cs)
  pub agree : Agree (run u cs) (follow h cs (feed u cs))

-- The claim from wherever tree and history are related, k calls after they began. It is proved of the relation in proofs/Invariant.antt,
-- so a start needs only to be so related.
abbrev pub HoldsFrom : (ℕ → Ui → History → Type 0) → Type 0
HoldsFrom Related = (k : ℕ) (u : Ui) (h : History) → Related k u h → (cs : List Call) → k + length cs < 2 ^ 63 → Machines cs → Holds u h cs

-- Demand 3: from what either start gives, of any limit, where the root's id is the one that was given before.
abbrev pub Demand3 : Type 0
Demand3 =
    (kind : StartKind) (limit : ℕ) → limit < 2 ^ 32 → (cs : List Call) → length cs < 2 ^ 63 → Machines cs
    → Holds (tree.new_tree kind limit).next (start kind limit) cs
