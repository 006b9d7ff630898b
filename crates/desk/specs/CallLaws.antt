-- What holds of every tree whatsoever and of every call, without a history. Proved in proofs/CallLaws.antt, NotBrokenStays.antt, NewTrees.antt
-- and PassBoxes.antt.
use Rattle.std.specs.Prelude.{ℕ, ◌≡◌, Bool, true, false, ◌||◌, not, List, map, length, Option}
use Rattle.field.specs.declared.NodeId.{NodeId}
use Rattle.field.specs.declared.Field.{Field}
use Rattle.arithmetic.specs.Tests.{same, all}
use Rattle.tree.specs.Broken.{broken}
use Rattle.tree.specs.Trees.{with_styles, with_interaction}
use Rattle.tree.specs.Layout.{same_view}
use Rattle.tree.specs.Calls as tree
use Rattle.tree.specs.Types.{Style, StateSlot, LayoutSlot, Viewport, StartKind, Pixel}
use Rattle.tree.specs.Pointers.{first_pointer}
use Rattle.boxes.specs.declared.StartKind.TheVariants.{New, AtOrigin}
use Rattle.tree.specs.declared.Ui.{Ui}
use Rattle.tree.specs.History.{Call}
use Rattle.desk.specs.Events.{pointed_at}
use Rattle.desk.specs.Demand3.{step, run, Machines}

-- The tree with its pointer elsewhere.
abbrev pub placed_at : Ui → Option Pixel → Ui
placed_at u pointer = with_interaction u (pointed_at u.interaction pointer)

-- A refused call gives back the tree that it got.
abbrev pub ARefusedCallChangesNothing : Type 0
ARefusedCallChangesNothing = (u : Ui) (c : Call) → ((step u c).number ≡ 0 → ⊥) → (step u c).next ≡ u

-- A broken tree is refused by 1, and given back.
abbrev pub ABrokenTreeIsRefused : Type 0
ABrokenTreeIsRefused = (u : Ui) (c : Call) → broken u ≡ true → ((step u c).number ≡ 1) × ((step u c).next ≡ u)

-- No other tree is refused by 1.
abbrev pub OnlyABrokenTreeIsRefusedBy1 : Type 0
OnlyABrokenTreeIsRefusedBy1 = (u : Ui) (c : Call) → (step u c).number ≡ 1 → broken u ≡ true

-- A tree that a machine can hold: its arrays have their lengths. Numbers, links, ids and styles may be any at all.
pub record MachineTree (u : Ui) : Type 0 where
  pub slots : length u.slots ≡ 128
  pub layout : length u.layout ≡ 128
  pub states : length u.states ≡ 128
  pub tables : all (λ (s : StateSlot). same (length s.table) 16) u.states ≡ true
  pub patches : length u.patches ≡ 64
  pub stated : length u.stated ≡ 3
  pub outputs : length u.outputs ≡ 128
  pub fields : length u.fields ≡ 8
  pub bytes : all (λ (f : Field). same (length f.bytes) 64) u.fields ≡ true

-- After any calls on a tree that is not broken the tree is not broken.
abbrev pub NotBrokenStays : Type 0
NotBrokenStays = (u : Ui) (cs : List Call) → MachineTree u → broken u ≡ false → Machines cs → MachineTree (run u cs) × (broken (run u cs) ≡ false)

-- The new tree of either start and every limit is such a tree: no calls from it, however many, ever break it.
abbrev pub TheNewTreeIsNotBroken : Type 0
TheNewTreeIsNotBroken = (kind : StartKind) (limit : ℕ) → MachineTree (tree.new_tree kind limit).next × (broken (tree.new_tree kind limit).next ≡ false)

-- The two starts are refused alike, and the trees that they give share all but the pointer.
abbrev pub TheStartsShareAllButThePointer : Type 0
TheStartsShareAllButThePointer =
    (limit : ℕ)
    → ((tree.new_tree AtOrigin limit).answer ≡ (tree.new_tree New limit).answer)
    × ((tree.new_tree AtOrigin limit).next ≡ placed_at (tree.new_tree New limit).next (first_pointer AtOrigin))

-- A pass is made: nodes, links or looks changed since the last one, or the viewport did.
abbrev pub pass_due : Ui → Viewport → Bool
pass_due u v = u.dirty || not (same_view u.solved_for v)

-- The tree with other layout slots, and what styles they have.
abbrev pub with_layout : Ui → List LayoutSlot → Ui
with_layout u l = with_styles u l u.states u.dirty

abbrev pub styles_of : List LayoutSlot → List Style
styles_of l = map (λ (x : LayoutSlot). x.style) l

-- A pass uses no earlier box. Whatever boxes and wanted sizes stand in the layout slots before it, if only the styles are the same, the answer
-- for every id's box after it is the same.
abbrev pub APassUsesNoEarlierBox : Type 0
APassUsesNoEarlierBox =
    (u : Ui) (v : Viewport) → MachineTree u → broken u ≡ false → pass_due u v ≡ true
    → (l : List LayoutSlot) → styles_of l ≡ styles_of u.layout
    → (d : NodeId) → (tree.rect (tree.solve (with_layout u l) v).next d).answer ≡ (tree.rect (tree.solve u v).next d).answer
