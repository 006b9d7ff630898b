-- What holds between the tree and the nodes of the history after every call, in parts: links, names, looks, fields, queue. Assumes nothing.
use Rattle.std.specs.Prelude.{None, Option, Some}
use mathlib.Core.Path.{◌≡◌}
use mathlib.Core.Bool.{true}
use mathlib.Core.List.{List, [], ◌∷◌}
use Prim.Native.Nat.{ℕ, suc, ◌+◌, ◌≤◌, ◌<◌}
use lib.ListN.{length, get_or}
use Rattle.field.specs.Marks.{Marked}
use Rattle.field.specs.Fields.{field_ok, marked_of}
use Rattle.field.specs.declared.NodeId.{NodeId}
use Rattle.field.specs.declared.Field.{Field}
use Rattle.arithmetic.specs.Tests.{occ}
use Rattle.arena.specs.Slots.{Slots, at, nobody}
use Rattle.boxes.specs.Styles.{fresh_state, state_at}
use Rattle.tree.specs.Wearing.{appearance_of}
use Rattle.arena.specs.Forest.{Forest, size}
use Rattle.boxes.specs.Nodes.{Info}
use Rattle.arena.specs.Fields.{field_of}
use Rattle.arena.specs.Rules.{distinct, owners_well}
use Rattle.tree.specs.Trees.{limit_of, stated_of}
use Rattle.tree.specs.declared.Ui.{Ui}
use Rattle.arena.proofs.Forests.ForestLaws.{cnt}
use Rattle.arena.proofs.Forests.Relations.{Rel}
use Rattle.arena.proofs.Forests.Payloads.{AllF}
use Rattle.boxes.proofs.Styles.Rounds.{Worn, Sized}
use Rattle.boxes.proofs.Styles.WearLaws.{TablesWorn}
use Rattle.boxes.proofs.Layouts.PassLaws.{Boxed}
use Rattle.tree.proofs.WellLaws.{StatesWell}

-- an id that was given: its generation lies below the next one that its slot will give
abbrev pub Below : Slots → Forest Info → NodeId → Type 0
Below s t d = d.generation < (at s d.index).generation + cnt d.index t

abbrev pub BelowMaybe : Slots → Forest Info → Option NodeId → Type 0
BelowMaybe s t None = Unit {0}
BelowMaybe s t (Some d) = Below s t d

-- the links; no generation is larger than the calls allow
pub record Links (k : ℕ) (u : Ui) (t : Forest Info) : Type 0 where
  pub chain : List ℕ
  pub rel : Rel (limit_of u) u.slots u.free t chain
  pub count : u.live ≡ size t
  pub young : (j : ℕ) → (at u.slots j).generation ≤ suc k

-- every node has the id at the place of its name, every id given lies below its slot's next, and no two are equal
pub record Naming (s : Slots) (t : Forest Info) (named : List NodeId) : Type 0 where
  pub own : AllF (λ i g x. (x.name < length named) × (get_or named x.name nobody ≡ record { index = i; generation = g })) t
  pub old : (m : ℕ) → m < length named → Below s t (get_or named m nobody)
  pub apart : (m m' : ℕ) → m < length named → m' < length named → get_or named m nobody ≡ get_or named m' nobody → m ≡ m'

-- styles, states, boxes and stated slots
pub record Styled (u : Ui) (t : Forest Info) : Type 0 where
  pub sized : Sized (appearance_of u)
  pub worn : AllF (λ i g x. Worn u.layout u.states i x) t
  pub tables : TablesWorn t
  pub boxed : Boxed u.layout t
  pub with_bits : AllF (λ i g x. 0 < x.bits → 0 < occ i (stated_of u)) t
  pub dead : (j : ℕ) → j < 128 → cnt j t ≡ 0 → state_at u.states j ≡ fresh_state
  pub stated_long : length u.stated ≡ 3
  pub stated_few : u.stated_count ≤ 3
  pub stated_once : distinct (limit_of u) (stated_of u) ≡ true
  pub well : StatesWell u.patch_count (limit_of u) u.states

-- the pool: an array of 64, and a count within it
pub record Pool (u : Ui) : Type 0 where
  pub long : length u.patches ≡ 64
  pub few : u.patch_count ≤ 64

-- fields: eight, each by its rules and of an owner that was given; of a node the text is its field's
abbrev pub Ruled : Slots → Forest Info → Field → Type 0
Ruled s t f = (field_ok f ≡ true) × (length f.bytes ≡ 64) × BelowMaybe s t f.owner

abbrev pub AllFields : (Field → Type 0) → List Field → Type 0
AllFields P [] = Unit {0}
AllFields P (f ∷ fs) = P f × AllFields P fs

pub what_follows_of_each : {P Q : Field → Type 0} → ((f : Field) → P f → Q f) → (fs : List Field) → AllFields P fs → AllFields Q fs
what_follows_of_each h [] q = tt
what_follows_of_each h (f ∷ fs) q = (h f q.0, what_follows_of_each h fs q.1)

abbrev pub marked_in : Option Field → Option Marked
marked_in None = None
marked_in (Some f) = Some (marked_of f)

pub record Texts (s : Slots) (fields : List Field) (t : Forest Info) : Type 0 where
  pub eight : length fields ≡ 8
  pub ruled : AllFields (Ruled s t) fields
  pub owners : owners_well fields ≡ true
  pub texts : AllF (λ i g x. x.marked ≡ marked_in (field_of (record { index = i; generation = g }) fields)) t

-- outputs: an array of 128, and a count within the limit
pub record Queue (u : Ui) : Type 0 where
  pub long : length u.outputs ≡ 128
  pub few : u.output_count ≤ limit_of u
