-- Not broken means a tree: what holds of every tree that keeps the link rules, wherever it comes from. Its links spell a forest with the
-- root on top, a removal frees a node's whole subtree, and a hit test goes all the way down.
use Rattle.std.specs.Prelude.{ℕ, ◌+◌, ◌≤◌, ◌<◌, ◌≡◌, ◌≢◌, true, false, length, Some}
use Rattle.field.specs.declared.NodeId.{NodeId}
use Rattle.arithmetic.specs.Tests.{δ, occ}
use Rattle.arena.specs.Slots.{NIL, at, is_live, chain, kids_at, unlink, freeing}
use Rattle.arena.specs.Rules.{aliveness}
use Rattle.boxes.specs.Hit.{holds_at}
use Rattle.arena.specs.Forest.{Forest, size, cut_of}
use Rattle.arena.specs.Spelled.{cnt, top, SegR}
use Rattle.tree.specs.Trees.{limit_of}
use Rattle.tree.specs.Broken.{broken}
use Rattle.tree.specs.Input.{hit_test}
use Rattle.tree.specs.Calls.{remove_at}
use Rattle.boxes.specs.declared.Pixel.{Pixel}
use Rattle.tree.specs.declared.Ui.{Ui}

-- The tree is the forest, of whose nodes nothing but the ids is said.
pub record Spells (u : Ui) (t : Forest (Unit {0})) : Type 0 where
  -- each node's slot is live and has its generation and links
  pub links : SegR u.slots NIL NIL t NIL
  -- the root is the only topmost node
  pub root : (j : ℕ) → top j t ≡ δ 0 j
  -- a slot below the limit has one node where it is live and else none; no other slot has one
  pub slots_once : (j : ℕ) → j < limit_of u → cnt j t ≡ aliveness (at u.slots j)
  pub no_others : (j : ℕ) → limit_of u ≤ j → cnt j t ≡ 0
  -- at most 128 nodes, as many as the live count says
  pub few : (size t ≤ limit_of u) × (limit_of u ≤ 128)
  pub count : u.live ≡ size t
  -- the free chain has each slot below the limit that has no node, once
  pub free_once : (j : ℕ) → j < limit_of u → cnt j t + occ j (chain 128 u.slots u.free) ≡ 1

pub record WholeTree (u : Ui) : Type 0 where
  pub forest : Forest (Unit {0})
  pub spells : Spells u forest
  -- a live node other than the root is removed: the slots freed are those of the nodes that leave, each once, and the rest stays
  pub frees_the_subtree : (d : NodeId) → is_live (limit_of u) u.slots d ≡ true → d.index ≢ 0
      → (j : ℕ) → occ j (freeing (unlink u.slots d.index) d.index) + cnt j (cut_of d forest) ≡ cnt j forest
  pub leaves_the_rest : (d : NodeId) → is_live (limit_of u) u.slots d ≡ true → d.index ≢ 0 → Spells (remove_at u d.index) (cut_of d forest)
  -- the node that a hit test names holds the pixel, and none of its children does
  pub goes_all_the_way_down : (pixel : Pixel) (d : NodeId) → hit_test u pixel ≡ Some d
      → (holds_at u.layout pixel d.index ≡ true) × ((c : ℕ) → 0 < occ c (kids_at u.slots d.index) → holds_at u.layout pixel c ≡ false)

-- Of every `Ui`: its array has 128 slots.
abbrev pub NotBrokenMeansATree : Type 0
NotBrokenMeansATree = (u : Ui) → length u.slots ≡ 128 → broken u ≡ false → WholeTree u
