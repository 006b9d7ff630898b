-- Calls on a tree that keeps the rules: below the limit an insertion is accepted, and a pass that is due is made. Assumes nothing.
use Prim.Native.Nat.{ℕ, ◌<◌}
use mathlib.Core.Path.{◌≡◌}
use mathlib.Core.Bool.{true, false, ◌&&◌, not}
use Rattle.field.specs.declared.NodeId.{NodeId}
use Rattle.arena.specs.Forest.{Forest, has_id, size}
use Rattle.boxes.specs.Nodes.{Info}
use Rattle.arena.specs.Slots.{NIL, id_at}
use Rattle.boxes.specs.Layout.{passed, same_view}
use Rattle.tree.specs.Trees.{limit_of, with_pass}
use Rattle.tree.specs.Broken.{broken}
use Rattle.tree.specs.Calls.{gives, guarded, on_live, insert_at, insert, solve}
use Rattle.tree.specs.declared.Ui.{Ui}
use Rattle.boxes.specs.declared.Viewport.{Viewport}
use Rattle.arithmetic.proofs.TestLaws.{same_no}
use Rattle.arena.proofs.Forests.Ids.{live_just_where_a_node_has_it}
use Rattle.tree.proofs.Relation.{Links}
use Rattle.tree.proofs.InsertParts.{a_slot_is_free_below_the_limit}

module _ {k : ℕ} {u : Ui} {t : Forest Info} (L : Links k u t) (b : broken u ≡ false) where
  pub an_insertion_below_the_limit_is_accepted : (d : NodeId) → has_id d t ≡ true → size t < limit_of u → insert u d ≡ gives (insert_at u d.index) (id_at u.slots u.free)
  unfolding insert on_live guarded
  an_insertion_below_the_limit_is_accepted d h n = rw (b, live_just_where_a_node_has_it L.rel d, h, same_no u.free NIL (a_slot_is_free_below_the_limit L n))

  pub a_pass_that_is_due_is_made : (v : Viewport) → (not u.dirty && same_view u.solved_for v) ≡ false → solve u v ≡ gives (with_pass u (passed u.slots u.layout v) v) 0
  unfolding solve guarded
  a_pass_that_is_due_is_made v q = rw (b, q)
