-- Every tree that is not broken is a tree: its slots hold a forest, so that what is known of forests is known of it. Assumes nothing.
use mathlib.Core.Path.{◌≡◌, sym, ap, ◌∙◌, subst}
use mathlib.Core.Logic.{◌≢◌}
use mathlib.Core.Bool.{true, false}
use mathlib.Core.List.{List}
use Prim.Native.Nat.{ℕ, ◌+◌}
use native.Mathlib.Omega.{arith}
use lib.ListN.{length}
use Rattle.field.specs.declared.NodeId.{NodeId}
use Rattle.arithmetic.specs.Tests.{occ}
use Rattle.arena.specs.Forest.{Forest, size, has_id, cut_of}
use Rattle.arena.specs.Slots.{is_live, unlink, free_order, freeing}
use Rattle.arena.specs.Spelled.{cnt}
use Rattle.arena.specs.Support.Lists.{walked}
use Rattle.tree.specs.Trees.{limit_of, with_nodes}
use Rattle.tree.specs.Broken.{broken}
use Rattle.tree.specs.Calls.{remove_at}
use Rattle.tree.specs.WholeTrees.{Spells, NotBrokenMeansATree}
use Rattle.tree.specs.declared.Ui.{Ui}
use Rattle.arena.proofs.Forests.ForestLaws.{cut}
use Rattle.arena.proofs.Forests.Relations.{Rel}
use Rattle.arena.proofs.Forests.FreeOrders.{pushed}
use Rattle.arena.proofs.Forests.LinkRemovals.{Removed, remove_rel}
use Rattle.arena.proofs.Forests.Ids.{live_just_where_a_node_has_it, live_id, cut_of_a_live_id}
use Rattle.arena.proofs.Checks.RuleLaws.{free_chain_of_the_tree, aliveness_of_a_slot}
use Rattle.arena.proofs.Checks.LinkedForests.{HoldsForest, linked_slots_hold_a_forest}
use Rattle.boxes.proofs.Hits.HitEnds.{a_hit_test_goes_all_the_way_down}
use Rattle.tree.proofs.Prechecks.{few_slots, well_linked}

-- slots that hold a forest spell it
pub held_is_spelled : (u : Ui) (t : Forest (Unit {0})) (fl : List ℕ) → Rel (limit_of u) u.slots u.free t fl → u.live ≡ size t → Spells u t
held_is_spelled u t fl r e = record {
  links = r.links;
  root = r.root;
  slots_once = λ j h. sym (aliveness_of_a_slot r j h);
  no_others = λ j h. let q = r.inside j h in omega arith;
  few = (let q = r.total in omega arith, r.small);
  count = e;
  free_once = λ j h. ap (λ (l : List ℕ). cnt j t + occ j l) (free_chain_of_the_tree r) ∙ r.cover j h;
}

module _ (u : Ui) (long : length u.slots ≡ 128) (b : broken u ≡ false) where
  pub held : HoldsForest (limit_of u) u.slots u.free u.live
  held = linked_slots_hold_a_forest (limit_of u) u.slots u.free u.live long (few_slots u b) (well_linked u b)

  module _ (d : NodeId) (l : is_live (limit_of u) u.slots d ≡ true) (nz : d.index ≢ 0) where
    there : has_id d held.forest ≡ true
    there = sym (live_just_where_a_node_has_it held.rel d) ∙ l

    pub removed_from_the_forest : Removed (limit_of u) u.slots u.free held.forest held.chained d.index
    removed_from_the_forest =
        remove_rel (limit_of u) u.slots u.free held.forest held.chained d.index held.rel (live_id held.rel d there).0 nz

    -- the code's list of 128 is long enough
    pub the_walk_lists_the_subtree : walked (unlink u.slots d.index) d.index ≡ freeing (unlink u.slots d.index) d.index
    unfolding freeing
    the_walk_lists_the_subtree = removed_from_the_forest.part_walked

    by_index : cut_of d held.forest ≡ cut d.index held.forest
    by_index = cut_of_a_live_id held.rel d there

    frees : (j : ℕ) → occ j (freeing (unlink u.slots d.index) d.index) + cnt j (cut_of d held.forest) ≡ cnt j held.forest
    unfolding freeing
    frees j = let q = removed_from_the_forest.order_counts j in let e = ap (cnt j) by_index in omega arith

    leaves : Spells (remove_at u d.index) (cut_of d held.forest)
    unfolding remove_at with_nodes freeing
    leaves =
        let R = removed_from_the_forest in
        let z = R.sizes in
        let n = held.count in
        let o : List ℕ = free_order 128 (unlink u.slots d.index) d.index in
        subst (Spells (remove_at u d.index)) (sym by_index)
        (held_is_spelled (remove_at u d.index) (cut d.index held.forest) (pushed o held.chained) R.rel (omega arith))

pub not_broken_means_a_tree : NotBrokenMeansATree
not_broken_means_a_tree u long b = record {
  forest = (held u long b).forest;
  spells = held_is_spelled u (held u long b).forest (held u long b).chained (held u long b).rel (held u long b).count;
  frees_the_subtree = frees u long b;
  leaves_the_rest = leaves u long b;
  goes_all_the_way_down = a_hit_test_goes_all_the_way_down (held u long b).rel u.layout;
}
