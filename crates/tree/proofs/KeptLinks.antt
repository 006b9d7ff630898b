-- An insertion and a removal keep a tree that is not broken: its links hold a forest, the calls change the forest, and what holds a forest
-- keeps the link rules. Assumes nothing.
use mathlib.Core.Path.{◌≡◌, refl, sym, ◌∙◌}
use mathlib.Core.Logic.{◌≢◌}
use mathlib.Core.Bool.{true}
use mathlib.Core.List.{List}
use Prim.Native.Nat.{ℕ, ◌-◌}
use native.Mathlib.Omega.{arith}
use lib.ListN.{length, length-set}
use Rattle.field.specs.declared.NodeId.{NodeId}
use Rattle.arena.specs.Forest.{size}
use Rattle.arena.specs.Slots.{NIL, at, is_live, unlink, free_order, freeing}
use Rattle.boxes.specs.Styles.{fresh_layout, fresh_state, fresh_style}
use Rattle.tree.specs.Trees.{limit_of, with_nodes}
use Rattle.tree.specs.Calls.{insert_at, remove_at}
use Rattle.tree.specs.declared.Ui.{Ui}
use Rattle.arithmetic.proofs.TestLaws.{δ-refl}
use Rattle.arena.proofs.Forests.ForestLaws.{cnt, cut}
use Rattle.arena.proofs.Forests.Relations.{below}
use Rattle.arena.proofs.Forests.LinkInserts.{insert_rel, insert_size}
use Rattle.arena.proofs.Forests.Ids.{live_id, live_just_where_a_node_has_it, free_cases}
use Rattle.arena.proofs.Checks.RuleLaws.{links_are_well}
use Rattle.arena.proofs.Checks.LinkedForests.{HoldsForest}
use Rattle.tree.proofs.StateLaws.{a_stored_state_keeps_of_each}
use Rattle.tree.proofs.WellLaws.{WellIn, a_bare_slot_is_well}
use Rattle.tree.proofs.RemoveParts.{reset_states_are_as_many, reset_states_keep_of_each}
use Rattle.tree.proofs.WholeTrees.{held, removed_from_the_forest}
use Rattle.tree.proofs.KeptTrees.{Tabled, Kept, a_kept_tree_is_not_broken}

module _ {u : Ui} (k : Kept u) where
  pub the_forest_that_the_links_hold : HoldsForest (limit_of u) u.slots u.free u.live
  the_forest_that_the_links_hold = held u k.links.long (a_kept_tree_is_not_broken k)

  -- a live id is that of one node
  pub one_node_has_a_live_id : (d : NodeId) → is_live (limit_of u) u.slots d ≡ true → cnt d.index the_forest_that_the_links_hold.forest ≡ 1
  one_node_has_a_live_id d live =
      let H = the_forest_that_the_links_hold in
      (live_id H.rel d (sym (live_just_where_a_node_has_it H.rel d) ∙ live)).0

  pub an_insertion_keeps_the_tree : (d : NodeId) → is_live (limit_of u) u.slots d ≡ true → u.free ≢ NIL → Kept (insert_at u d.index)
  unfolding insert_at with_nodes
  an_insertion_keeps_the_tree d live f =
      let H = the_forest_that_the_links_hold in
      let c = one_node_has_a_live_id d live in
      let i : ℕ = u.free in
      let m = k.links.small in
      let ls = k.looks.sized.1 in
      let ll = k.looks.sized.0 in
      free_cases (limit_of u) u.slots u.free H.forest H.chained H.rel (λ e _ _. absurd (f e)) (λ rest _ r _ _.
      let di = δ-refl i in
      let b = below r i (omega arith) in
      let R = insert_rel (limit_of u) u.slots u.free H.forest i rest d.index tt r c in
      let z = insert_size d.index i (at u.slots i).generation tt H.forest c in
      let n = H.count in
      record {
        stated = k.stated;
        pool = k.pool;
        queue = k.queue;
        fields = k.fields;
        links = record { some = k.links.some; small = k.links.small; long = R.len; well = links_are_well (limit_of u) _ _ _ _ rest R (omega arith) };
        looks = record {
          sized = (length-set u.layout i fresh_layout ∙ ll, length-set u.states i fresh_state ∙ ls);
          tables = a_stored_state_keeps_of_each Tabled 128 u.states i fresh_state (omega arith) refl k.looks.tables;
          well = a_stored_state_keeps_of_each (WellIn u.patch_count) (limit_of u) u.states i fresh_state (omega arith) (a_bare_slot_is_well u.patch_count fresh_style) k.looks.well;
        };
      })

  pub a_removal_keeps_the_tree : (d : NodeId) → is_live (limit_of u) u.slots d ≡ true → d.index ≢ 0 → Kept (remove_at u d.index)
  unfolding remove_at with_nodes freeing
  a_removal_keeps_the_tree d live nz =
      let H = held u k.links.long (a_kept_tree_is_not_broken k) in
      let R = removed_from_the_forest u k.links.long (a_kept_tree_is_not_broken k) d live nz in
      let o : List ℕ = free_order 128 (unlink u.slots d.index) d.index in
      let z = R.sizes in
      let m = k.links.small in
      let n = H.count in
      let ls = k.looks.sized.1 in
      let c : u.live - length o ≡ size (cut d.index H.forest) = omega arith in
      record {
        stated = k.stated;
        pool = k.pool;
        queue = k.queue;
        fields = k.fields;
        links = record { some = k.links.some; small = k.links.small; long = R.rel.len; well = links_are_well (limit_of u) _ _ _ _ _ R.rel c };
        looks = record {
          sized = (k.looks.sized.0, reset_states_are_as_many u.states o ∙ ls);
          tables = reset_states_keep_of_each Tabled 128 u.states o (omega arith) refl k.looks.tables;
          well = reset_states_keep_of_each (WellIn u.patch_count) (limit_of u) u.states o (omega arith) (a_bare_slot_is_well u.patch_count fresh_style) k.looks.well;
        };
      }
