-- The walk by previous links lists the whole tree of a node that has at most 127 below it. Assumes nothing.
use Rattle.std.proofs.Common.{◌≡◌, ℕ, ◌≤◌, take, ap, ◌∙◌, arith, take_all}
use Rattle.arena.specs.Forest.{Forest, nil, node, size}
use Rattle.arena.specs.Slots.{NIL, Slots, at}
use Rattle.arena.specs.Support.Lists.{walked}
use Rattle.arena.proofs.Forests.ForestLaws.{first_or, last_or}
use Rattle.arena.proofs.Forests.Segments.{SegR}
use Rattle.arena.proofs.Forests.Orders.{InRange}
use Rattle.arena.proofs.Forests.FreeOrders.{last_first, length_last_first, free_order_of_a_tree, the_walk_back_lists_the_order}

module _ {X : Type 0} where
  pub a_walk_lists_a_tree : (a : Slots) (i g : ℕ) (x : X) (cs : Forest X) → (at a i).first_child ≡ first_or NIL cs → (at a i).last_child ≡ last_or NIL cs → SegR a i NIL cs NIL → InRange cs → size cs ≤ 127
      → walked a i ≡ last_first (node i g x cs nil)
  unfolding walked
  a_walk_lists_a_tree a i g x cs e l r z h =
      let o = length_last_first cs in
      ap (take 128) (the_walk_back_lists_the_order 127 a i cs e l r z (omega arith) ∙ free_order_of_a_tree 127 a i cs e r z (omega arith) (omega arith))
      ∙ take_all 128 (last_first (node i g x cs nil)) (omega arith)
