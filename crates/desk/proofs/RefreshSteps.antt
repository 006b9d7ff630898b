-- A refresh of the tree is the history's: the node under the pointer is the same, so every node's bits are. Assumes nothing.
use Rattle.std.specs.Prelude.{Option, None}
use mathlib.Core.Path.{refl, ap₂, subst, ◌∙◌}
use mathlib.Core.Bool.{Bool, ◌||◌}
use mathlib.Core.List.{List}
use Prim.Native.Nat.{ℕ}
use Rattle.tree.specs.Wearing.{refreshed}
use Rattle.tree.specs.Forest.{map_f, any_f}
use Rattle.tree.specs.Nodes.{Info, wears, swaps, hit_f}
use Rattle.tree.specs.Pointers.{under_pointer}
use Rattle.tree.specs.Input.{hit_under}
use Rattle.tree.specs.Trees.{with_styles, with_stated}
use Rattle.tree.specs.declared.Ui.{Ui}
use Rattle.tree.specs.Types.{StatePatch, Pixel}
use Rattle.tree.proofs.HitLaws.{Names, the_pointer_names_the_forests_node}
use Rattle.tree.proofs.Relation.{Styled}
use Rattle.tree.proofs.StylingParts.{refresh_keeps_styling, refresh_dirties}
use Rattle.desk.specs.Events.{hit_of}
use Rattle.tree.specs.History.{History, hit_name, bits_in, refresh}
use Rattle.desk.proofs.Invariant.{NamedBy, Inv, styling_under, same_nodes_each, with_styling_lem}
use Rattle.desk.proofs.NameLaws.{hit_is_named, bits_by_names, no_bits_of_dead_slots}

module _ {k : ℕ} {u : Ui} {h : History} (v : Inv k u h) where
  -- the node under the pointer
  pub hits_agree : NamedBy h.named (hit_of u) (hit_name h)
  unfolding hit_of
  hits_agree =
      hit_is_named u.slots h.tree h.named v.nodes.naming (hit_of u) (hit_name h)
      (subst (λ (p : Option Pixel). Names h.tree (hit_under u u.interaction.pointer) (under_pointer None (λ pixel. hit_f pixel None h.tree) p)) v.input.pointer_is
      (the_pointer_names_the_forests_node u.slots u.layout u.interaction.pointer v.nodes.links.rel v.styling.styled.boxed))

  pub refresh_agrees : Inv k (refreshed u (hit_of u)) (refresh h)
  unfolding refresh refreshed with_stated with_styles wears
  refresh_agrees =
      let t = h.tree in
      let n = v.nodes in
      let s = v.styling in
      let bits : ℕ → ℕ → Info → ℕ = λ i g x. bits_in h x in
      let agree = bits_by_names k u t h.named n.links n.naming (hit_of u) (hit_name h) h.input.pressed h.input.focus hits_agree v.input.pressed v.input.focus in
      let none = no_bits_of_dead_slots k u t h.named n.links n.naming (hit_of u) (hit_name h) h.input.pressed h.input.focus hits_agree v.input.pressed v.input.focus in
      with_styling_lem v refl (same_nodes_each (λ i g x. wears h.styling.pool (bits i g x) x) (λ i g x. (refl, refl)) t)
      (styling_under refl s
      (subst (λ (q : List StatePatch). Styled (refreshed u (hit_of u)) (map_f (λ i g x. wears q (bits i g x) x) t)) s.pool_is (refresh_keeps_styling k u t n.links s.styled (hit_of u) bits agree none))
      (refresh_dirties k u t n.links s.styled (hit_of u) bits agree none
      ∙ ap₂ (λ (b : Bool) (q : List StatePatch). b || any_f (λ i g x. swaps q (bits i g x) x) t) s.dirty_is s.pool_is))
