-- A pass uses no earlier box: of a tree that is not broken the links hold a forest, and a pass lays that out by the styles alone. Assumes nothing.
use mathlib.Core.Path.{◌≡◌, refl, sym, ap, ◌∙◌}
use mathlib.Core.Bool.{Bool, true, false, ◌&&◌, ◌||◌, not, cond}
use mathlib.Core.List.{List}
use native.Mathlib.Omega.{arith}
use lib.ListN.{length, length-map}
use Rattle.text.specs.Refusal.{Answer, accepted, refused}
use Rattle.text.specs.declared.refusal.Refusal.TheVariants.{Missing}
use Rattle.field.specs.declared.NodeId.{NodeId}
use Rattle.arithmetic.proofs.TestLaws.{bool_cases}
use Rattle.tree.specs.Slots.{is_live}
use Rattle.tree.specs.Styles.{no_rect, layout_at}
use Rattle.tree.specs.Layout.{passed, same_view}
use Rattle.tree.specs.Trees.{limit_of, with_styles, with_pass}
use Rattle.tree.specs.Broken.{broken, links_well}
use Rattle.tree.specs.Calls as tree
use Rattle.tree.specs.Calls.{guarded, on_live}
use Rattle.tree.specs.Types.{Rect, LayoutSlot, Viewport}
use Rattle.tree.specs.declared.Ui.{Ui}
use Rattle.tree.proofs.PassBoxes.{equal_styles_slot_by_slot, the_boxes_after_a_pass_are_by_the_styles}
use Rattle.tree.proofs.KeptLinks.{the_forest_that_the_links_hold, one_node_has_a_live_id}
use Rattle.desk.specs.CallLaws.{pass_due, with_layout, APassUsesNoEarlierBox}
use Rattle.desk.proofs.NotBrokenStays.{kept_if_not_broken}

not_made_twice : (dirty same : Bool) → (dirty || not same) ≡ true → (not dirty && same) ≡ false
not_made_twice true same e = refl
not_made_twice false true e = sym e
not_made_twice false false e = refl

-- the rules read no layout slot
no_rule_reads_a_box : (u : Ui) (l : List LayoutSlot) → broken (with_layout u l) ≡ broken u
unfolding broken links_well with_styles
no_rule_reads_a_box u l = refl

no_rule_reads_a_pass : (u : Ui) (l : List LayoutSlot) (v : Viewport) → broken (with_pass u l v) ≡ broken u
unfolding broken links_well with_pass
no_rule_reads_a_pass u l v = refl

module _ (u : Ui) (v : Viewport) (b : broken u ≡ false) (due : pass_due u v ≡ true) where
  the_tree_after : (tree.solve u v).next ≡ with_pass u (passed u.slots u.layout v) v
  unfolding tree.solve guarded
  the_tree_after = rw (b, not_made_twice u.dirty (same_view u.solved_for v) due)

  -- the answer for a box after it
  abbrev box_after : NodeId → Answer Rect
  box_after d = cond (is_live (limit_of u) u.slots d) (accepted (layout_at (passed u.slots u.layout v) d.index).rect) (refused Missing no_rect)

  the_box_then : (d : NodeId) → (tree.rect (with_pass u (passed u.slots u.layout v) v) d).answer ≡ box_after d
  unfolding tree.rect on_live guarded with_pass
  the_box_then d = rw (no_rule_reads_a_pass u (passed u.slots u.layout v) v ∙ b) (bool_cases (is_live (limit_of u) u.slots d) (λ e. rw e) (λ e. rw e))

  the_box_after : (d : NodeId) → (tree.rect (tree.solve u v).next d).answer ≡ box_after d
  the_box_after d = ap (λ (w : Ui). (tree.rect w d).answer) the_tree_after ∙ the_box_then d

pub a_pass_uses_no_earlier_box : APassUsesNoEarlierBox
unfolding with_styles
a_pass_uses_no_earlier_box u v m b due l e d =
    let k = kept_if_not_broken u m b in
    let len = m.layout in
    let len' : length l ≡ length u.layout = sym (length-map l (λ (x : LayoutSlot). x.style)) ∙ ap length e ∙ length-map u.layout (λ (x : LayoutSlot). x.style) in
    the_box_after (with_layout u l) v (no_rule_reads_a_box u l ∙ b) due d
    ∙ bool_cases (is_live (limit_of u) u.slots d)
    (λ live.
    let c = one_node_has_a_live_id k d live in
    rw live (ap (λ (r : Rect). accepted r)
    (the_boxes_after_a_pass_are_by_the_styles (the_forest_that_the_links_hold k).rel u.layout l len (len' ∙ len) (equal_styles_slot_by_slot u.layout l e) v d.index (omega arith))))
    (λ dead. rw dead)
    ∙ sym (the_box_after u v b due d)
