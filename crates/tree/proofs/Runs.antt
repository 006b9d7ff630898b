-- Short runs by the definitions, with the source's answers: a slot that is reused has not the last node's field, and a node that comes
-- after a pass makes another due. Assumes nothing.
use Prim.Native.Nat.{ℕ}
use mathlib.Core.Path.{◌≡◌, refl}
use lib.IntN.{pos}
use Rattle.field.specs.declared.NodeId.{NodeId}
use Rattle.boxes.specs.declared.Viewport.{Viewport}
use Rattle.boxes.specs.declared.StartKind.TheVariants.{New}
use Rattle.arithmetic.specs.Scalar.{stop, add_sat, sub_sat, gap_times, max_of, unsigned_of}
use Rattle.arithmetic.specs.Tests.{within, same, δ}
use Rattle.text.specs.Utf8.{is_scalar, all_scalars, encoded, encoded_all, encoded_as}
use Rattle.text.specs.Reader.{lead_of, step_of, run_from, is_utf8, scalars_from, scalars}
use Rattle.text.specs.Steps.{back_of, front, step_back, step_forward}
use Rattle.field.specs.Fields.{empty_field, in_range, text_ok, mark_ok, field_ok, moved, cut_out, put_in, step_back_of, step_forward_of, edited_in, edited, inserted, edit_answer, insert_answer, shown_of, text_of, with_text}
use Rattle.tree.specs.Trees.{with_nodes, with_styles, with_pool, with_stated, with_fields, with_pass, with_interaction, with_waiting}
use Rattle.arena.specs.Slots.{at, put, change, is_live, chain, kids_at, order, link_after, link_last, unlink_from, unlink, free_order, freeing, next_generation, freed, new_slot, new_slots}
use Rattle.boxes.specs.Styles.{layout_at, state_at}
use Rattle.boxes.specs.States.{entry_of, patch_style, touches, in_pool, wear, bits_of, wear_all, bearing, bared, bare_all, reset_states, state_well}
use Rattle.tree.specs.Wearing.{bits_at, refreshed, styled_at, tabled_at}
use Rattle.arena.specs.Fields.{field_of, reclaimed, claimed}
use Rattle.arena.specs.Rules.{kids_well, node_well, free_well, each_once, linked, distinct, owners_well}
use Rattle.tree.specs.Broken.{links_well, broken}
use Rattle.tree.specs.Calls.{guarded, on_live, fresh, new_tree, insert_at, insert, remove_at, remove, set_style, set_state_table, pooled, set_patch_pool, make_field, on_field, field_text, field_cursor, solve, rect, live, first_child, next_sibling}

-- The definitions that a run computes with: to unfold this one is to unfold them all.
computing : Unit {0}
unfolding stop add_sat sub_sat gap_times max_of unsigned_of within is_scalar all_scalars encoded encoded_all encoded_as lead_of step_of run_from is_utf8 scalars_from scalars back_of front step_back step_forward empty_field in_range text_ok mark_ok field_ok moved cut_out put_in step_back_of step_forward_of edited_in edited inserted edit_answer insert_answer shown_of text_of with_text same δ with_nodes with_styles with_pool with_stated with_fields with_pass with_interaction with_waiting at put change is_live chain kids_at order link_after link_last unlink_from unlink free_order freeing next_generation freed layout_at state_at entry_of patch_style touches in_pool wear bits_of bits_at wear_all bearing refreshed styled_at tabled_at bared bare_all field_of reclaimed claimed kids_well node_well free_well each_once links_well linked state_well distinct owners_well broken guarded on_live new_slot new_slots fresh new_tree insert_at insert reset_states remove_at remove set_style set_state_table pooled set_patch_pool make_field on_field field_text field_cursor solve rect live first_child next_sibling
computing = tt

-- The node of a slot in its g-th use.
abbrev named : ℕ → ℕ → NodeId
named i g = record { index = i; generation = g }

abbrev view : Viewport
view = record { width = pos 320; height = pos 200 }

-- A node gets a field and goes, and the next takes its slot.
pub a_reused_slot_has_no_field : (field_text (insert (remove (make_field (insert (new_tree New 2).next (named 0 1)).next (named 1 1)).next (named 1 1)).next (named 0 1)).next (named 1 2)).answer.number ≡ 8
unfolding computing
a_reused_slot_has_no_field = refl

-- A pass, a node more, and a pass for the same viewport: two passes are counted.
pub an_insert_makes_a_pass_due : (solve (insert (solve (new_tree New 2).next view).next (named 0 1)).next view).next.layout_passes ≡ 2
unfolding computing
an_insert_makes_a_pass_due = refl
