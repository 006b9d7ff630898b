-- Short runs by the definitions, with the source's answers: each side computes. Assumes nothing.
use mathlib.Core.Path.{◌≡◌, refl}
use mathlib.Core.List.{List, [], ◌∷◌, ◌++◌}
use lib.IntN.{pos, negsuc}
use Rattle.arithmetic.specs.Scalar.{stop, add_sat, sub_sat, gap_times, max_of, unsigned_of}
use Rattle.arithmetic.specs.Growth.{total}
use Rattle.arithmetic.specs.Fold.{empty_hash, fnv_byte, fold_bytes, low_bytes, absorbed}
use Rattle.text.specs.Reader.{run_from, is_utf8}
use Rattle.field.specs.Fields.{empty_field, in_range, text_ok, mark_ok, field_ok}
use Rattle.arithmetic.specs.Tests.{same, δ}
use Rattle.tree.specs.Trees.{with_nodes, with_styles, with_stated, with_pass, with_interaction, with_waiting}
use Rattle.tree.specs.Slots as tree-Slots
use Rattle.tree.specs.Slots.{at, put, is_live, chain, kids_at, order, link_after, link_last, new_slot, new_slots}
use Rattle.tree.specs.Styles.{layout_at, state_at}
use Rattle.tree.specs.States.{entry_of, in_pool, wear, bits_of, wear_all, live_slot, bearing, state_well}
use Rattle.tree.specs.Wearing.{bits_at, refreshed}
use Rattle.tree.specs.Layout.{outer, summed, content, want, offset, boxes, place, measure_at, measure_all, set_rects, arrange_at, arrange_all, passed, holds}
use Rattle.tree.specs.Hit.{last_of, descend, holds_at, hit_at}
use Rattle.tree.specs.Pointers.{first_pointer}
use Rattle.tree.specs.Rules.{kids_well, node_well, free_well, each_once, linked, distinct, owners_well}
use Rattle.tree.specs.Broken.{links_well, broken}
use Rattle.tree.specs.Calls as tree-Calls
use Rattle.tree.specs.Calls.{guarded, on_live, fresh, new_tree, insert_at}
use Rattle.desk.specs.Events as desk-Events
use Rattle.desk.specs.Events.{activated, activate, hit_of, handled}
use Rattle.desk.specs.Demand3.{step, run}
use Rattle.tree.specs.History.{Call, root_id}
use Rattle.tree.specs.History.Call.{insert, change}
use Rattle.tree.specs.History.Change.{solve, handle}
use Rattle.boxes.specs.declared.UiEvent.TheVariants.{PointerMoved, PointerPressed, PointerReleased}
use Rattle.boxes.specs.declared.StartKind.TheVariants.{New, AtOrigin}

-- The definitions that a run computes with: to unfold this one is to unfold them all.
computing : Unit {0}
unfolding stop add_sat sub_sat gap_times max_of unsigned_of fnv_byte fold_bytes low_bytes absorbed run_from is_utf8 empty_field in_range text_ok mark_ok field_ok same δ with_styles with_stated with_pass with_interaction with_waiting at is_live chain kids_at order layout_at state_at entry_of in_pool wear bits_of bits_at wear_all live_slot bearing refreshed outer summed content want offset total boxes place measure_at measure_all set_rects arrange_at arrange_all passed holds last_of descend holds_at hit_at kids_well node_well free_well each_once links_well linked state_well distinct owners_well broken guarded on_live new_slot new_slots fresh new_tree with_nodes put tree-Slots.change link_after link_last insert_at tree-Calls.insert first_pointer tree-Calls.solve activated activate hit_of handled desk-Events.handle desk-Events.absorb step
computing = tt

-- The root of a tree of one node is pressed and released, twice; or the pointer leaves it before the release.
abbrev press_run : List Call
press_run =
    change (solve (record { width = pos 655360; height = pos 655360 })) ∷ change (handle (PointerMoved (pos 3) (pos 3))) ∷ change (handle PointerPressed) ∷ []

abbrev hit_run : List Call
hit_run = press_run ++ change (handle PointerReleased) ∷ change (handle PointerPressed) ∷ change (handle PointerReleased) ∷ []

abbrev missed_run : List Call
missed_run = press_run ++ change (handle (PointerMoved (pos 30) (pos 3))) ∷ change (handle PointerReleased) ∷ []

-- The fingerprint after each.
pub activations_are_counted_and_folded : (desk-Events.absorb (run (new_tree New 1).next hit_run) empty_hash).answer.value ≡ 0xcd4526f543b2b1e8
unfolding computing
activations_are_counted_and_folded = refl

pub a_release_elsewhere_activates_nothing : (desk-Events.absorb (run (new_tree New 1).next missed_run) empty_hash).answer.value ≡ 0xbb9b2563b4091ad1
unfolding computing
a_release_elsewhere_activates_nothing = refl

-- Wish 2 of document 02: the console page's example, and the number after the pointer.
abbrev moved_run : List Call
moved_run = insert root_id ∷ change (solve (record { width = pos 5; height = pos 7 })) ∷ change (handle (PointerMoved (negsuc 2) (pos 4))) ∷ []

pub a_placed_pointer_enters_with_1 : (desk-Events.absorb (run (new_tree New 3).next moved_run) empty_hash).answer.value ≡ 0x7d845cccc6ccc4fe
unfolding computing
a_placed_pointer_enters_with_1 = refl

-- A touch desk: its corner is pressed and released before any move, and the fingerprint is that of the new tree. A drill's corner is activated.
abbrev corner_run : List Call
corner_run = change (solve (record { width = pos 655360; height = pos 655360 })) ∷ change (handle PointerPressed) ∷ change (handle PointerReleased) ∷ []

pub a_pointer_that_is_nowhere_hits_nothing : (desk-Events.absorb (run (new_tree New 1).next corner_run) empty_hash).answer.value ≡ 0x53d455f60446fbed
unfolding computing
a_pointer_that_is_nowhere_hits_nothing = refl

pub a_pointer_at_the_origin_hits_the_corner : (desk-Events.absorb (run (new_tree AtOrigin 1).next corner_run) empty_hash).answer.value ≡ 0x3adeee2f380d4e7b
unfolding computing
a_pointer_at_the_origin_hits_the_corner = refl
