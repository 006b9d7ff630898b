-- One walk over the calls gives the three laws. Assumes nothing.
use Rattle.std.specs.Prelude.{None, Option, Some}
use mathlib.Core.Bool.{◌&&◌, not}
use mathlib.Core.List.{List, [], ◌∷◌}
use Prim.Native.Nat.{ℕ}
use native.Mathlib.Omega.{arith}
use lib.Dec.{ltb}
use Rattle.text.specs.declared.refusal.Refusal.TheVariants.{Full, Root, Foreign, Long}
use Rattle.field.specs.declared.NodeId.{NodeId}
use Rattle.field.specs.declared.Field.{Field}
use Rattle.arithmetic.specs.Tests.{same, all}
use Rattle.arithmetic.proofs.TestLaws.{bool_cases}
use Rattle.tree.specs.Slots.{NIL, nobody}
use Rattle.tree.specs.States.{in_pool}
use Rattle.tree.specs.Fields.{field_of, first_field, vacant, reclaimed}
use Rattle.tree.specs.Trees.{limit_of, waiting_of}
use Rattle.tree.specs.Broken.{broken}
use Rattle.tree.specs.Layout.{same_view}
use Rattle.tree.specs.Calls as tree
use Rattle.tree.specs.Calls.{Outcome, gives, refuses, guarded, on_live, of_field, on_field, shown, take_vacant, take_field}
use Rattle.tree.specs.declared.Ui.{Ui}
use Rattle.desk.specs.Events as desk
use Rattle.desk.specs.Marks as marks
use Rattle.desk.specs.Events.{take_oldest}
use Rattle.tree.specs.History.{Call, Change}
use Rattle.tree.specs.History.Call.{insert, change, ask}
use Rattle.tree.specs.History.Change.{remove, set_style, set_state_table, set_patch_pool, make_field, solve, handle, next_output, confirm, next_ship}
use Rattle.desk.specs.Demand3.{step, change_step}
use Rattle.desk.specs.CallLaws.{ARefusedCallChangesNothing, ABrokenTreeIsRefused, OnlyABrokenTreeIsRefusedBy1}
use Rattle.desk.proofs.LawfulCalls.{Lawful, LawfulCall, Behind, accepted, refused, either, guarded_is_lawful, live_is_lawful, confirm_is_lawful, question_is_lawful}

module _ (u : Ui) where
  taken : (d : NodeId) (m : Option Field) → Behind u (take_field u d m)
  taken d (Some f) = accepted u
  taken d None = go (first_field vacant (reclaimed (limit_of u) u.slots u.fields))
    where
      go : (m : Option Field) → Behind u (take_vacant u d m)
      go None = refused u Full (λ e. omega arith)
      go (Some f) = accepted u

  oldest : (ds : List NodeId) → Behind u (take_oldest u ds)
  oldest [] = accepted u
  oldest (d ∷ ds) = accepted u

  insert_is_lawful : (d : NodeId) → LawfulCall u (tree.insert u d)
  unfolding tree.insert
  insert_is_lawful d = live_is_lawful u d nobody (either u (same u.free NIL) (refused u Full (λ e. omega arith)) (accepted u))

  change_is_lawful : (c : Change) → Lawful u (change_step u c).number (change_step u c).next
  unfolding tree.remove tree.set_style tree.set_state_table tree.set_patch_pool tree.make_field tree.solve desk.handle desk.next_output marks.next_ship
  change_is_lawful (remove d) = live_is_lawful u {A = ℕ} d 0 (either u (same d.index 0) (refused u Root (λ e. omega arith)) (accepted u))
  change_is_lawful (set_style d s) = live_is_lawful u {A = ℕ} d 0 (accepted u)
  change_is_lawful (set_state_table d table) = live_is_lawful u {A = ℕ} d 0 (either u (all (in_pool u.patch_count) table) (accepted u) (refused u Foreign (λ e. omega arith)))
  change_is_lawful (set_patch_pool patches count) = guarded_is_lawful u {A = ℕ} 0 (either u (ltb 64 count) (refused u Long (λ e. omega arith)) (accepted u))
  change_is_lawful (make_field d) = live_is_lawful u {A = ℕ} d 0 (taken d (field_of d u.fields))
  change_is_lawful (solve v) = guarded_is_lawful u {A = ℕ} 0 (either u (not u.dirty && same_view u.solved_for v) (accepted u) (accepted u))
  change_is_lawful (handle e) = guarded_is_lawful u {A = ℕ} 0 (accepted u)
  change_is_lawful next_output = guarded_is_lawful u None (oldest (waiting_of u))
  change_is_lawful (confirm d) = confirm_is_lawful u d
  change_is_lawful next_ship = guarded_is_lawful u {A = ℕ} 0 (accepted u)

  call_is_lawful : (c : Call) → Lawful u (step u c).number (step u c).next
  unfolding step
  call_is_lawful (insert d) = insert_is_lawful d
  call_is_lawful (change c) = change_is_lawful c
  call_is_lawful (ask q) = question_is_lawful u q

-- ---- the laws

pub a_refused_call_changes_nothing : ARefusedCallChangesNothing
a_refused_call_changes_nothing u c = (call_is_lawful u c).back

pub a_broken_tree_is_refused : ABrokenTreeIsRefused
a_broken_tree_is_refused u c b =
    let f = call_is_lawful u c in
    let e = f.by_1 b in
    (e, f.back (λ z. omega arith))

pub only_a_broken_tree_is_refused_by_1 : OnlyABrokenTreeIsRefusedBy1
only_a_broken_tree_is_refused_by_1 u c e = bool_cases (broken u) (λ b. b) (λ b. absurd ((call_is_lawful u c).not_by_1 b e))
