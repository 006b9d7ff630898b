-- Every call keeps a tree that is not broken, and so does every list of calls. Assumes nothing.
use Rattle.std.specs.Prelude.{None, Option, Some}
use mathlib.Core.Path.{◌≡◌, refl, sym, ap, subst, ◌∙◌}
use mathlib.Core.Bool.{Bool, true, false, ◌&&◌, not}
use mathlib.Core.List.{List, [], ◌∷◌, ◌++◌, map}
use Prim.Native.Nat.{ℕ, ◌<◌}
use native.Mathlib.Omega.{arith}
use borrow.Author.Tests.{ltb-true, ltb-false}
use lib.Dec.{ltb}
use lib.ListN.{length, length-append, length-map}
use lib.Seq.{length-take-le, take_all}
use Rattle.field.specs.Fields.{field_ok, with_mark, unconfirmed, field_metres}
use Rattle.field.specs.declared.Mark.TheVariants.{Confirmed}
use Rattle.field.proofs.Laws.{mark_keeps_the_rules, next_ship_keeps_the_rules}
use Rattle.field.specs.declared.NodeId.{NodeId}
use Rattle.field.specs.declared.Field.{Field}
use Rattle.arithmetic.specs.Tests.{same, all}
use Rattle.arithmetic.proofs.BoolLaws.{pick_of, and_left, and_right}
use Rattle.arithmetic.proofs.TestLaws.{bool_cases, eq_cases, same_yes, same_is}
use Rattle.tree.specs.Slots.{NIL, is_live, nobody, is_id}
use Rattle.tree.specs.Styles.{no_state, state_at}
use Rattle.tree.specs.States.{in_pool}
use Rattle.tree.specs.Fields.{owns, field_of, first_field, vacant, reclaimed, change_first}
use Rattle.tree.specs.Trees.{limit_of, waiting_of, with_fields}
use Rattle.tree.specs.Broken.{broken}
use Rattle.tree.specs.Layout.{same_view}
use Rattle.tree.specs.Calls as tree
use Rattle.tree.specs.Calls.{take_vacant, take_field, of_field, on_field}
use Rattle.tree.specs.Types.{StateSlot}
use Rattle.tree.specs.declared.Ui.{Ui}
use Rattle.tree.proofs.Relation.{AllFields}
use Rattle.tree.proofs.StateLaws.{EachState}
use Rattle.tree.proofs.WellLaws.{each_of_a_front_passes, a_front_passes_if_each_does, states_well_by_slot}
use Rattle.tree.proofs.FieldLaws.{an_edit_keeps_of_each, an_edit_keeps_the_number_of_fields, an_edit_keeps_owners_apart, a_change_of_all_keeps_of_each, a_change_of_all_keeps_owners_apart}
use Rattle.tree.proofs.RuleParts.{a_tree_not_broken_keeps_each_rule}
use Rattle.tree.proofs.KeptTrees.{Tabled, FieldKept, Kept, Keeps, a_kept_tree_is_not_broken, a_style_keeps_the_tree, a_table_keeps_the_tree, a_pool_keeps_the_tree, a_refresh_keeps_the_tree, a_pass_keeps_the_tree, a_field_made_keeps_the_tree, other_fields_keep_the_tree, another_interaction_keeps_the_tree, other_outputs_keep_the_tree, the_same_tree_is_kept, guarded_keeps, live_keeps}
use Rattle.tree.proofs.KeptLinks.{an_insertion_keeps_the_tree, a_removal_keeps_the_tree}
use Rattle.desk.specs.Events as desk
use Rattle.desk.specs.Marks as marks
use Rattle.desk.specs.Marks.{confirm_field}
use Rattle.desk.specs.Events.{activate, released_on, keyed_field, edit_field, edit_focused, applied_event, hit_of, handled, take_oldest}
use Rattle.tree.specs.History.{Call, Change}
use Rattle.tree.specs.History.Call.{insert, change, ask}
use Rattle.tree.specs.History.Change.{remove, set_style, set_state_table, set_patch_pool, make_field, solve, handle, next_output, confirm, next_ship}
use Rattle.desk.specs.Demand3.{step, change_step, run, Machine, MachineChange, Machines}
use Rattle.desk.specs.CallLaws.{MachineTree, NotBrokenStays}
use Rattle.boxes.specs.declared.UiEvent.{UiEvent}
use Rattle.boxes.specs.declared.UiEvent.TheVariants.{PointerMoved, PointerPressed, PointerReleased, TextEntered, Edit}
use Rattle.boxes.specs.declared.Key.{Key}
use Rattle.boxes.specs.declared.Key.TheVariants.{Char, Op}
use Rattle.desk.proofs.EventLaws.{has_room}
use Rattle.desk.proofs.KeySteps.{key_keeps_owner, key_keeps_rules}
use Rattle.desk.proofs.MarkSteps.{confirmed, the_field_found_reads}

-- ---- lengths as tests

each_table : (l : List StateSlot) → length l ≡ 128 → all (λ (s : StateSlot). same (length s.table) 16) l ≡ true → EachState Tabled 128 l
unfolding state_at
each_table l h e j b =
    let p : StateSlot → Bool = λ s. same (length s.table) 16 in
    same_is _ 16 (each_of_a_front_passes p no_state 128 l (subst (λ (m : List StateSlot). all p m ≡ true) (sym (take_all 128 l (omega arith))) e) j b (omega arith))

all_tables : (l : List StateSlot) → length l ≡ 128 → EachState Tabled 128 l → all (λ (s : StateSlot). same (length s.table) 16) l ≡ true
unfolding state_at
all_tables l h w =
    let p : StateSlot → Bool = λ s. same (length s.table) 16 in
    subst (λ (m : List StateSlot). all p m ≡ true) (take_all 128 l (omega arith))
    (a_front_passes_if_each_does p no_state 128 l (omega arith) (λ j b. same_yes _ 16 (w j b)))

each_field : (fs : List Field) → all field_ok fs ≡ true → all (λ (f : Field). same (length f.bytes) 64) fs ≡ true → AllFields FieldKept fs
each_field [] r l = tt
each_field (f ∷ fs) r l =
    let b : Bool = same (length f.bytes) 64 in
    let bs : Bool = all (λ (f : Field). same (length f.bytes) 64) fs in
    ((and_left (field_ok f) (all field_ok fs) r, same_is (length f.bytes) 64 (and_left b bs l)), each_field fs (and_right (field_ok f) (all field_ok fs) r) (and_right b bs l))

pub all_bytes : (fs : List Field) → AllFields FieldKept fs → all (λ (f : Field). same (length f.bytes) 64) fs ≡ true
all_bytes [] r = refl
all_bytes (f ∷ fs) r = rw (same_yes (length f.bytes) 64 r.0.1) (all_bytes fs r.1)

pub kept_if_not_broken : (u : Ui) → MachineTree u → broken u ≡ false → Kept u
kept_if_not_broken u m b =
    let r = a_tree_not_broken_keeps_each_rule u b in
    let ls = m.states in
    let sm = r.few_nodes in
    record {
      links = record { some = r.some_nodes; small = r.few_nodes; long = m.slots; well = r.links };
      looks = record {
        sized = (m.layout, m.states);
        tables = each_table u.states m.states m.tables;
        well = states_well_by_slot u.patch_count (limit_of u) u.states (omega arith) r.states;
      };
      stated = record { long = m.stated; few = r.few_stated; each_only_once = r.stated_once };
      pool = record { long = m.patches; few = r.few_patches };
      queue = record { long = m.outputs; few = r.few_waiting };
      fields = record { eight = m.fields; ruled = each_field u.fields r.fields m.bytes; owners = r.owners };
    }

machine_if_kept : (u : Ui) → Kept u → MachineTree u
machine_if_kept u k = record {
  slots = k.links.long;
  layout = k.looks.sized.0;
  states = k.looks.sized.1;
  tables = all_tables u.states k.looks.sized.1 k.looks.tables;
  patches = k.pool.long;
  stated = k.stated.long;
  outputs = k.queue.long;
  fields = k.fields.eight;
  bytes = all_bytes u.fields k.fields.ruled;
}

-- ---- events

module _ {u : Ui} (k : Kept u) where
  waiting_fits : length (waiting_of u) ≡ u.output_count
  waiting_fits = let a = k.queue.few in let b = k.queue.long in let c = k.links.small in length-take-le u.output_count u.outputs (omega arith)

  activation_keeps : (d : NodeId) → Kept (activate u d)
  unfolding activate
  activation_keeps d =
      let n = waiting_fits in
      let a = length-append (waiting_of u) (d ∷ []) in
      pick_of Kept (has_room u)
      (λ e. let f = ltb-true u.output_count _ e in another_interaction_keeps_the_tree (other_outputs_keep_the_tree k (waiting_of u ++ d ∷ []) (omega arith)) _)
      (λ e. another_interaction_keeps_the_tree k _)

  release_keeps : (hit pressed : Option NodeId) → Kept (released_on u hit pressed)
  release_keeps hit None = another_interaction_keeps_the_tree k _
  release_keeps hit (Some d) = pick_of Kept (is_id hit d) (λ _. activation_keeps d) (λ _. another_interaction_keeps_the_tree k _)

  edit_keeps : (d : NodeId) (key : Key) (m : Option Field) → Kept (edit_field u d key m)
  edit_keeps d key None = k
  edit_keeps d key (Some f) =
      another_interaction_keeps_the_tree (other_fields_keep_the_tree k (change_first (owns d) (keyed_field key) u.fields) (record {
        eight = an_edit_keeps_the_number_of_fields (owns d) (keyed_field key) u.fields ∙ k.fields.eight;
        ruled = an_edit_keeps_of_each FieldKept (owns d) (keyed_field key) u.fields (λ g _ r. let q = key_keeps_rules key g r.0 r.1 in (q.0, q.1)) k.fields.ruled;
        owners = an_edit_keeps_owners_apart (keyed_field key) (key_keeps_owner key) d u.fields k.fields.owners;
      })) _

  key_keeps : (key : Key) (focus : Option NodeId) → Kept (edit_focused u key focus)
  key_keeps key None = k
  key_keeps key (Some d) = pick_of Kept (is_live (limit_of u) u.slots d) (λ _. edit_keeps d key (field_of d u.fields)) (λ _. k)

  event_keeps : (hit : Option NodeId) (e : UiEvent) → Kept (applied_event u hit e)
  event_keeps hit (PointerMoved x y) = another_interaction_keeps_the_tree k _
  event_keeps hit PointerPressed = another_interaction_keeps_the_tree k _
  event_keeps hit PointerReleased = release_keeps hit u.interaction.pressed
  event_keeps hit (TextEntered ch) = key_keeps (Char ch) u.interaction.focus
  event_keeps hit (Edit op) = key_keeps (Op op) u.interaction.focus

-- ---- calls

module _ {u : Ui} (k : Kept u) where
  live_is_a_slot : (d : NodeId) → is_live (limit_of u) u.slots d ≡ true → d.index < 128
  unfolding is_live
  live_is_a_slot d e =
      let b = ltb-true d.index (limit_of u) (and_left (ltb d.index (limit_of u)) _ e) in
      let m = k.links.small in omega arith

  insert_keeps : (d : NodeId) → Keeps (tree.insert u d)
  unfolding tree.insert
  insert_keeps d =
      live_keeps k d nobody (λ live. eq_cases u.free NIL
      (λ _ s _. rw s (the_same_tree_is_kept k))
      (λ f s _. rw s record { next_kept = an_insertion_keeps_the_tree k d live f }))

  remove_keeps : (d : NodeId) → Keeps (tree.remove u d)
  unfolding tree.remove
  remove_keeps d =
      live_keeps k d 0 (λ live. eq_cases d.index 0
      (λ _ s _. rw s (the_same_tree_is_kept k))
      (λ z s _. rw s record { next_kept = a_removal_keeps_the_tree k d live z }))

  field_keeps : (d : NodeId) → is_live (limit_of u) u.slots d ≡ true → (m : Option Field) → field_of d u.fields ≡ m → Keeps (take_field u d m)
  field_keeps d live (Some f) e = the_same_tree_is_kept k
  field_keeps d live None e = go (first_field vacant (reclaimed (limit_of u) u.slots u.fields))
    where
      go : (m : Option Field) → Keeps (take_vacant u d m)
      go None = the_same_tree_is_kept k
      go (Some f) = record { next_kept = a_field_made_keeps_the_tree k d live e }

  output_keeps : (ds : List NodeId) → waiting_of u ≡ ds → Keeps (take_oldest u ds)
  output_keeps [] e = the_same_tree_is_kept k
  output_keeps (d ∷ ds) e =
      let n : length (d ∷ ds) ≡ u.output_count = ap length (sym e) ∙ waiting_fits k in
      let f = k.queue.few in
      record { next_kept = other_outputs_keep_the_tree k ds (omega arith) }

  confirmed_keeps : (d : NodeId) (m : Option Field) → field_of d u.fields ≡ m → Keeps (of_field u 0 (confirm_field u d) m)
  unfolding with_mark field_of
  confirmed_keeps d None e = the_same_tree_is_kept k
  confirmed_keeps d (Some f) e =
      bool_cases (same (field_metres f).number 0)
      (λ b. rw b record {
        next_kept = other_fields_keep_the_tree k (change_first (owns d) confirmed u.fields) (record {
          eight = an_edit_keeps_the_number_of_fields (owns d) confirmed u.fields ∙ k.fields.eight;
          ruled = an_edit_keeps_of_each FieldKept (owns d) confirmed u.fields (λ g q r.
              let reading = the_field_found_reads d u.fields e q r.0 (same_is (field_metres f).number 0 b) in
              (mark_keeps_the_rules g Confirmed r.0 reading, r.1)) k.fields.ruled;
          owners = an_edit_keeps_owners_apart confirmed (λ g. refl) d u.fields k.fields.owners;
        });
      })
      (λ b. rw b (the_same_tree_is_kept k))

  unconfirmed_keeps : Kept (with_fields u (map unconfirmed u.fields))
  unfolding unconfirmed with_mark
  unconfirmed_keeps = other_fields_keep_the_tree k (map unconfirmed u.fields) (record {
    eight = length-map u.fields unconfirmed ∙ k.fields.eight;
    ruled = a_change_of_all_keeps_of_each FieldKept unconfirmed (λ g r. (next_ship_keeps_the_rules g r.0, r.1)) u.fields k.fields.ruled;
    owners = a_change_of_all_keeps_owners_apart unconfirmed (λ g. refl) nobody u.fields k.fields.owners;
  })

  change_keeps : (c : Change) → MachineChange c → Kept (change_step u c).next
  unfolding tree.set_style tree.set_state_table tree.set_patch_pool tree.make_field tree.solve desk.handle desk.next_output handled marks.confirm marks.next_ship on_field
  change_keeps (remove d) m = (remove_keeps d).next_kept
  change_keeps (set_style d s) m = (live_keeps k {A = ℕ} d 0 (λ live. record { next_kept = a_style_keeps_the_tree k d.index (live_is_a_slot d live) s })).next_kept
  change_keeps (set_state_table d table) m =
      (live_keeps k {A = ℕ} d 0 (λ live. pick_of Keeps (all (in_pool u.patch_count) table)
      (λ e. record { next_kept = a_table_keeps_the_tree k d.index (live_is_a_slot d live) table m e }) (λ _. the_same_tree_is_kept k))).next_kept
  change_keeps (set_patch_pool patches count) m =
      (guarded_keeps k {A = ℕ} 0 (pick_of Keeps (ltb 64 count) (λ _. the_same_tree_is_kept k)
      (λ e. record { next_kept = a_pool_keeps_the_tree k patches count m (ltb-false 64 count e) }))).next_kept
  change_keeps (make_field d) m = (live_keeps k {A = ℕ} d 0 (λ live. field_keeps d live (field_of d u.fields) refl)).next_kept
  change_keeps (solve v) m =
      (guarded_keeps k {A = ℕ} 0 (pick_of Keeps (not u.dirty && same_view u.solved_for v) (λ _. the_same_tree_is_kept k)
      (λ _. record { next_kept = a_pass_keeps_the_tree k v }))).next_kept
  change_keeps (handle e) m = (guarded_keeps k {A = ℕ} 0 (record { next_kept = a_refresh_keeps_the_tree (event_keeps k (hit_of u) e) _ })).next_kept
  change_keeps next_output m = (guarded_keeps k None (output_keeps (waiting_of u) refl)).next_kept
  change_keeps (confirm d) m = (live_keeps k {A = ℕ} d 0 (λ live. confirmed_keeps d (field_of d u.fields) refl)).next_kept
  change_keeps next_ship m = (guarded_keeps k {A = ℕ} 0 (record { next_kept = unconfirmed_keeps })).next_kept

  pub call_keeps : (c : Call) → Machine c → Kept (step u c).next
  unfolding step
  call_keeps (insert d) m = (insert_keeps d).next_kept
  call_keeps (change c) m = change_keeps c m
  call_keeps (ask q) m = k

calls_keep : (u : Ui) (cs : List Call) → Kept u → Machines cs → Kept (run u cs)
calls_keep u [] k m = k
calls_keep u (c ∷ cs) k m = calls_keep (step u c).next cs (call_keeps k c m.0) m.1

pub not_broken_stays : NotBrokenStays
not_broken_stays u cs l b m =
    let k = calls_keep u cs (kept_if_not_broken u l b) m in
    (machine_if_kept (run u cs) k, a_kept_tree_is_not_broken k)
