-- A removal keeps every part: the node and all below it leave the forest, the slots freed are those of the part that leaves, each is one
-- generation older and its state is as new. So every epoch is what it was, and what holds of the nodes that stay held before. Assumes nothing.
use Rattle.std.specs.Prelude.{Option}
use mathlib.Core.Path.{◌≡◌, refl, sym, subst, ◌∙◌}
use mathlib.Core.Logic.{◌≢◌}
use mathlib.Core.Bool.{true}
use mathlib.Core.List.{List, [], ◌∷◌}
use Prim.Native.Nat.{ℕ, suc, ◌+◌, ◌<◌, ◌≤◌, ◌^◌}
use native.Mathlib.Omega.{arith}
use lib.ListN.{length, get_or, set, length-set}
use Rattle.field.specs.declared.NodeId.{NodeId}
use Rattle.arithmetic.specs.Tests.{occ}
use Rattle.arena.specs.Forest.{Forest, has_id, cut_of}
use Rattle.boxes.specs.Nodes.{Info}
use Rattle.arena.specs.Slots.{at, unlink, free_order, freeing, nobody}
use Rattle.boxes.specs.Styles.{fresh_state, fresh_style, state_at}
use Rattle.tree.specs.Trees.{limit_of, with_nodes}
use Rattle.tree.specs.Calls.{remove_at}
use Rattle.boxes.specs.States.{reset_states}
use Rattle.tree.specs.declared.Ui.{Ui}
use Rattle.boxes.specs.declared.StateSlot.{StateSlot}
use Rattle.arithmetic.proofs.TestLaws.{δ-same, eq_cases, zero_cases}
use Rattle.arena.proofs.Forests.ForestLaws.{cnt, cut}
use Rattle.arena.proofs.Forests.Relations.{once}
use Rattle.arena.proofs.Forests.Payloads.{AllF, all_map, all_cut}
use Rattle.arena.proofs.Forests.FreeOrders.{pushed}
use Rattle.arena.proofs.Forests.LinkRemovals.{Removed, remove_rel}
use Rattle.arena.proofs.Forests.Generations.{remove_keeps_epochs, remove_generation_bound}
use Rattle.arena.proofs.Forests.Ids.{live_id, cut_of_a_live_id}
use Rattle.boxes.proofs.Styles.Rounds.{Worn}
use Rattle.boxes.proofs.Styles.WearLaws.{a_stored_state_is_there, other_states_stay}
use Rattle.tree.proofs.StateLaws.{EachState}
use Rattle.tree.proofs.WellLaws.{WellIn, a_bare_slot_is_well}
use Rattle.tree.proofs.Relation.{Below, BelowMaybe, Links, Naming, Styled, Texts}
use Rattle.tree.proofs.GivenIds.{NoEpochFalls, given_ids_stay_given, given_owners_stay_given, ruled_fields_stay_ruled}

-- ---- states as new

pub reset_states_are_as_many : (l : List StateSlot) (o : List ℕ) → length (reset_states l o) ≡ length l
unfolding reset_states
reset_states_are_as_many l [] = refl
reset_states_are_as_many l (i ∷ is) = reset_states_are_as_many (set l i fresh_state) is ∙ length-set l i fresh_state

pub states_not_reset_stay : (l : List StateSlot) (o : List ℕ) (j : ℕ) → occ j o ≡ 0 → state_at (reset_states l o) j ≡ state_at l j
unfolding reset_states
states_not_reset_stay l [] j z = refl
states_not_reset_stay l (i ∷ is) j z =
    states_not_reset_stay (set l i fresh_state) is j (omega arith) ∙ other_states_stay l i j fresh_state (λ e. let q = δ-same i j (sym e) in omega arith)

a_fresh_state_stays_fresh : (l : List StateSlot) (o : List ℕ) (j : ℕ) → j < length l → state_at l j ≡ fresh_state → state_at (reset_states l o) j ≡ fresh_state
unfolding reset_states
a_fresh_state_stays_fresh l [] j b e = e
a_fresh_state_stays_fresh l (i ∷ is) j b e =
    a_fresh_state_stays_fresh (set l i fresh_state) is j (rw length-set b)
    (eq_cases j i (λ q _ _. rw q (a_stored_state_is_there l i fresh_state (rw q at b))) (λ q _ _. other_states_stay l i j fresh_state q ∙ e))

pub states_reset_are_fresh : (l : List StateSlot) (o : List ℕ) (j : ℕ) → j < length l → 0 < occ j o → state_at (reset_states l o) j ≡ fresh_state
unfolding reset_states
states_reset_are_fresh l [] j b z = absurd (omega arith)
states_reset_are_fresh l (i ∷ is) j b z =
    eq_cases i j
    (λ q _ _. a_fresh_state_stays_fresh (set l i fresh_state) is j (rw length-set b) (rw (← q) (a_stored_state_is_there l i fresh_state (rw (← q) at b))))
    (λ q _ z'. states_reset_are_fresh (set l i fresh_state) is j (rw length-set b) (omega arith))

-- so what holds of each state and of a new one holds of each after it
pub reset_states_keep_of_each : (P : StateSlot → Type 0) (n : ℕ) (l : List StateSlot) (o : List ℕ) → n ≤ length l → P fresh_state → EachState P n l → EachState P n (reset_states l o)
reset_states_keep_of_each P n l o m f w j h =
    zero_cases (occ j o)
    (λ z. subst P (sym (states_not_reset_stay l o j z)) (w j h))
    (λ z. subst P (sym (states_reset_are_fresh l o j (omega arith) z)) f)

-- ---- the parts

-- the slots freed, in order
abbrev pub freed_by : Ui → NodeId → List ℕ
freed_by u d = free_order 128 (unlink u.slots d.index) d.index

module _ {k : ℕ} {u : Ui} {t : Forest Info} (L : Links k u t) (small : k < 2 ^ 63) (d : NodeId) (h : has_id d t ≡ true) (nz : d.index ≢ 0) where
  by_index : cut_of d t ≡ cut d.index t
  by_index = cut_of_a_live_id L.rel d h

  gone : Removed (limit_of u) u.slots u.free t L.chain d.index
  gone = remove_rel (limit_of u) u.slots u.free t L.chain d.index L.rel (live_id L.rel d h).0 nz

  -- each slot freed had a node that leaves
  pub the_slots_freed_are_those_that_leave : (j : ℕ) → occ j (freed_by u d) + cnt j (cut_of d t) ≡ cnt j t
  the_slots_freed_are_those_that_leave j = rw by_index (gone.order_counts j)

  pub a_removal_keeps_every_epoch : (j : ℕ) → (at (remove_at u d.index).slots j).generation + cnt j (cut_of d t) ≡ (at u.slots j).generation + cnt j t
  unfolding remove_at with_nodes freeing
  a_removal_keeps_every_epoch j =
      let y = L.young j in
      rw by_index (remove_keeps_epochs L.rel d.index (live_id L.rel d h).0 nz j (omega arith))

  pub no_epoch_falls_by_a_removal : NoEpochFalls u.slots t (remove_at u d.index).slots (cut_of d t)
  no_epoch_falls_by_a_removal j = let e = a_removal_keeps_every_epoch j in omega arith

  pub remove_keeps_below : (e : NodeId) → Below u.slots t e → Below (remove_at u d.index).slots (cut_of d t) e
  remove_keeps_below = given_ids_stay_given u.slots t (remove_at u d.index).slots (cut_of d t) no_epoch_falls_by_a_removal

  pub remove_keeps_below_maybe : (o : Option NodeId) → BelowMaybe u.slots t o → BelowMaybe (remove_at u d.index).slots (cut_of d t) o
  remove_keeps_below_maybe = given_owners_stay_given u.slots t (remove_at u d.index).slots (cut_of d t) no_epoch_falls_by_a_removal

  -- what holds of every node holds of those that stay
  pub remove_keeps_all : (P : ℕ → ℕ → Info → Type 0) → AllF P t → AllF P (cut_of d t)
  remove_keeps_all P q = rw by_index (all_cut P d.index t q)

  pub remove_keeps_links : Links (suc k) (remove_at u d.index) (cut_of d t)
  unfolding remove_at with_nodes freeing
  remove_keeps_links =
      let R = gone in
      let n = L.count in
      let z = R.sizes in
      rw by_index record {
        chain = pushed (freed_by u d) L.chain;
        rel = R.rel;
        count = omega arith;
        young = remove_generation_bound L.rel d.index (live_id L.rel d h).0 nz (suc k) (omega arith) L.young;
      }

  pub remove_keeps_naming : (named : List NodeId) → Naming u.slots t named → Naming (remove_at u d.index).slots (cut_of d t) named
  remove_keeps_naming named N = record {
    own = remove_keeps_all _ N.own;
    old = λ m b. remove_keeps_below (get_or named m nobody) (N.old m b);
    apart = N.apart;
  }

  pub remove_keeps_styling : Styled u t → Styled (remove_at u d.index) (cut_of d t)
  unfolding remove_at with_nodes freeing
  remove_keeps_styling D =
      let o : List ℕ = freed_by u d in
      let s : List StateSlot = u.states in
      let ls = D.sized.1 in
      let sm = L.rel.small in
      record {
        sized = (D.sized.0, reset_states_are_as_many s o ∙ ls);
        worn = all_map (λ j g x. Worn u.layout s j x) (λ j g x. Worn u.layout (reset_states s o) j x) (cut_of d t)
            (λ j g x c w. let e = the_slots_freed_are_those_that_leave j in let q = once L.rel j in (w.0, states_not_reset_stay s o j (omega arith) ∙ w.1))
            (remove_keeps_all _ D.worn);
        tables = remove_keeps_all _ D.tables;
        boxed = remove_keeps_all _ D.boxed;
        with_bits = remove_keeps_all _ D.with_bits;
        dead = λ j b c.
            let e = the_slots_freed_are_those_that_leave j in
            zero_cases (occ j o) (λ z. states_not_reset_stay s o j z ∙ D.dead j b (omega arith)) (λ z. states_reset_are_fresh s o j (omega arith) z);
        stated_long = D.stated_long;
        stated_few = D.stated_few;
        stated_once = D.stated_once;
        well = reset_states_keep_of_each (WellIn u.patch_count) (limit_of u) s o (omega arith) (a_bare_slot_is_well u.patch_count fresh_style) D.well;
      }

  pub remove_keeps_texts : Texts u.slots u.fields t → Texts (remove_at u d.index).slots u.fields (cut_of d t)
  remove_keeps_texts X = record {
    eight = X.eight;
    ruled = ruled_fields_stay_ruled u.slots t (remove_at u d.index).slots (cut_of d t) no_epoch_falls_by_a_removal u.fields X.ruled;
    owners = X.owners;
    texts = remove_keeps_all _ X.texts;
  }
