-- What slots wear keeps to the rules: a table's entries are in the pool, so that what is worn of it is, and three bits make at most 7.
-- Assumes nothing.
use Rattle.field.specs.declared.NodeId.{NodeId}
use Rattle.std.specs.Prelude.{Option}
use mathlib.Core.Path.{◌≡◌, refl, sym, ap, ◌∙◌, subst}
use mathlib.Core.Bool.{Bool, true, false, ◌&&◌}
use mathlib.Core.List.{List, [], ◌∷◌, ◌++◌}
use Prim.Native.Nat.{ℕ, zero, suc, ◌%◌, ◌≤◌, ◌<◌}
use native.Mathlib.Omega.{arith}
use borrow.Author.Tests.{leb-true, le-leb}
use lib.Dec.{leb}
use lib.ListN.{length, get_or, take, replicate}
use Rattle.arithmetic.proofs.BoolLaws.{and_left, and_right}
use Rattle.arithmetic.specs.Tests.{occ, all, from_to}
use Rattle.boxes.specs.Styles.{no_patch, no_state, fresh_table, bare_state, state_at}
use Rattle.tree.specs.Trees.{limit_of, pool_of, stated_of, with_styles, with_stated, with_pool}
use Rattle.boxes.specs.States.{Appearance, entry_of, in_pool, wearing, wear_all, bits_of, based, tabled, bare_all, state_well}
use Rattle.arena.specs.Slots.{backwards}
use Rattle.tree.specs.Wearing.{appearance_of, bits_at, styled_at, tabled_at, refreshed}
use Rattle.tree.specs.Calls.{pooled}
use Rattle.tree.specs.declared.Ui.{Ui}
use Rattle.boxes.specs.declared.Style.{Style}
use Rattle.boxes.specs.declared.StateSlot.{StateSlot}
use Rattle.boxes.specs.declared.StatePatch.{StatePatch}
use Rattle.arithmetic.proofs.TestLaws.{same_refl}
use Rattle.arena.proofs.Forests.Starts.{occ_within}
use Rattle.arena.proofs.Checks.RuleLaws.{both_true, occurs_below}
use Rattle.boxes.proofs.Styles.Rounds.{Look, Sized, Inside, a_slot_visited_is_changed}
use Rattle.boxes.proofs.Styles.WearLaws.{wear_step, bare_step, wear_all_is_a_round, bare_all_is_a_round}
use Rattle.tree.proofs.RefreshLaws.{three, the_slots_of_a_refresh_are_below_the_limit}
use Rattle.tree.proofs.StylingLaws.{style_step, table_step}
use Rattle.tree.proofs.StateLaws.{EachState, a_changed_slot_keeps_of_each, a_round_keeps_of_each}

-- ---- a test of all of a list's front

pub each_of_a_front_passes : {A : Type 0} (p : A → Bool) (d : A) (n : ℕ) (l : List A) → all p (take n l) ≡ true → (j : ℕ) → j < n → j < length l → p (get_or l j d) ≡ true
each_of_a_front_passes p d zero l e j h b = absurd (omega arith)
each_of_a_front_passes p d (suc n) [] e j h b = absurd (omega arith)
each_of_a_front_passes p d (suc n) (x ∷ xs) e zero h b = and_left (p x) (all p (take n xs)) e
each_of_a_front_passes p d (suc n) (x ∷ xs) e (suc j) h b = each_of_a_front_passes p d n xs (and_right (p x) (all p (take n xs)) e) j (omega arith) (omega arith)

pub a_front_passes_if_each_does : {A : Type 0} (p : A → Bool) (d : A) (n : ℕ) (l : List A) → n ≤ length l → ((j : ℕ) → j < n → p (get_or l j d) ≡ true) → all p (take n l) ≡ true
a_front_passes_if_each_does p d zero l h q = refl
a_front_passes_if_each_does p d (suc n) [] h q = absurd (omega arith)
a_front_passes_if_each_does p d (suc n) (x ∷ xs) h q =
    both_true (p x) (all p (take n xs)) (q 0 (omega arith)) (a_front_passes_if_each_does p d n xs (omega arith) (λ j b. q (suc j) (omega arith)))

-- a state slot keeps to the rules; so does each below n
abbrev pub WellIn : ℕ → StateSlot → Type 0
WellIn count s = state_well count s ≡ true

abbrev pub StatesWell : ℕ → ℕ → List StateSlot → Type 0
StatesWell count n l = EachState (WellIn count) n l

pub states_well_by_slot : (count n : ℕ) (l : List StateSlot) → n ≤ length l → all (state_well count) (take n l) ≡ true → StatesWell count n l
unfolding state_at
states_well_by_slot count n l h e j b = each_of_a_front_passes (state_well count) no_state n l e j b (omega arith)

pub states_well_together : (count n : ℕ) (l : List StateSlot) → n ≤ length l → StatesWell count n l → all (state_well count) (take n l) ≡ true
unfolding state_at
states_well_together count n l h e = a_front_passes_if_each_does (state_well count) no_state n l h e

-- ---- one slot

no_patch_is_in_every_pool : (count : ℕ) → in_pool count no_patch ≡ true
unfolding in_pool
no_patch_is_in_every_pool count = rw (same_refl no_patch)

entry_in_pool : (count : ℕ) (table : List ℕ) (i : ℕ) → all (in_pool count) table ≡ true → in_pool count (get_or table i no_patch) ≡ true
entry_in_pool count [] i e = no_patch_is_in_every_pool count
entry_in_pool count (k ∷ ks) zero e = and_left (in_pool count k) (all (in_pool count) ks) e
entry_in_pool count (k ∷ ks) (suc i) e = entry_in_pool count ks i (and_right (in_pool count k) (all (in_pool count) ks) e)

three_bits_make_7_at_most : (a b c : Bool) → bits_of a b c ≤ 7
unfolding bits_of
three_bits_make_7_at_most true true true = omega arith
three_bits_make_7_at_most true true false = omega arith
three_bits_make_7_at_most true false true = omega arith
three_bits_make_7_at_most true false false = omega arith
three_bits_make_7_at_most false true true = omega arith
three_bits_make_7_at_most false true false = omega arith
three_bits_make_7_at_most false false true = omega arith
three_bits_make_7_at_most false false false = omega arith

pub bits_are_7_at_most : (u : Ui) (hover : Option NodeId) (i : ℕ) → bits_at u hover i ≤ 7
unfolding bits_at
bits_are_7_at_most u hover i = three_bits_make_7_at_most _ _ _

pub a_slot_that_wears_is_well : (count : ℕ) (s : StateSlot) (b : ℕ) → b ≤ 7 → state_well count s ≡ true → state_well count (wearing s (entry_of s.table b) b) ≡ true
unfolding state_well entry_of
a_slot_that_wears_is_well count s b h e =
    let t : all (in_pool count) s.table ≡ true = and_left (all (in_pool count) s.table) (leb s.bits 7) (and_right (in_pool count s.applied) (all (in_pool count) s.table && leb s.bits 7) e) in
    both_true (in_pool count (get_or s.table (b % 16) no_patch)) (all (in_pool count) s.table && leb b 7) (entry_in_pool count s.table (b % 16) t)
    (both_true (all (in_pool count) s.table) (leb b 7) t (le-leb b 7 h))

pub a_bare_slot_is_well : (count : ℕ) (base : Style) → state_well count (bare_state base) ≡ true
unfolding state_well
a_bare_slot_is_well count base =
    both_true (in_pool count no_patch) (all (in_pool count) fresh_table && leb 0 7) (no_patch_is_in_every_pool count)
    (both_true (all (in_pool count) fresh_table) (leb 0 7) (go 16) refl)
  where
    go : (n : ℕ) → all (in_pool count) (replicate n no_patch) ≡ true
    go zero = refl
    go (suc n) = both_true (in_pool count no_patch) (all (in_pool count) (replicate n no_patch)) (no_patch_is_in_every_pool count) (go n)

pub a_tabled_slot_is_well : (count : ℕ) (s : StateSlot) (table : List ℕ) → all (in_pool count) table ≡ true → state_well count s ≡ true → state_well count (tabled s table) ≡ true
unfolding state_well
a_tabled_slot_is_well count s table t e =
    both_true (in_pool count s.applied) (all (in_pool count) table && leb s.bits 7) (and_left (in_pool count s.applied) (all (in_pool count) s.table && leb s.bits 7) e)
    (both_true (all (in_pool count) table) (leb s.bits 7) t
    (and_right (all (in_pool count) s.table) (leb s.bits 7) (and_right (in_pool count s.applied) (all (in_pool count) s.table && leb s.bits 7) e)))

pub a_based_slot_is_well : (count : ℕ) (s : StateSlot) (base : Style) → state_well count s ≡ true → state_well count (based s base) ≡ true
unfolding state_well
a_based_slot_is_well count s base e = e

bits_of_a_well_slot : (count : ℕ) (s : StateSlot) → state_well count s ≡ true → s.bits ≤ 7
unfolding state_well
bits_of_a_well_slot count s e =
    leb-true s.bits 7 (and_right (all (in_pool count) s.table) (leb s.bits 7) (and_right (in_pool count s.applied) (all (in_pool count) s.table && leb s.bits 7) e))

-- ---- all slots

pub slots_that_wear_are_well : (count n : ℕ) (u : Ui) (hover : Option NodeId) (k : Appearance) (is : List ℕ) → Inside is → Sized k → StatesWell count n k.states → StatesWell count n (wear_all (pool_of u) (bits_at u hover) k is).states
slots_that_wear_are_well count n u hover k is b o w =
    subst (λ (k' : Appearance). StatesWell count n k'.states) (sym (wear_all_is_a_round (pool_of u) (bits_at u hover) k is))
    (a_round_keeps_of_each (WellIn count) n (wear_step (pool_of u) (bits_at u hover)) k is b o
    (λ j e v. a_slot_that_wears_is_well count e.state (bits_at u hover j) (bits_are_7_at_most u hover j) v) w)

pub a_refreshed_tree_is_well : (count n : ℕ) (u : Ui) (hover : Option NodeId) → limit_of u ≤ 128 → Sized (appearance_of u) → ((j : ℕ) → 0 < occ j (stated_of u) → j < limit_of u)
    → StatesWell count n u.states → StatesWell count n (refreshed u hover).states
unfolding refreshed with_stated with_styles
a_refreshed_tree_is_well count n u hover m o sb w =
    slots_that_wear_are_well count n u hover (appearance_of u) (backwards (stated_of u) ++ three u hover)
    (λ j z. let h = the_slots_of_a_refresh_are_below_the_limit u hover sb j z in omega arith) o w

-- whatever the pool is
pub bare_slots_are_well : (count n : ℕ) (k : Appearance) → n ≤ 128 → Sized k → StatesWell count n (bare_all k (from_to 0 n)).states
bare_slots_are_well count n k m o j h =
    let is : List ℕ = from_to 0 n in
    let q = occ_within 0 n j (omega arith) (omega arith) in
    subst (λ (k' : Appearance). state_well count (state_at k'.states j) ≡ true) (sym (bare_all_is_a_round k is))
    (ap (λ (e : Look). state_well count e.state) (a_slot_visited_is_changed bare_step k is (λ i z. let b = occurs_below n i z in omega arith) o j (omega arith))
    ∙ a_bare_slot_is_well count (state_at k.states j).base)

pub a_tree_with_a_new_pool_is_well : (u : Ui) (patches : List StatePatch) (count : ℕ) → limit_of u ≤ 128 → Sized (appearance_of u) → StatesWell count (limit_of u) (pooled u patches count).states
unfolding pooled with_pool with_styles
a_tree_with_a_new_pool_is_well u patches count m o = bare_slots_are_well count (limit_of u) (appearance_of u) m o

pub a_styled_tree_is_well : (count n : ℕ) (u : Ui) (i : ℕ) (y : Style) → Sized (appearance_of u) → i < 128 → StatesWell count n u.states → StatesWell count n (styled_at u i y).states
a_styled_tree_is_well count n u i y o h w =
    a_changed_slot_keeps_of_each (WellIn count) n i (style_step u i y o h) (λ e v. a_based_slot_is_well count e.state y v) w

pub a_tabled_tree_is_well : (count n : ℕ) (u : Ui) (i : ℕ) (table : List ℕ) → Sized (appearance_of u) → i < 128 → all (in_pool count) table ≡ true → StatesWell count n u.states → StatesWell count n (tabled_at u i table).states
a_tabled_tree_is_well count n u i table o h t w =
    a_changed_slot_keeps_of_each (WellIn count) n i (table_step u i table o h)
    (λ e v. a_slot_that_wears_is_well count (tabled e.state table) e.state.bits (bits_of_a_well_slot count e.state v) (a_tabled_slot_is_well count e.state table t v)) w
