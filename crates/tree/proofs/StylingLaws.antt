-- A style or a table given to one slot is given to the node that has the id: the slot is the node's, since an id finds its node by the
-- index alone, and no other slot changes. Assumes nothing.
use mathlib.Core.Path.{◌≡◌, refl, sym, ap, ◌∙◌, subst}
use mathlib.Core.Bool.{Bool, true, false, not, ◌||◌, ◌&&◌, cond}
use mathlib.Core.List.{[], List}
use Prim.Native.Nat.{ℕ, ◌<◌}
use native.Mathlib.Omega.{arith}
use lib.ListN.{set}
use Rattle.field.specs.declared.NodeId.{NodeId}
use Rattle.arithmetic.specs.Tests.{same}
use Rattle.arena.specs.Slots.{Slots, at}
use Rattle.boxes.specs.Styles.{no_patch, fresh_state, layout_at, state_at}
use Rattle.tree.specs.Trees.{limit_of, pool_of, stated_of, with_styles, with_pool}
use Rattle.boxes.specs.States.{Appearance, entry_of, with_style, based, tabled}
use Rattle.tree.specs.Wearing.{appearance_of, styled_at, tabled_at}
use Rattle.arena.specs.Forest.{Forest, nil, node, map_f, any_f, has_both, has_id}
use Rattle.boxes.specs.Nodes.{Info, change_of, wears, swaps, restyled, with_table, bare}
use Rattle.tree.specs.Calls.{pooled}
use Rattle.tree.specs.declared.Ui.{Ui}
use Rattle.boxes.specs.declared.Style.{Style}
use Rattle.boxes.specs.declared.StateSlot.{StateSlot}
use Rattle.boxes.specs.declared.StatePatch.{StatePatch}
use Rattle.arithmetic.proofs.TestLaws.{same_refl, eq_cases, bool_cases}
use Rattle.arena.proofs.Forests.ForestLaws.{cnt}
use Rattle.arena.proofs.Forests.Relations.{Rel, below}
use Rattle.arena.proofs.Forests.Payloads.{AllF, all_map, all_both, all_map_f, all_at, any_cases}
use Rattle.arena.proofs.Forests.Ids.{id_by_index, live_id, nodes_have_their_slots_generation}
use Rattle.boxes.proofs.Styles.Rounds.{Look, look_at, look_of, Worn, worn_is_one_look, one_look_is_worn, Sized, Stepped, or_true, or_false}
use Rattle.boxes.proofs.Styles.WearLaws.{Restyled, TablesWorn, wear_look, wear_moves, to_wear_changes_one_slot, a_state_is_stored, a_state_and_a_style_are_stored, all_slots_bare_is_every_node_bare}

-- ---- one node changed

pub changing_one_node_keeps : (P : ℕ → ℕ → Info → Type 0) (d : NodeId) (f : Info → Info) (t : Forest Info) → ((i g : ℕ) (x : Info) → P i g x → P i g (f x)) → AllF P t → AllF P (change_of d f t)
changing_one_node_keeps P d f t h r =
    all_map_f P (λ i g x. cond (has_both d i g) (f x) x) t (all_map P (λ i g x. P i g (cond (has_both d i g) (f x) x)) t
    (λ i g x _ p. bool_cases (has_both d i g) (λ b. rw b (h i g x p)) (λ b. rw b p)) r)

-- nodes have the id just where they have its index
pub ids_by_index : {n : ℕ} {s : Slots} {free : ℕ} {t : Forest Info} {fl : List ℕ} → Rel n s free t fl → (d : NodeId) → has_id d t ≡ true → AllF (λ i g x. has_both d i g ≡ same i d.index) t
ids_by_index {s = s} {t = t} r d h =
    all_map (λ i g x. ((at s i).generation ≡ g) × ((at s i).live ≡ true)) (λ i g x. has_both d i g ≡ same i d.index) t
    (λ i g x _ q. id_by_index s d i g (live_id r d h).1 q.0) (nodes_have_their_slots_generation r)

pub one_slot_changed_is_one_node_changed : {n : ℕ} {s : Slots} {free : ℕ} {t : Forest Info} {fl : List ℕ} → Rel n s free t fl → (d : NodeId) → has_id d t ≡ true
    → (change : Look → Look) (moves : Look → Bool) (k k' : Appearance) → Stepped change moves k d.index k' → AllF (λ i g x. Worn k.layout k.states i x) t
    → (f : Info → Info) → ((x : Info) → change (look_of x) ≡ look_of (f x)) → (q : Info → Bool) → ((x : Info) → moves (look_of x) ≡ q x)
    → Restyled k k' t (change_of d f t) (any_f (λ i g x. has_both d i g && q x) t)
one_slot_changed_is_one_node_changed {t = t} r d live change moves k k' S w f ef q eq =
    let p : ℕ = d.index in
    let W : ℕ → ℕ → Info → Type 0 = λ i g x. Worn k.layout k.states i x in
    let W' : ℕ → ℕ → Info → Type 0 = λ i g x. Worn k'.layout k'.states i x in
    let B : ℕ → ℕ → Info → Type 0 = λ i g x. has_both d i g ≡ same i p in
    let P : ℕ → ℕ → Info → Type 0 = λ i g x. W i g x × B i g x in
    let al : AllF P t = all_both W B t w (ids_by_index r d live) in
    let L = live_id r d live in
    let one = L.0 in
    let there : (i : ℕ) (x : Info) → i ≡ p → Worn k.layout k.states i x → look_at k p ≡ look_of x = λ i x e v.
    subst (λ (n : ℕ). look_at k n ≡ look_of x) e (worn_is_one_look k i x v) in
    record {
      sized = S.sized;
      worn = all_map_f W' (λ i g x. cond (has_both d i g) (f x) x) t (all_map P (λ i g x. W' i g (cond (has_both d i g) (f x) x)) t
          (λ i g x _ v. eq_cases i p
          (λ e s _. subst (λ (b : Bool). W' i g (cond b (f x) x)) (sym (v.1 ∙ s))
          (one_look_is_worn k' i (f x) (subst (λ (n : ℕ). look_at k' n ≡ look_of (f x)) (sym e) (S.here ∙ ap change (there i x e v.0) ∙ ef x))))
          (λ e s _. subst (λ (b : Bool). W' i g (cond b (f x) x)) (sym (v.1 ∙ s))
          (one_look_is_worn k' i x (S.elsewhere i e ∙ worn_is_one_look k i x v.0))))
          al);
      due = S.due ∙ ap (λ (b : Bool). k.dirty || b) (any_cases (λ i g x. has_both d i g && q x) P t al
          (λ y z. eq_cases z.ix p
          (λ e s _.
          let yes_it : q z.load ≡ true = subst (λ (b : Bool). (b && q z.load) ≡ true) (z.holds.1 ∙ s) z.yes_it in
          ap moves (there z.ix z.load e z.holds.0) ∙ eq z.load ∙ yes_it ∙ sym y)
          (λ e s _.
          let no-it : ◌≡◌ {A = Bool} false true = subst (λ (b : Bool). (b && q z.load) ≡ true) (z.holds.1 ∙ s) z.yes_it in
          let zz : ◌≡◌ {A = ℕ} 0 1 = cc in absurd (omega arith)))
          (λ y none.
          let z = all_at (λ i g x. P i g x × ((has_both d i g && q x) ≡ false)) p t (all_both P (λ i g x. (has_both d i g && q x) ≡ false) t al none) (omega arith) in
          let no-it : q z.load ≡ false = subst (λ (b : Bool). (b && q z.load) ≡ false) (z.holds.0.1 ∙ same_refl p) z.holds.1 in
          ap moves (there p z.load refl z.holds.0.0) ∙ eq z.load ∙ no-it ∙ sym y));
      rects = S.rects;
      dead = λ j c. ap (λ (e : Look). e.state) (S.elsewhere j (λ e. let c' : cnt p t ≡ 0 = subst (λ (n : ℕ). cnt n t ≡ 0) e c in omega arith));
    }

-- ---- a base style

abbrev pub style_look : Style → Look → Look
style_look y e = record { state = based e.state y; style = cond (same e.state.applied no_patch) y e.style }

pub style_step : (u : Ui) (i : ℕ) (y : Style) → Sized (appearance_of u) → i < 128 → Stepped (style_look y) (λ e. true) (appearance_of u) i (appearance_of (styled_at u i y))
unfolding styled_at with_styles
style_step u i y o h =
    let s : StateSlot = state_at u.states i in
    bool_cases (same s.applied no_patch)
    (λ e. subst (λ (c : Bool). Stepped (style_look y) (λ e. true) (appearance_of u) i
    (record { layout = cond c (set u.layout i (with_style (layout_at u.layout i) y)) u.layout; states = set u.states i (based s y); dirty = true }))
    (sym e)
    (a_state_and_a_style_are_stored (style_look y) (λ e. true) (appearance_of u) i y (based s y) true o h refl (rw e) (sym (or_true u.dirty))))
    (λ e. subst (λ (c : Bool). Stepped (style_look y) (λ e. true) (appearance_of u) i
    (record { layout = cond c (set u.layout i (with_style (layout_at u.layout i) y)) u.layout; states = set u.states i (based s y); dirty = true }))
    (sym e)
    (a_state_is_stored (style_look y) (λ e. true) (appearance_of u) i (based s y) true o h refl (rw e) (sym (or_true u.dirty))))

restyled_look : (y : Style) (x : Info) → style_look y (look_of x) ≡ look_of (restyled y x)
unfolding restyled
restyled_look y x = refl

pub a_styled_slot_makes_a_pass_due : (u : Ui) (i : ℕ) (y : Style) → (styled_at u i y).dirty ≡ true
unfolding styled_at with_styles
a_styled_slot_makes_a_pass_due u i y = refl

-- ---- a table

abbrev pub table_look : List ℕ → Look → Look
table_look table e = record { state = tabled e.state table; style = e.style }

pub table_step : (u : Ui) (i : ℕ) (table : List ℕ) → Sized (appearance_of u) → i < 128
    → Stepped (λ e. wear_look (pool_of u) e.state.bits (table_look table e)) (λ e. wear_moves (pool_of u) e.state.bits (table_look table e))
    (appearance_of u) i (appearance_of (tabled_at u i table))
unfolding tabled_at with_styles
table_step u i table o h =
    let s : StateSlot = state_at u.states i in
    let k1 : Appearance = record { layout = u.layout; states = set u.states i (tabled s table); dirty = u.dirty } in
    let S1 : Stepped (table_look table) (λ e. false) (appearance_of u) i k1 =
    a_state_is_stored (table_look table) (λ e. false) (appearance_of u) i (tabled s table) u.dirty o h refl refl (sym (or_false u.dirty)) in
    let S2 = to_wear_changes_one_slot (pool_of u) s.bits k1 i S1.sized h in
    record {
      sized = S2.sized;
      here = S2.here ∙ ap (wear_look (pool_of u) s.bits) S1.here;
      elsewhere = λ j e. S2.elsewhere j e ∙ S1.elsewhere j e;
      rects = λ j. S2.rects j;
      due = S2.due ∙ ap (λ (e : Look). u.dirty || wear_moves (pool_of u) s.bits e) S1.here;
    }

module _ {n : ℕ} {free : ℕ} {t : Forest Info} {fl : List ℕ} (u : Ui) (r : Rel n u.slots free t fl) (o : Sized (appearance_of u))
    (w : AllF (λ i g x. Worn u.layout u.states i x) t) (d : NodeId) (live : has_id d t ≡ true) where
  in_array : d.index < 128
  in_array = let c = (live_id r d live).0 in let b = below r d.index (omega arith) in let m = r.small in omega arith

  pub a_styled_slot_is_a_restyled_node : (y : Style) → Restyled (appearance_of u) (appearance_of (styled_at u d.index y)) t (change_of d (restyled y) t) true
  a_styled_slot_is_a_restyled_node y =
      let R = one_slot_changed_is_one_node_changed r d live (style_look y) (λ e. true) (appearance_of u) (appearance_of (styled_at u d.index y)) (style_step u d.index y o in_array) w
      (restyled y) (restyled_look y) (λ x. true) (λ x. refl) in
      record { sized = R.sized; worn = R.worn; due = a_styled_slot_makes_a_pass_due u d.index y ∙ sym (or_true u.dirty); rects = R.rects; dead = R.dead }

  tabled_look : (table : List ℕ) (x : Info) → wear_look (pool_of u) x.bits (table_look table (look_of x)) ≡ look_of (wears (pool_of u) x.bits (with_table table x))
  unfolding wears
  tabled_look table x = refl

  tabled_moves : (table : List ℕ) (x : Info) → wear_moves (pool_of u) x.bits (table_look table (look_of x)) ≡ swaps (pool_of u) x.bits (with_table table x)
  unfolding swaps
  tabled_moves table x = refl

  pub a_tabled_slot_is_a_node_that_wears_a_table : (table : List ℕ)
      → Restyled (appearance_of u) (appearance_of (tabled_at u d.index table)) t (change_of d (λ x. wears (pool_of u) x.bits (with_table table x)) t)
      (any_f (λ i g x. has_both d i g && swaps (pool_of u) x.bits (with_table table x)) t)
  a_tabled_slot_is_a_node_that_wears_a_table table =
      one_slot_changed_is_one_node_changed r d live
      (λ e. wear_look (pool_of u) e.state.bits (table_look table e)) (λ e. wear_moves (pool_of u) e.state.bits (table_look table e))
      (appearance_of u) (appearance_of (tabled_at u d.index table)) (table_step u d.index table o in_array) w
      (λ x. wears (pool_of u) x.bits (with_table table x)) (tabled_look table) (λ x. swaps (pool_of u) x.bits (with_table table x)) (tabled_moves table)

-- ---- nodes still wear what their tables have

pub a_restyled_node_wears_what_its_table_has : (d : NodeId) (y : Style) (t : Forest Info) → TablesWorn t → TablesWorn (change_of d (restyled y) t)
unfolding restyled
a_restyled_node_wears_what_its_table_has d y t w =
    changing_one_node_keeps (λ i g x. x.applied ≡ entry_of x.table x.bits) d (restyled y) t (λ i g x p. p) w

pub a_tabled_node_wears_what_its_table_has : (d : NodeId) (pool : List StatePatch) (table : List ℕ) (t : Forest Info) → TablesWorn t
    → TablesWorn (change_of d (λ x. wears pool x.bits (with_table table x)) t)
unfolding wears
a_tabled_node_wears_what_its_table_has d pool table t w =
    changing_one_node_keeps (λ i g x. x.applied ≡ entry_of x.table x.bits) d (λ x. wears pool x.bits (with_table table x)) t (λ i g x p. refl) w

-- ---- a new pool

pub a_new_pool_bares_every_node : {free : ℕ} {t : Forest Info} {fl : List ℕ} (u : Ui) (patches : List StatePatch) (count : ℕ) → Rel (limit_of u) u.slots free t fl → Sized (appearance_of u)
    → AllF (λ i g x. Worn u.layout u.states i x) t → ((j : ℕ) → j < limit_of u → cnt j t ≡ 0 → state_at u.states j ≡ fresh_state)
    → Restyled (appearance_of u) (appearance_of (pooled u patches count)) t (map_f (λ i g x. bare x) t) (any_f (λ i g x. not (same x.applied no_patch)) t)
unfolding pooled with_pool with_styles
a_new_pool_bares_every_node {t = t} u patches count r o w fr = all_slots_bare_is_every_node_bare (appearance_of u) (limit_of u) t r.small o (λ j c. below r j (omega arith)) w fr

pub a_new_pool_states_no_slot : (u : Ui) (patches : List StatePatch) (count : ℕ) → stated_of (pooled u patches count) ≡ []
unfolding pooled with_pool with_styles
a_new_pool_states_no_slot u patches count = refl

pub bare_nodes_have_no_bits : (t : Forest Info) → AllF (λ i g x. x.bits ≡ 0) (map_f (λ i g x. bare x) t)
unfolding bare
bare_nodes_have_no_bits nil = tt
bare_nodes_have_no_bits (node i g x cs sib) = (refl, bare_nodes_have_no_bits cs, bare_nodes_have_no_bits sib)
