-- What the wearing of patches does to the arrays is what it does to the nodes: each step changes one slot as the node is changed, wearing
-- twice is wearing once, and a slot as new wears what it wore. Assumes nothing.
use mathlib.Core.Path.{◌≡◌, refl, sym, ap, ◌∙◌, subst}
use mathlib.Core.Logic.{◌≢◌}
use mathlib.Core.Bool.{Bool, true, false, not, ◌||◌, ◌&&◌, cond}
use mathlib.Core.List.{List, [], ◌∷◌}
use Prim.Native.Nat.{ℕ, zero, suc, ◌%◌, ◌≤◌, ◌<◌}
use native.Mathlib.Omega.{arith}
use lib.ListN.{length, get_or, set, replicate, length-set}
use lib.Seq.{get_or-set_same, get_or-set_other}
use Rattle.arithmetic.specs.Tests.{same, occ, from_to}
use Rattle.boxes.specs.Styles.{no_patch, no_layout, no_state, fresh_table, fresh_state, bare_state, layout_at, state_at}
use Rattle.boxes.specs.States.{Appearance, entry_of, patch_style, touches, wear, wearing, with_style, wear_all, bared, bare_all}
use Rattle.arena.specs.Forest.{Forest, nil, node, map_f, any_f}
use Rattle.boxes.specs.Nodes.{Info, wears, swaps, bare}
use Rattle.boxes.specs.declared.Style.{Style}
use Rattle.boxes.specs.declared.LayoutSlot.{LayoutSlot}
use Rattle.boxes.specs.declared.StateSlot.{StateSlot}
use Rattle.boxes.specs.declared.StatePatch.{StatePatch}
use Rattle.arithmetic.proofs.TestLaws.{same_yes, same_refl, zero_cases, bool_cases}
use Rattle.arena.proofs.Forests.ForestLaws.{cnt}
use Rattle.arena.proofs.Forests.Payloads.{AllF, all_map, all_both}
use Rattle.arena.proofs.Forests.Starts.{occ_within}
use Rattle.arena.proofs.Checks.RuleLaws.{occurs_below}
use Rattle.boxes.proofs.Styles.Rounds.{Look, look_at, look_of, Worn, Sized, a_layout_store_keeps, Stepped, Stepping, visit, Inside, or_true, or_false, Met, a_round_keeps_lengths, a_round_keeps_rects, a_slot_not_visited_stays, a_slot_visited_is_changed, a_round_is_a_change_of_every_node, a_pass_is_due_where_a_node_moved}

-- ---- stores

pub a_stored_state_is_there : (l : List StateSlot) (i : ℕ) (s : StateSlot) → i < length l → state_at (set l i s) i ≡ s
unfolding state_at
a_stored_state_is_there l i s h = get_or-set_same l i s no_state h

pub other_states_stay : (l : List StateSlot) (i j : ℕ) (s : StateSlot) → j ≢ i → state_at (set l i s) j ≡ state_at l j
unfolding state_at
other_states_stay l i j s h = get_or-set_other l i j s no_state h

pub a_stored_layout_is_there : (l : List LayoutSlot) (i : ℕ) (s : LayoutSlot) → i < length l → layout_at (set l i s) i ≡ s
unfolding layout_at
a_stored_layout_is_there l i s h = get_or-set_same l i s no_layout h

pub other_layouts_stay : (l : List LayoutSlot) (i j : ℕ) (s : LayoutSlot) → j ≢ i → layout_at (set l i s) j ≡ layout_at l j
unfolding layout_at
other_layouts_stay l i j s h = get_or-set_other l i j s no_layout h

-- a state stored, and its style with it or left alone
pub a_state_and_a_style_are_stored : (change : Look → Look) (moves : Look → Bool) (k : Appearance) (i : ℕ) (y : Style) (s : StateSlot) (dirty' : Bool) → Sized k → i < 128
    → s ≡ (change (look_at k i)).state → y ≡ (change (look_at k i)).style → dirty' ≡ (k.dirty || moves (look_at k i))
    → Stepped change moves k i (record { layout = set k.layout i (with_style (layout_at k.layout i) y); states = set k.states i s; dirty = dirty' })
a_state_and_a_style_are_stored change moves k i y s dirty' o b es ey ed =
    let o0 = o.0 in let o1 = o.1 in
    let nl : LayoutSlot = with_style (layout_at k.layout i) y in
    let el : (layout_at (set k.layout i nl) i).style ≡ y = ap (λ (z : LayoutSlot). z.style) (a_stored_layout_is_there k.layout i nl (omega arith)) in
    let es' : state_at (set k.states i s) i ≡ s = a_stored_state_is_there k.states i s (omega arith) in
    record {
      sized = (length-set k.layout i nl ∙ o0, length-set k.states i s ∙ o1);
      here = λ r. record { state = (es' ∙ es) r; style = (el ∙ ey) r };
      elsewhere = λ j h.
          let q0 = ap (λ (z : LayoutSlot). z.style) (other_layouts_stay k.layout i j nl h) in
          let q1 = other_states_stay k.states i j s h in
          λ r. record { state = q1 r; style = q0 r };
      rects = λ j. a_layout_store_keeps (λ (z : LayoutSlot). z.rect) k.layout i j nl refl;
      due = ed;
    }

pub a_state_is_stored : (change : Look → Look) (moves : Look → Bool) (k : Appearance) (i : ℕ) (s : StateSlot) (dirty' : Bool) → Sized k → i < 128
    → s ≡ (change (look_at k i)).state → (layout_at k.layout i).style ≡ (change (look_at k i)).style → dirty' ≡ (k.dirty || moves (look_at k i))
    → Stepped change moves k i (record { layout = k.layout; states = set k.states i s; dirty = dirty' })
a_state_is_stored change moves k i s dirty' o b es ey ed =
    let o1 = o.1 in
    let es' : state_at (set k.states i s) i ≡ s = a_stored_state_is_there k.states i s (omega arith) in
    record {
      sized = (o.0, length-set k.states i s ∙ o1);
      here = λ r. record { state = (es' ∙ es) r; style = ey r };
      elsewhere = λ j h. let q1 = other_states_stay k.states i j s h in λ r. record { state = q1 r; style = (layout_at k.layout j).style };
      rects = λ j. refl;
      due = ed;
    }

-- ---- to wear

abbrev pub wear_look : List StatePatch → ℕ → Look → Look
wear_look pool b e =
    let next = entry_of e.state.table b in
    record { state = wearing e.state next b; style = cond (same next e.state.applied) e.style (patch_style pool next e.state.base) }

abbrev pub wear_moves : List StatePatch → ℕ → Look → Bool
wear_moves pool b e =
    let next = entry_of e.state.table b in
    not (same next e.state.applied) && (touches pool e.state.applied || touches pool next)

pub to_wear_twice_is_to_wear_once : (pool : List StatePatch) (b : ℕ) (e : Look) → wear_look pool b (wear_look pool b e) ≡ wear_look pool b e
to_wear_twice_is_to_wear_once pool b e = rw (same_refl (entry_of e.state.table b))

pub the_second_wearing_moves_nothing : (pool : List StatePatch) (b : ℕ) (e : Look) → wear_moves pool b (wear_look pool b e) ≡ false
the_second_wearing_moves_nothing pool b e = rw (same_refl (entry_of e.state.table b))

pub to_wear_changes_one_slot : (pool : List StatePatch) (b : ℕ) (k : Appearance) (i : ℕ) → Sized k → i < 128
    → Stepped (wear_look pool b) (wear_moves pool b) k i (wear pool k i b)
unfolding wear
to_wear_changes_one_slot pool b k i o h =
    let s : StateSlot = state_at k.states i in
    let next : ℕ = entry_of s.table b in
    bool_cases (same next s.applied)
    (λ e. subst (λ (c : Bool). Stepped (wear_look pool b) (wear_moves pool b) k i (cond c
    (record { layout = k.layout; states = set k.states i (wearing s next b); dirty = k.dirty })
    (record { layout = set k.layout i (with_style (layout_at k.layout i) (patch_style pool next s.base)); states = set k.states i (wearing s next b); dirty = k.dirty || (touches pool s.applied || touches pool next) })))
    (sym e)
    (a_state_is_stored (wear_look pool b) (wear_moves pool b) k i (wearing s next b) k.dirty o h refl (rw e) (rw e (sym (or_false k.dirty)))))
    (λ e. subst (λ (c : Bool). Stepped (wear_look pool b) (wear_moves pool b) k i (cond c
    (record { layout = k.layout; states = set k.states i (wearing s next b); dirty = k.dirty })
    (record { layout = set k.layout i (with_style (layout_at k.layout i) (patch_style pool next s.base)); states = set k.states i (wearing s next b); dirty = k.dirty || (touches pool s.applied || touches pool next) })))
    (sym e)
    (a_state_and_a_style_are_stored (wear_look pool b) (wear_moves pool b) k i (patch_style pool next s.base) (wearing s next b) (k.dirty || (touches pool s.applied || touches pool next)) o h refl (rw e) (rw e)))

abbrev pub wear_step : List StatePatch → (ℕ → ℕ) → Stepping
wear_step pool bits = record {
  change = λ i. wear_look pool (bits i);
  moves = λ i. wear_moves pool (bits i);
  again = λ i. to_wear_twice_is_to_wear_once pool (bits i);
  still = λ i. the_second_wearing_moves_nothing pool (bits i);
  step = λ k i. wear pool k i (bits i);
  law = λ k i. to_wear_changes_one_slot pool (bits i) k i;
}

pub wear_all_is_a_round : (pool : List StatePatch) (bits : ℕ → ℕ) (k : Appearance) (is : List ℕ) → wear_all pool bits k is ≡ visit (wear_step pool bits) k is
unfolding wear_all
wear_all_is_a_round pool bits k [] = refl
wear_all_is_a_round pool bits k (i ∷ is) = wear_all_is_a_round pool bits (wear pool k i (bits i)) is

pub a_fresh_table_has_no_patch : (b : ℕ) → entry_of fresh_table b ≡ no_patch
unfolding entry_of
a_fresh_table_has_no_patch b = go 16 (b % 16)
  where
    go : (n i : ℕ) → get_or (replicate n no_patch) i no_patch ≡ no_patch
    go zero i = refl
    go (suc n) zero = refl
    go (suc n) (suc i) = go n i

-- a slot as new wears what it wore
fresh_still : (pool : List StatePatch) (b : ℕ) (e : Look) → e.state ≡ fresh_state → wear_moves pool b e ≡ false
fresh_still pool b e h =
    subst (λ (s : StateSlot). wear_moves pool b (record { state = s; style = e.style }) ≡ false) (sym h)
    (rw (same_yes (entry_of fresh_table b) no_patch (a_fresh_table_has_no_patch b)))

fresh_wears : (pool : List StatePatch) (b : ℕ) (e : Look) → b ≡ 0 → e.state ≡ fresh_state → (wear_look pool b e).state ≡ e.state
fresh_wears pool b e z h =
    subst (λ (s : StateSlot). wearing s (entry_of s.table b) b ≡ s) (sym h)
    (λ r. record { table = fresh_table; base = fresh_state.base; applied = a_fresh_table_has_no_patch b r; bits = z r })

-- nothing changes where the bits are as they were
worn_already : (pool : List StatePatch) (x : Info) → x.applied ≡ entry_of x.table x.bits → (look_of (wears pool x.bits x) ≡ look_of x) × (swaps pool x.bits x ≡ false)
unfolding wears swaps
worn_already pool x h =
    let s = same_yes (entry_of x.table x.bits) x.applied (sym h) in
    ((λ r. record { state = record { table = x.table; base = x.base; applied = sym h r; bits = x.bits }; style = ap (λ (c : Bool). cond c x.style (patch_style pool (entry_of x.table x.bits) x.base)) s r }), rw s)

wears_look : (pool : List StatePatch) (b : ℕ) (x : Info) → wear_look pool b (look_of x) ≡ look_of (wears pool b x)
unfolding wears
wears_look pool b x = refl

swaps_look : (pool : List StatePatch) (b : ℕ) (x : Info) → wear_moves pool b (look_of x) ≡ swaps pool b x
unfolding swaps
swaps_look pool b x = refl

-- ---- after a round

pub record Restyled (k k' : Appearance) (t t' : Forest Info) (moved : Bool) : Type 0 where
  pub sized : Sized k'
  pub worn : AllF (λ i g x. Worn k'.layout k'.states i x) t'
  pub due : k'.dirty ≡ (k.dirty || moved)
  pub rects : (j : ℕ) → (layout_at k'.layout j).rect ≡ (layout_at k.layout j).rect
  pub dead : (j : ℕ) → cnt j t ≡ 0 → state_at k'.states j ≡ state_at k.states j

abbrev pub TablesWorn : Forest Info → Type 0
TablesWorn t = AllF (λ i g x. x.applied ≡ entry_of x.table x.bits) t

pub all_slots_wearing_is_every_node_wearing : (pool : List StatePatch) (own : ℕ → ℕ) (k : Appearance) (is : List ℕ) (t : Forest Info) (bits : ℕ → ℕ → Info → ℕ)
    → Inside is → Sized k → AllF (λ i g x. Worn k.layout k.states i x) t → TablesWorn t
    → AllF (λ i g x. own i ≡ bits i g x) t
    → AllF (λ i g x. 0 < x.bits → 0 < occ i is) t → AllF (λ i g x. 0 < bits i g x → 0 < occ i is) t
    → ((j : ℕ) → 0 < occ j is → cnt j t ≡ 0 → state_at k.states j ≡ fresh_state)
    → ((j : ℕ) → 0 < occ j is → cnt j t ≡ 0 → own j ≡ 0)
    → Restyled k (wear_all pool own k is) t (map_f (λ i g x. wears pool (bits i g x) x) t) (any_f (λ i g x. swaps pool (bits i g x) x) t)
all_slots_wearing_is_every_node_wearing pool own k is t bits b o w tw be c0 c1 fr bz =
    let S : Stepping = wear_step pool own in
    let v : ℕ → ℕ → Info → Info = λ i g x. wears pool (bits i g x) x in
    let q : ℕ → ℕ → Info → Bool = λ i g x. swaps pool (bits i g x) x in
    let A : ℕ → ℕ → Info → Type 0 = λ i g x. x.applied ≡ entry_of x.table x.bits in
    let B : ℕ → ℕ → Info → Type 0 = λ i g x. own i ≡ bits i g x in
    let C : ℕ → ℕ → Info → Type 0 = λ i g x. 0 < x.bits → 0 < occ i is in
    let D : ℕ → ℕ → Info → Type 0 = λ i g x. 0 < bits i g x → 0 < occ i is in
    let m : AllF (Met S is v q) t = all_map (λ i g x. (A i g x × B i g x) × (C i g x × D i g x)) (Met S is v q) t
    (λ i g x _ p. (
      (λ z. (ap (λ (n : ℕ). wear_look pool n (look_of x)) p.0.1 ∙ wears_look pool (bits i g x) x, ap (λ (n : ℕ). wear_moves pool n (look_of x)) p.0.1 ∙ swaps_look pool (bits i g x) x)),
      (λ z.
          let z0 : x.bits ≡ 0 = zero_cases x.bits (λ y. y) (λ y. let r = p.1.0 y in absurd (omega arith)) in
          let z1 : bits i g x ≡ 0 = zero_cases (bits i g x) (λ y. y) (λ y. let r = p.1.1 y in absurd (omega arith)) in
          let e : x.bits ≡ bits i g x = z0 ∙ sym z1 in
          let a = worn_already pool x p.0.0 in
          (ap (λ (n : ℕ). look_of (wears pool n x)) (sym e) ∙ a.0, ap (λ (n : ℕ). swaps pool n x) (sym e) ∙ a.1)),
    ))
    (all_both (λ i g x. A i g x × B i g x) (λ i g x. C i g x × D i g x) t (all_both A B t tw be) (all_both C D t c0 c1)) in
    subst (λ (k' : Appearance). Restyled k k' t (map_f v t) (any_f q t)) (sym (wear_all_is_a_round pool own k is)) (record {
      sized = a_round_keeps_lengths S k is b o;
      worn = a_round_is_a_change_of_every_node S k is t v q b o w m;
      due = a_pass_is_due_where_a_node_moved S k is t v q b o w m (λ j z c. fresh_still pool (own j) (look_at k j) (fr j z c));
      rects = a_round_keeps_rects S k is b o;
      dead = λ j c. zero_cases (occ j is)
          (λ z. ap (λ (e : Look). e.state) (a_slot_not_visited_stays S k is b o j z))
          (λ z. ap (λ (e : Look). e.state) (a_slot_visited_is_changed S k is b o j z) ∙ fresh_wears pool (own j) (look_at k j) (bz j z c) (fr j z c));
    })

pub nodes_wear_what_their_tables_have : (pool : List StatePatch) (bits : ℕ → ℕ → Info → ℕ) (t : Forest Info) → TablesWorn (map_f (λ i g x. wears pool (bits i g x) x) t)
unfolding wears
nodes_wear_what_their_tables_have pool bits nil = tt
nodes_wear_what_their_tables_have pool bits (node i g x cs sib) = (refl, nodes_wear_what_their_tables_have pool bits cs, nodes_wear_what_their_tables_have pool bits sib)

-- ---- no table, bits or patch

abbrev pub bare_look : Look → Look
bare_look e = record { state = bare_state e.state.base; style = cond (same e.state.applied no_patch) e.style e.state.base }

abbrev pub bare_moves : Look → Bool
bare_moves e = not (same e.state.applied no_patch)

pub to_bare_twice_is_to_bare_once : (e : Look) → bare_look (bare_look e) ≡ bare_look e
to_bare_twice_is_to_bare_once e = rw (same_refl no_patch)

pub the_second_baring_moves_nothing : (e : Look) → bare_moves (bare_look e) ≡ false
the_second_baring_moves_nothing e = rw (same_refl no_patch)

pub to_bare_changes_one_slot : (k : Appearance) (i : ℕ) → Sized k → i < 128 → Stepped bare_look bare_moves k i (bared k i)
unfolding bared
to_bare_changes_one_slot k i o h =
    let s : StateSlot = state_at k.states i in
    bool_cases (same s.applied no_patch)
    (λ e. subst (λ (c : Bool). Stepped bare_look bare_moves k i (cond c
    (record { layout = k.layout; states = set k.states i (bare_state s.base); dirty = k.dirty })
    (record { layout = set k.layout i (with_style (layout_at k.layout i) s.base); states = set k.states i (bare_state s.base); dirty = true })))
    (sym e)
    (a_state_is_stored bare_look bare_moves k i (bare_state s.base) k.dirty o h refl (rw e) (rw e (sym (or_false k.dirty)))))
    (λ e. subst (λ (c : Bool). Stepped bare_look bare_moves k i (cond c
    (record { layout = k.layout; states = set k.states i (bare_state s.base); dirty = k.dirty })
    (record { layout = set k.layout i (with_style (layout_at k.layout i) s.base); states = set k.states i (bare_state s.base); dirty = true })))
    (sym e)
    (a_state_and_a_style_are_stored bare_look bare_moves k i s.base (bare_state s.base) true o h refl (rw e) (rw e (sym (or_true k.dirty)))))

abbrev pub bare_step : Stepping
bare_step = record {
  change = λ i. bare_look;
  moves = λ i. bare_moves;
  again = λ i. to_bare_twice_is_to_bare_once;
  still = λ i. the_second_baring_moves_nothing;
  step = bared;
  law = to_bare_changes_one_slot;
}

pub bare_all_is_a_round : (k : Appearance) (is : List ℕ) → bare_all k is ≡ visit bare_step k is
unfolding bare_all
bare_all_is_a_round k [] = refl
bare_all_is_a_round k (i ∷ is) = bare_all_is_a_round (bared k i) is

bare_look_lem : (x : Info) → bare_look (look_of x) ≡ look_of (bare x)
unfolding bare
bare_look_lem x = refl

pub all_slots_bare_is_every_node_bare : (k : Appearance) (n : ℕ) (t : Forest Info) → n ≤ 128 → Sized k → ((j : ℕ) → 0 < cnt j t → j < n)
    → AllF (λ i g x. Worn k.layout k.states i x) t
    → ((j : ℕ) → j < n → cnt j t ≡ 0 → state_at k.states j ≡ fresh_state)
    → Restyled k (bare_all k (from_to 0 n)) t (map_f (λ i g x. bare x) t) (any_f (λ i g x. not (same x.applied no_patch)) t)
all_slots_bare_is_every_node_bare k n t h o bl w fr =
    let is : List ℕ = from_to 0 n in
    let v : ℕ → ℕ → Info → Info = λ i g x. bare x in
    let q : ℕ → ℕ → Info → Bool = λ i g x. not (same x.applied no_patch) in
    let b : Inside is = λ j z. let p = occurs_below n j z in omega arith in
    let m : AllF (Met bare_step is v q) t = all_map (λ i g x. Worn k.layout k.states i x) (Met bare_step is v q) t
    (λ i g x c _. ((λ z. (bare_look_lem x, refl)), (λ z. let y = bl i c in let p = occ_within 0 n i (omega arith) (omega arith) in absurd (omega arith)))) w in
    subst (λ (k' : Appearance). Restyled k k' t (map_f v t) (any_f q t)) (sym (bare_all_is_a_round k is)) (record {
      sized = a_round_keeps_lengths bare_step k is b o;
      worn = a_round_is_a_change_of_every_node bare_step k is t v q b o w m;
      due = a_pass_is_due_where_a_node_moved bare_step k is t v q b o w m
          (λ j z c. ap (λ (s : StateSlot). not (same s.applied no_patch)) (fr j (occurs_below n j z) c) ∙ rw (same_refl no_patch));
      rects = a_round_keeps_rects bare_step k is b o;
      dead = λ j c. zero_cases (occ j is)
          (λ z. ap (λ (e : Look). e.state) (a_slot_not_visited_stays bare_step k is b o j z))
          (λ z. let f = fr j (occurs_below n j z) c in
          ap (λ (e : Look). e.state) (a_slot_visited_is_changed bare_step k is b o j z) ∙ ap (λ (s : StateSlot). bare_state s.base) f ∙ sym f);
    })

pub bare_nodes_wear_what_their_tables_have : (t : Forest Info) → TablesWorn (map_f (λ i g x. bare x) t)
unfolding bare
bare_nodes_wear_what_their_tables_have nil = tt
bare_nodes_wear_what_their_tables_have (node i g x cs sib) = (sym (a_fresh_table_has_no_patch 0), bare_nodes_wear_what_their_tables_have cs, bare_nodes_wear_what_their_tables_have sib)
