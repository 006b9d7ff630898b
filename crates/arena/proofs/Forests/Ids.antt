-- The slots tell each live node's generation, so to find a node by its id is to find it by its index, and an id is live just where a
-- node of the forest has it. Assumes nothing.
use Rattle.std.specs.Prelude.{None, Some}
use Rattle.std.proofs.Common.{◌≡◌, ℕ, ◌<◌, ◌≤◌, Bool, true, false, cond, ◌&&◌, ◌||◌, ltb, ◌≢◌, List, [], ◌∷◌, sym, refl, ap, ◌∙◌, subst, arith, le-ltb, lt-ltb}
use native.Mathlib.Decide.{dec_lt}
use Rattle.field.specs.declared.NodeId.{NodeId}
use Rattle.arithmetic.specs.Tests.{same, occ}
use Rattle.arena.specs.Forest.{Forest, nil, node, has_both, has_id, kids_of, set_kids_of, cut_of, find, size}
use Rattle.arena.specs.Slots.{NIL, Slots, at, used, is_live, id_at}
use Rattle.arena.specs.declared.Slot.{Slot}
use Rattle.arithmetic.proofs.TestLaws.{same_yes, δ-refl, eq_cases, zero_cases, bool_cases}
use Rattle.arena.proofs.Forests.ForestLaws.{first_or, last_or, cnt, wt, top_le_cnt, kids, set_kids, cut}
use Rattle.arena.proofs.Forests.Segments.{SegR}
use Rattle.arena.proofs.Forests.Relations.{Rel, FreeR, once, below}
use Rattle.arena.proofs.Forests.Payloads.{AllF, all_at}

-- the slots tell the generation
pub id_by_index : (a : Slots) (d : NodeId) (i g : ℕ) → (at a d.index).generation ≡ d.generation → (at a i).generation ≡ g → has_both d i g ≡ same i d.index
id_by_index a d i g e h =
    eq_cases i d.index
    (λ q s _. let h' : (at a d.index).generation ≡ g = rw q at h in rw s (same_yes g d.generation (sym h' ∙ e)))
    (λ q s _. rw s)

or_false : (b : Bool) → (b || false) ≡ b
or_false true = refl
or_false false = refl

both_equal : (i j g h : ℕ) → (same i j && same g h) ≡ true → (i ≡ j) × (g ≡ h)
both_equal i j g h e =
    eq_cases i j
    (λ p s _. eq_cases g h
    (λ q s' _. (p, q))
    (λ q s' _. let w : ◌≡◌ {A = Bool} false true = rw (s, s') at e in let z : ◌≡◌ {A = ℕ} 0 1 = cc in absurd (omega arith)))
    (λ p s _. let w : ◌≡◌ {A = Bool} false true = rw s at e in let z : ◌≡◌ {A = ℕ} 0 1 = cc in absurd (omega arith))

module _ {X : Type 0} where
  kids_by_index : (a : Slots) (d : NodeId) (f : Forest X) (par pv nx : ℕ) → SegR a par pv f nx → (at a d.index).generation ≡ d.generation → kids_of d f ≡ kids d.index f
  kids_by_index a d nil par pv nx r e = refl
  kids_by_index a d (node i g x cs sib) par pv nx r e =
      rw (id_by_index a d i g e (ap (λ (s : Slot). s.generation) r.0), kids_by_index a d cs i NIL NIL r.1 e, kids_by_index a d sib par i nx r.2 e)

  set_by_index : (a : Slots) (d : NodeId) (k f : Forest X) (par pv nx : ℕ) → SegR a par pv f nx → (at a d.index).generation ≡ d.generation → set_kids_of d k f ≡ set_kids d.index k f
  set_by_index a d k nil par pv nx r e = refl
  set_by_index a d k (node i g x cs sib) par pv nx r e =
      rw (id_by_index a d i g e (ap (λ (s : Slot). s.generation) r.0), set_by_index a d k cs i NIL NIL r.1 e, set_by_index a d k sib par i nx r.2 e)

  cut_by_index : (a : Slots) (d : NodeId) (f : Forest X) (par pv nx : ℕ) → SegR a par pv f nx → (at a d.index).generation ≡ d.generation → cut_of d f ≡ cut d.index f
  cut_by_index a d nil par pv nx r e = refl
  cut_by_index a d (node i g x cs sib) par pv nx r e =
      rw (id_by_index a d i g e (ap (λ (s : Slot). s.generation) r.0), cut_by_index a d cs i NIL NIL r.1 e, cut_by_index a d sib par i nx r.2 e)

  -- ---- liveness

  pub no_id_without_its_index : (d : NodeId) (f : Forest X) → cnt d.index f ≡ 0 → has_id d f ≡ false
  no_id_without_its_index d nil z = refl
  no_id_without_its_index d (node i g x cs sib) z =
      eq_cases i d.index (λ e s q. absurd (omega arith)) λ e s q.
      rw (s, no_id_without_its_index d cs (omega arith), no_id_without_its_index d sib (omega arith))

  seg_id : (a : Slots) (d : NodeId) (f : Forest X) (par pv nx : ℕ) → SegR a par pv f nx → cnt d.index f ≡ 1
      → ((at a d.index).live ≡ true) × (has_id d f ≡ same (at a d.index).generation d.generation)
  seg_id a d nil par pv nx r z = absurd (omega arith)
  seg_id a d (node i g x cs sib) par pv nx r z =
      eq_cases i d.index
      (λ e s q.
      let r0 : at a d.index ≡ used g par (first_or NIL cs) (last_or NIL cs) pv (first_or nx sib) = rw e at r.0 in
      (ap (λ (t : Slot). t.live) r0, rw (s, r0, no_id_without_its_index d cs (omega arith), no_id_without_its_index d sib (omega arith)) (or_false (same g d.generation))))
      (λ e s q. zero_cases (cnt d.index cs)
      (λ c. let h = seg_id a d sib par i nx r.2 (omega arith) in (h.0, rw (s, no_id_without_its_index d cs c) h.1))
      (λ c. let h = seg_id a d cs i NIL NIL r.1 (omega arith) in (h.0, rw (s, no_id_without_its_index d sib (omega arith), h.1) (or_false (same (at a d.index).generation d.generation)))))

  -- every node's generation is its slot's, and its slot is live
  seg_generations : (a : Slots) (f : Forest X) (par pv nx : ℕ) → SegR a par pv f nx → AllF (λ i g x. ((at a i).generation ≡ g) × ((at a i).live ≡ true)) f
  seg_generations a nil par pv nx r = tt
  seg_generations a (node i g x cs sib) par pv nx r =
      ((ap (λ (s : Slot). s.generation) r.0, ap (λ (s : Slot). s.live) r.0), seg_generations a cs i NIL NIL r.1, seg_generations a sib par i nx r.2)

  -- ---- what is known of the node that has the id

  -- at most one node has it
  ids_within_indices : (d : NodeId) (f : Forest X) → wt (λ i g x. cond (has_both d i g) 1 0) f ≤ cnt d.index f
  ids_within_indices d nil = omega arith
  ids_within_indices d (node i g x cs sib) =
      let h = ids_within_indices d cs in
      let h' = ids_within_indices d sib in
      eq_cases i d.index
      (λ e s q. bool_cases (same g d.generation) (λ b. rw (s, b) (omega arith)) (λ b. rw (s, b) (omega arith)))
      (λ e s q. rw s (omega arith))

  pub record Known (P : ℕ → ℕ → X → Type 0) (d : NodeId) (f : Forest X) : Type 0 where
    pub load : X
    pub found : find d f ≡ Some load
    pub holds : P d.index d.generation load

  pub find_nothing : (d : NodeId) (f : Forest X) → has_id d f ≡ false → find d f ≡ None
  find_nothing d nil h = refl
  find_nothing d (node i g x cs sib) h =
      bool_cases (has_both d i g)
      (λ b. let q : ◌≡◌ {A = Bool} true false = rw b at h in let z : ◌≡◌ {A = ℕ} 0 1 = cc in absurd (omega arith))
      (λ b. bool_cases (has_id d cs)
      (λ c. let q : ◌≡◌ {A = Bool} true false = rw (b, c) at h in let z : ◌≡◌ {A = ℕ} 0 1 = cc in absurd (omega arith))
      (λ c. let q : has_id d sib ≡ false = rw (b, c) at h in rw (b, find_nothing d cs c, find_nothing d sib q)))

  pub find_known : (P : ℕ → ℕ → X → Type 0) (d : NodeId) (f : Forest X) → AllF P f → has_id d f ≡ true → Known P d f
  find_known P d nil r h = let z : ◌≡◌ {A = ℕ} 0 1 = cc in absurd (omega arith)
  find_known P d (node i g x cs sib) r h =
      bool_cases (has_both d i g)
      (λ b. let q = both_equal i d.index g d.generation b in
      record { load = x; found = rw b; holds = subst (λ (k : ℕ). P k d.generation x) q.0 (subst (λ (k : ℕ). P i k x) q.1 r.0) })
      (λ b. bool_cases (has_id d cs)
      (λ c. let K = find_known P d cs r.1 c in record { load = K.load; found = rw (b, K.found); holds = K.holds })
      (λ c. let q : has_id d sib ≡ true = rw (b, c) at h in
      let K = find_known P d sib r.2 q in
      record { load = K.load; found = rw (b, find_nothing d cs c, K.found); holds = K.holds }))

pub free_slots_are_dead : (a : Slots) (l : List ℕ) (j : ℕ) → FreeR a l → 0 < occ j l → (at a j).live ≡ false
free_slots_are_dead a [] j r z = absurd (omega arith)
free_slots_are_dead a (i ∷ is) j r z =
    eq_cases i j
    (λ e s d. rw e at r.0)
    (λ e s d. free_slots_are_dead a is j r.2 (omega arith))

module _ {X : Type 0} {n : ℕ} {s : Slots} {free : ℕ} {t : Forest X} {fl : List ℕ} (r : Rel n s free t fl) where
  pub nodes_have_their_slots_generation : AllF (λ i g x. ((at s i).generation ≡ g) × ((at s i).live ≡ true)) t
  nodes_have_their_slots_generation = seg_generations s t NIL NIL NIL r.links

  -- below the limit a slot is live just where the forest has it
  pub slot_of_a_node_is_live : (j : ℕ) → 0 < cnt j t → (at s j).live ≡ true
  slot_of_a_node_is_live j c =
      let h = all_at (λ i g x. ((at s i).generation ≡ g) × ((at s i).live ≡ true)) j t nodes_have_their_slots_generation c in h.holds.1

  pub other_slots_are_dead : (j : ℕ) → j < n → cnt j t ≡ 0 → (at s j).live ≡ false
  other_slots_are_dead j h z = let q = r.cover j h in free_slots_are_dead s fl j r.frees (omega arith)

  pub live_just_where_a_node_has_it : (d : NodeId) → is_live n s d ≡ has_id d t
  unfolding is_live
  live_just_where_a_node_has_it d =
      zero_cases (cnt d.index t)
      (λ z. rw (no_id_without_its_index d t z) (go z (dec_lt d.index n)))
      (λ z.
      let o = once r d.index in
      let h = seg_id s d t NIL NIL NIL r.links (omega arith) in
      rw (lt-ltb d.index n (below r d.index (omega arith)), h.0, h.1))
    where
      go : cnt d.index t ≡ 0 → Dec (d.index < n) → (ltb d.index n && ((at s d.index).live && same (at s d.index).generation d.generation)) ≡ false
      go z (yes h) = rw (lt-ltb d.index n h, other_slots_are_dead d.index h z)
      go z (no h) = rw (le-ltb d.index n (omega arith))

  -- a live id is that of a node
  pub live_id : (d : NodeId) → has_id d t ≡ true → (cnt d.index t ≡ 1) × ((at s d.index).generation ≡ d.generation)
  live_id d h =
      zero_cases (cnt d.index t)
      (λ z. let e = no_id_without_its_index d t z in let q : ◌≡◌ {A = ℕ} 0 1 = cc in absurd (omega arith))
      (λ z.
      let o = once r d.index in
      let c : cnt d.index t ≡ 1 = omega arith in
      let k = seg_id s d t NIL NIL NIL r.links c in
      (c, eq_cases (at s d.index).generation d.generation (λ e _ _. e) (λ e s _. let k1 = k.1 in let q : ◌≡◌ {A = ℕ} 0 1 = cc in absurd (omega arith))))

  pub kids_of_a_live_id : (d : NodeId) → has_id d t ≡ true → kids_of d t ≡ kids d.index t
  kids_of_a_live_id d h = kids_by_index s d t NIL NIL NIL r.links (live_id d h).1

  pub set_kids_of_a_live_id : (d : NodeId) (k : Forest X) → has_id d t ≡ true → set_kids_of d k t ≡ set_kids d.index k t
  set_kids_of_a_live_id d k h = set_by_index s d k t NIL NIL NIL r.links (live_id d h).1

  pub cut_of_a_live_id : (d : NodeId) → has_id d t ≡ true → cut_of d t ≡ cut d.index t
  cut_of_a_live_id d h = cut_by_index s d t NIL NIL NIL r.links (live_id d h).1

  pub one_node_has_an_id : (d : NodeId) → wt (λ i g x. cond (has_both d i g) 1 0) t ≤ 1
  one_node_has_an_id d = let h = ids_within_indices d t in let o = once r d.index in omega arith

  -- the id that names a node's slot is the node's
  pub slots_id_is_live : (j : ℕ) → 0 < cnt j t → has_id (id_at s j) t ≡ true
  unfolding is_live
  slots_id_is_live j c =
      sym (live_just_where_a_node_has_it (id_at s j))
      ∙ rw (lt-ltb j n (below r j (omega arith)), slot_of_a_node_is_live j c, same_yes (at s j).generation (at s j).generation refl)

  -- ---- the root, and the free chain

  pub root_is_live : cnt 0 t ≡ 1
  root_is_live = let d = δ-refl 0 in let h = r.root 0 in let q = top_le_cnt 0 t in let o = once r 0 in omega arith

  pub limit_is_positive : 1 ≤ n
  limit_is_positive = let c = root_is_live in let h = below r 0 (omega arith) in omega arith

module _ {X : Type 0} where
  -- either no slot is free, or the head is the first free one
  pub free_cases {ℓ} : {G : Type ℓ} (n : ℕ) (s : Slots) (free : ℕ) (t : Forest X) (fl : List ℕ) → Rel n s free t fl
      → (free ≡ NIL → size t ≡ n → fl ≡ [] → G)
      → ((fl' : List ℕ) → fl ≡ free ∷ fl' → Rel n s free t (free ∷ fl') → free ≢ NIL → size t < n → G) → G
  free_cases n s free t [] r f g = f r.head (let T = r.total in omega arith) refl
  free_cases n s free t (i ∷ is) r f g =
      let e : i ∷ is ≡ free ∷ is = ap (λ (k : ℕ). k ∷ is) (sym r.head) in
      let h = r.head in
      let d = δ-refl i in
      let b = below r i (omega arith) in
      let m = r.small in
      let T = r.total in
      g is e (subst (λ (l : List ℕ). Rel n s free t l) e r) (λ q. omega arith) (omega arith)

  pub full_when_none_is_free : (n : ℕ) (s : Slots) (free : ℕ) (t : Forest X) (fl : List ℕ) → Rel n s free t fl → free ≡ NIL → size t ≡ n
  full_when_none_is_free n s free t fl r e = free_cases n s free t fl r (λ q z _. z) (λ l _ _ q z. absurd (q e))

  pub none_is_free_when_full : (n : ℕ) (s : Slots) (free : ℕ) (t : Forest X) (fl : List ℕ) → Rel n s free t fl → size t ≡ n → free ≡ NIL
  none_is_free_when_full n s free t fl r e = free_cases n s free t fl r (λ q z _. q) (λ l _ _ q z. absurd (omega arith))
