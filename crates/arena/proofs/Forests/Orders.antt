-- The order list of the slots is a queue of trees: to take the first tree is to put its children after the rest. So it has each node of
-- the forest once, and the chain of a node's children is its children in order. Assumes nothing.
use Rattle.std.proofs.Common.{◌≡◌, ℕ, zero, suc, ◌+◌, ◌<◌, ◌≤◌, List, [], ◌∷◌, ◌++◌, length, sym, refl, ap, arith, lt-ltb}
use Rattle.arithmetic.specs.Tests.{δ, occ}
use Rattle.arena.specs.Forest.{Forest, nil, node, app, size}
use Rattle.arena.specs.Slots.{NIL, Slots, at, chain, kids_at, order}
use Rattle.arena.specs.declared.Slot.{Slot}
use Rattle.arithmetic.proofs.TestLaws.{δ-refl, eq_cases}
use Rattle.arena.proofs.Forests.ForestLaws.{first_or, cnt, top, kids, wt_rest, size_is_a_sum, cnt_app, size_app, cnt_kids_le}
use Rattle.arena.proofs.Forests.Segments.{SegR, seg_find}
use Rattle.arena.proofs.Forests.Relations.{Rel, below}

module _ {X : Type 0} where
  -- the indices of the topmost nodes in order
  abbrev pub tops : Forest X → List ℕ
  tops nil = []
  tops (node i g x cs sib) = i ∷ tops sib

  -- the first k of the queue
  abbrev pub bfs : ℕ → Forest X → List ℕ
  bfs zero q = []
  bfs (suc k) nil = []
  bfs (suc k) (node i g x cs sib) = i ∷ bfs k (app sib cs)

  -- every index is a slot's
  abbrev pub InRange : Forest X → Type 0
  InRange f = (j : ℕ) → 0 < cnt j f → j < 128

  -- the slots say the children of each tree in the queue
  abbrev pub KidR : Slots → Forest X → Type 0
  KidR a nil = Unit {0}
  KidR a (node i g x cs sib) = ((at a i).first_child ≡ first_or NIL cs) × SegR a i NIL cs NIL × KidR a sib

  pub seg_kid : (a : Slots) (f : Forest X) (par pv nx : ℕ) → SegR a par pv f nx → KidR a f
  seg_kid a nil par pv nx r = tt
  seg_kid a (node i g x cs sib) par pv nx r = (ap (λ (s : Slot). s.first_child) r.0, r.1, seg_kid a sib par i nx r.2)

  pub kid_app : (a : Slots) (f t : Forest X) → KidR a f → KidR a t → KidR a (app f t)
  kid_app a nil t r s = s
  kid_app a (node i g x cs sib) t r s = (r.0, r.1, kid_app a sib t r.2 s)

  pub tops_app : (f t : Forest X) → tops (app f t) ≡ tops f ++ tops t
  tops_app nil t = refl
  tops_app (node i g x cs sib) t = ap (λ (l : List ℕ). i ∷ l) (tops_app sib t)

  pub occ_tops : (j : ℕ) (f : Forest X) → occ j (tops f) ≡ top j f
  occ_tops j nil = refl
  occ_tops j (node i g x cs sib) = ap (λ (n : ℕ). δ i j + n) (occ_tops j sib)

  pub tops_size : (f : Forest X) → length (tops f) ≤ size f
  tops_size nil = omega arith
  tops_size (node i g x cs sib) = let h = tops_size sib in omega arith

  pub chain_tops : (k : ℕ) (a : Slots) (f : Forest X) (par pv : ℕ) → SegR a par pv f NIL → InRange f → size f ≤ k → chain k a (first_or NIL f) ≡ tops f
  unfolding chain
  chain_tops zero a nil par pv r z h = refl
  chain_tops zero a (node i g x cs sib) par pv r z h = absurd (omega arith)
  chain_tops (suc k) a nil par pv r z h = refl
  chain_tops (suc k) a (node i g x cs sib) par pv r z h =
      let d = δ-refl i in
      rw (lt-ltb i 128 (z i (omega arith)), r.0) (ap (λ (l : List ℕ). i ∷ l) (chain_tops k a sib par i r.2 (λ j c. z j (omega arith)) (omega arith)))

  -- the children of a node whose slot is right
  pub kids_tops : (a : Slots) (i : ℕ) (cs : Forest X) → (at a i).first_child ≡ first_or NIL cs → SegR a i NIL cs NIL → InRange cs → size cs ≤ 128 → kids_at a i ≡ tops cs
  unfolding kids_at
  kids_tops a i cs e r z h = rw e (chain_tops 128 a cs i NIL r z h)

  pub order_bfs : (k : ℕ) (a : Slots) (q : Forest X) → KidR a q → InRange q → size q ≤ 128 → order k a (tops q) ≡ bfs k q
  unfolding order
  order_bfs zero a q r z h = refl
  order_bfs (suc k) a nil r z h = refl
  order_bfs (suc k) a (node i g x cs sib) r z h =
      let e1 : kids_at a i ≡ tops cs = kids_tops a i cs r.0 r.1 (λ j c. z j (omega arith)) (omega arith) in
      let w = size_app sib cs in
      rw (e1, ← tops_app sib cs) (ap (λ (l : List ℕ). i ∷ l)
      (order_bfs k a (app sib cs) (kid_app a sib cs r.2 (seg_kid a cs i NIL NIL r.1)) (λ j c. let v = cnt_app j sib cs in z j (omega arith)) (omega arith)))

  -- the queue has each node once
  pub occ_bfs : (j k : ℕ) (q : Forest X) → size q ≤ k → occ j (bfs k q) ≡ cnt j q
  occ_bfs j zero nil h = refl
  occ_bfs j zero (node i g x cs sib) h = absurd (omega arith)
  occ_bfs j (suc k) nil h = refl
  occ_bfs j (suc k) (node i g x cs sib) h =
      let w = size_app sib cs in
      let c = cnt_app j sib cs in
      let I = occ_bfs j k (app sib cs) (omega arith) in omega arith

  pub length_bfs : (k : ℕ) (q : Forest X) → size q ≤ k → length (bfs k q) ≡ size q
  length_bfs zero nil h = refl
  length_bfs zero (node i g x cs sib) h = absurd (omega arith)
  length_bfs (suc k) nil h = refl
  length_bfs (suc k) (node i g x cs sib) h =
      let w = size_app sib cs in
      let I = length_bfs k (app sib cs) (omega arith) in omega arith

  -- ---- the whole tree

  -- one tree with the root
  pub record Rooted (t : Forest X) : Type 0 where
    pub gen : ℕ
    pub load : X
    pub below : Forest X
    pub whole : t ≡ node 0 gen load below nil

  pub one_root : (t : Forest X) → ((j : ℕ) → top j t ≡ δ 0 j) → Rooted t
  one_root nil h = let q = h 0 in let d = δ-refl 0 in absurd (omega arith)
  one_root (node i g x cs nil) h =
      eq_cases 0 i
      (λ e s d. record { gen = g; load = x; below = cs; whole = ap (λ (n : ℕ). node n g x cs nil) (sym e) })
      (λ e s d. let q = h i in let d' = δ-refl i in absurd (omega arith))
  one_root (node i g x cs (node k m y ks sib)) h =
      let q = h i in let d = δ-refl i in
      let q' = h k in let d' = δ-refl k in
      eq_cases 0 i
      (λ e s v. let w : δ i k ≡ δ 0 k = rw (← e) in absurd (omega arith))
      (λ e s v. absurd (omega arith))

  pub rel_in_range : {n : ℕ} {s : Slots} {free : ℕ} {t : Forest X} {fl : List ℕ} → Rel n s free t fl → InRange t
  rel_in_range r j c = let h = below r j (omega arith) in let m = r.small in omega arith

  pub rel_size : {n : ℕ} {s : Slots} {free : ℕ} {t : Forest X} {fl : List ℕ} → Rel n s free t fl → size t ≤ 128
  rel_size r = let h = r.total in let m = r.small in omega arith

  pub tops_of_the_tree : {n : ℕ} {s : Slots} {free : ℕ} {t : Forest X} {fl : List ℕ} → Rel n s free t fl → tops t ≡ 0 ∷ []
  tops_of_the_tree {t = t} r = ap tops (one_root t r.root).whole

  pub order_of_the_tree : {n : ℕ} {s : Slots} {free : ℕ} {t : Forest X} {fl : List ℕ} → Rel n s free t fl → order 128 s (0 ∷ []) ≡ bfs 128 t
  order_of_the_tree {s = s} {t = t} r =
      rw (← tops_of_the_tree r) (order_bfs 128 s t (seg_kid s t NIL NIL NIL r.links) (rel_in_range r) (rel_size r))

  pub order_has_each_once : {n : ℕ} {s : Slots} {free : ℕ} {t : Forest X} {fl : List ℕ} → Rel n s free t fl → (j : ℕ) → occ j (order 128 s (0 ∷ [])) ≡ cnt j t
  order_has_each_once {t = t} r j = rw (order_of_the_tree r) (occ_bfs j 128 t (rel_size r))

  pub order_length : {n : ℕ} {s : Slots} {free : ℕ} {t : Forest X} {fl : List ℕ} → Rel n s free t fl → length (order 128 s (0 ∷ [])) ≡ size t
  order_length {t = t} r = rw (order_of_the_tree r) (length_bfs 128 t (rel_size r))

  -- a live node's children in order
  pub children_of_a_node : {n : ℕ} {s : Slots} {free : ℕ} {t : Forest X} {fl : List ℕ} → Rel n s free t fl → (i : ℕ) → cnt i t ≡ 1 → kids_at s i ≡ tops (kids i t)
  children_of_a_node {s = s} {t = t} r i c =
      let F = seg_find s i t NIL NIL NIL r.links c in
      let w = wt_rest (λ i g x. 1) i t c in
      let w1 = size_is_a_sum t in
      let w2 = size_is_a_sum (kids i t) in
      let m = rel_size r in
      kids_tops s i (kids i t) F.is_first F.below (λ j z. let k = cnt_kids_le j i t (omega arith) in rel_in_range r j (omega arith)) (omega arith)
