-- The order of freeing lists a tree's nodes, each before those below it and last child first, so it has each node once. To free slots in
-- an order puts them before the free chain one by one: the last is the new head, and no other slot changes. Assumes nothing.
use Rattle.std.proofs.Common.{◌≡◌, ℕ, zero, suc, ◌+◌, ◌-◌, ◌^◌, ◌<◌, ◌≤◌, List, [], ◌∷◌, ◌++◌, length, sym, refl, ap, ◌∙◌, append_assoc, append-nil, mod-eq_of_lt, zero-add, arith, length-append, lt-ltb}
use Rattle.arithmetic.specs.Tests.{occ, head_or, final_or}
use Rattle.arena.specs.Forest.{Forest, nil, node, size}
use Rattle.arena.specs.Slots.{NIL, Slots, at, put, idle, kids_at, joined, backwards, free_order, next_generation, freed}
use Rattle.arena.specs.Support.Lists.{chain_back, back_order}
use Rattle.arena.specs.declared.Slot.{Slot}
use Rattle.arithmetic.proofs.TestLaws.{δ-refl, δ-same, eq_cases}
use Rattle.arena.proofs.Forests.ForestLaws.{first_or, last_or, cnt}
use Rattle.arena.proofs.Forests.Segments.{len_put, at_put, at_other, SegR}
use Rattle.arena.proofs.Forests.Relations.{FreeR, free_frame}
use Rattle.arena.proofs.Forests.Orders.{InRange, tops, tops_size, kids_tops}

-- ---- lists

pub occ_append : (j : ℕ) (l m : List ℕ) → occ j (l ++ m) ≡ occ j l + occ j m
occ_append j [] m = omega arith
occ_append j (i ∷ is) m = let h = occ_append j is m in omega arith

joined_append : (f : ℕ → List ℕ) (l m : List ℕ) → joined f (l ++ m) ≡ joined f l ++ joined f m
joined_append f [] m = refl
joined_append f (i ∷ is) m = rw (joined_append f is m) (sym (append_assoc (f i) (joined f is) (joined f m)))

joined_behind : (f g : ℕ → List ℕ) (l : List ℕ) (i : ℕ) → joined f l ≡ joined g l → f i ≡ g i → joined f (l ++ (i ∷ [])) ≡ joined g (l ++ (i ∷ []))
joined_behind f g l i e h =
    joined_append f l (i ∷ []) ∙ ap (λ (m : List ℕ). m ++ (f i ++ [])) e ∙ ap (λ (m : List ℕ). joined g l ++ (m ++ [])) h ∙ sym (joined_append g l (i ∷ []))

-- the free chain after slots are freed in an order
abbrev pub pushed : List ℕ → List ℕ → List ℕ
pushed [] l = l
pushed (i ∷ is) l = pushed is (i ∷ l)

pub occ_pushed : (j : ℕ) (o l : List ℕ) → occ j (pushed o l) ≡ occ j o + occ j l
occ_pushed j [] l = omega arith
occ_pushed j (i ∷ is) l = let h = occ_pushed j is (i ∷ l) in omega arith

pub length_pushed : (o l : List ℕ) → length (pushed o l) ≡ length o + length l
length_pushed [] l = omega arith
length_pushed (i ∷ is) l = let h = length_pushed is (i ∷ l) in omega arith

pub head_pushed : (o l : List ℕ) (h : ℕ) → h ≡ head_or NIL l → final_or h o ≡ head_or NIL (pushed o l)
head_pushed [] l h e = e
head_pushed (i ∷ is) l h e = head_pushed is (i ∷ l) i refl

-- ---- one more than a generation

pub aged_suc : (g : ℕ) → g < 18446744073709551615 → next_generation g ≡ suc g
unfolding next_generation
aged_suc g h = let k : g + 1 < 2 ^ 64 = omega arith in mod-eq_of_lt k ∙ omega arith

-- ---- slots freed

pub freed_length : (s : Slots) (h : ℕ) (o : List ℕ) → length (freed s h o) ≡ length s
unfolding freed
freed_length s h [] = refl
freed_length s h (i ∷ is) = freed_length (put s i (idle (next_generation (at s i).generation) h)) i is ∙ len_put s i (idle (next_generation (at s i).generation) h)

pub freed_other : (s : Slots) (h : ℕ) (o : List ℕ) (j : ℕ) → occ j o ≡ 0 → at (freed s h o) j ≡ at s j
unfolding freed
freed_other s h [] j z = refl
freed_other s h (i ∷ is) j z =
    freed_other (put s i (idle (next_generation (at s i).generation) h)) i is j (omega arith)
    ∙ at_other s i j (idle (next_generation (at s i).generation) h) (λ e. let d = δ-same i j (sym e) in omega arith)

-- a listed slot is dead and one generation older
pub freed_slot : (s : Slots) (h : ℕ) (o : List ℕ) (j : ℕ) → occ j o ≡ 1 → j < length s
    → at (freed s h o) j ≡ idle (next_generation (at s j).generation) (at (freed s h o) j).next_sibling
unfolding freed
freed_slot s h [] j z l = absurd (omega arith)
freed_slot s h (i ∷ is) j z l =
    let x : Slot = idle (next_generation (at s i).generation) h in
    let m = len_put s i x in
    eq_cases i j
    (λ e t d.
    let q : at (freed (put s i x) i is) j ≡ idle (next_generation (at s j).generation) h = freed_other (put s i x) i is j (omega arith) ∙ rw (← e) (at_put s i x (rw e l)) in
    rw q)
    (λ e t d.
    let q : at (put s i x) j ≡ at s j = at_other s i j x (λ w. e (sym w)) in
    let I = freed_slot (put s i x) i is j (omega arith) (omega arith) in
    I ∙ ap (λ (v : Slot). idle (next_generation v.generation) (at (freed (put s i x) i is) j).next_sibling) q)

-- the free chain grows by the order
pub freed_chain : (s : Slots) (h : ℕ) (o l : List ℕ) → ((j : ℕ) → occ j o + occ j l ≤ 1) → ((j : ℕ) → 0 < occ j o → j < length s) → h ≡ head_or NIL l → FreeR s l
    → FreeR (freed s h o) (pushed o l)
unfolding freed
freed_chain s h [] l u b e r = r
freed_chain s h (i ∷ is) l u b e r =
    let x : Slot = idle (next_generation (at s i).generation) h in
    let d = δ-refl i in
    let v = u i in
    let m = len_put s i x in
    let a : at (put s i x) i ≡ x = at_put s i x (b i (omega arith)) in
    freed_chain (put s i x) i is (i ∷ l) (λ j. let w = u j in omega arith) (λ j c. let w = b j (omega arith) in omega arith) refl
    (rw a, rw a e, free_frame s (put s i x) l (λ j c. at_other s i j x (λ q. let c' : 0 < occ i l = rw q at c in omega arith)) r)

-- ---- the order of freeing

back_nil : (k : ℕ) (a : Slots) → chain_back k a NIL ≡ []
unfolding chain_back
back_nil zero a = refl
back_nil (suc k) a = refl

back_suc : (k : ℕ) (a : Slots) (c : ℕ) → c < 128 → chain_back (suc k) a c ≡ c ∷ chain_back k a (at a c).prev_sibling
unfolding chain_back
back_suc k a c h = rw (lt-ltb c 128 h)

module _ {X : Type 0} where
  -- the nodes, last tree first, each before those below it
  abbrev pub last_first : Forest X → List ℕ
  last_first nil = []
  last_first (node i g x cs sib) = last_first sib ++ (i ∷ last_first cs)

  -- the topmost nodes, last first
  abbrev pub tops_back : Forest X → List ℕ
  tops_back f = backwards (tops f)

  pub occ_last_first : (j : ℕ) (f : Forest X) → occ j (last_first f) ≡ cnt j f
  occ_last_first j nil = refl
  occ_last_first j (node i g x cs sib) =
      let h = occ_last_first j cs in let h' = occ_last_first j sib in let e = occ_append j (last_first sib) (i ∷ last_first cs) in omega arith

  pub length_last_first : (f : Forest X) → length (last_first f) ≡ size f
  length_last_first nil = refl
  length_last_first (node i g x cs sib) =
      let h = length_last_first cs in let h' = length_last_first sib in let e = length-append (last_first sib) (i ∷ last_first cs) in omega arith

  back_from : (f : Forest X) (k : ℕ) (a : Slots) (par pv nx : ℕ) → SegR a par pv f nx → InRange f
      → chain_back (length (tops f) + k) a (last_or pv f) ≡ tops_back f ++ chain_back k a pv
  back_from nil k a par pv nx r z = ap (λ (m : ℕ). chain_back m a pv) (zero-add k)
  back_from (node i g x cs sib) k a par pv nx r z =
      let d = δ-refl i in
      let n : length (tops (node i g x cs sib)) + k ≡ length (tops sib) + suc k = omega arith in
      let v : (at a i).prev_sibling ≡ pv = ap (λ (s : Slot). s.prev_sibling) r.0 in
      ap (λ (m : ℕ). chain_back m a (last_or i sib)) n ∙ back_from sib (suc k) a par i nx r.2 (λ j c. z j (omega arith))
      ∙ ap (λ (l : List ℕ). tops_back sib ++ l) (back_suc k a i (z i (omega arith)) ∙ ap (λ (c : ℕ). i ∷ chain_back k a c) v)
      ∙ sym (append_assoc (tops_back sib) (i ∷ []) (chain_back k a pv))

  -- the children of a node, last first
  pub chain_back_tops : (a : Slots) (f : Forest X) (par nx : ℕ) → SegR a par NIL f nx → InRange f → size f ≤ 128 → chain_back 128 a (last_or NIL f) ≡ tops_back f
  chain_back_tops a f par nx r z h =
      let m = tops_size f in
      let n : 128 ≡ length (tops f) + (128 - length (tops f)) = omega arith in
      ap (λ (k : ℕ). chain_back k a (last_or NIL f)) n ∙ back_from f (128 - length (tops f)) a par NIL nx r z
      ∙ ap (λ (l : List ℕ). tops_back f ++ l) (back_nil (128 - length (tops f)) a) ∙ append-nil (tops_back f)

  free_orders : (f : Forest X) (d : ℕ) (a : Slots) (par pv nx : ℕ) → SegR a par pv f nx → InRange f → size f ≤ 128 → size f ≤ d → joined (free_order d a) (tops_back f) ≡ last_first f
  unfolding free_order
  free_orders nil d a par pv nx r z h k = refl
  free_orders (node i g x cs sib) zero a par pv nx r z h k = absurd (omega arith)
  free_orders (node i g x cs sib) (suc d) a par pv nx r z h k =
      let b : kids_at a i ≡ tops cs = kids_tops a i cs (ap (λ (s : Slot). s.first_child) r.0) r.1 (λ j c. z j (omega arith)) (omega arith) in
      let I = free_orders cs d a i NIL NIL r.1 (λ j c. z j (omega arith)) (omega arith) (omega arith) in
      let J = free_orders sib (suc d) a par i nx r.2 (λ j c. z j (omega arith)) (omega arith) (omega arith) in
      joined_append (free_order (suc d) a) (tops_back sib) (i ∷ [])
      ∙ rw (J, b, I) (ap (λ (l : List ℕ). last_first sib ++ l) (append-nil (i ∷ last_first cs)))

  -- the node, then all below it
  pub free_order_of_a_tree : (d : ℕ) (a : Slots) (i : ℕ) (cs : Forest X) → (at a i).first_child ≡ first_or NIL cs → SegR a i NIL cs NIL → InRange cs → size cs ≤ 128 → size cs ≤ d
      → free_order (suc d) a i ≡ i ∷ last_first cs
  unfolding free_order
  free_order_of_a_tree d a i cs e r z h k =
      ap (λ (l : List ℕ). i ∷ l) (ap (λ (l : List ℕ). joined (free_order d a) (backwards l)) (kids_tops a i cs e r z h) ∙ free_orders cs d a i NIL NIL r z h k)

  -- ---- the walk by previous links lists the same

  back_step : (d : ℕ) (a : Slots) (i : ℕ) (cs : Forest X) → (at a i).first_child ≡ first_or NIL cs → (at a i).last_child ≡ last_or NIL cs → SegR a i NIL cs NIL → InRange cs → size cs ≤ 128
      → joined (back_order d a) (tops_back cs) ≡ joined (free_order d a) (tops_back cs) → back_order (suc d) a i ≡ free_order (suc d) a i
  unfolding free_order back_order
  back_step d a i cs e l r z h I =
      ap (λ (m : List ℕ). i ∷ m)
      (ap (λ (c : ℕ). joined (back_order d a) (chain_back 128 a c)) l ∙ ap (joined (back_order d a)) (chain_back_tops a cs i NIL r z h) ∙ I
      ∙ ap (λ (m : List ℕ). joined (free_order d a) (backwards m)) (sym (kids_tops a i cs e r z h)))

  back_orders : (f : Forest X) (d : ℕ) (a : Slots) (par pv nx : ℕ) → SegR a par pv f nx → InRange f → size f ≤ 128 → joined (back_order d a) (tops_back f) ≡ joined (free_order d a) (tops_back f)
  unfolding free_order back_order
  back_orders nil d a par pv nx r z h = refl
  back_orders (node i g x cs sib) zero a par pv nx r z h =
      joined_behind (back_order zero a) (free_order zero a) (tops_back sib) i (back_orders sib zero a par i nx r.2 (λ j c. z j (omega arith)) (omega arith)) refl
  back_orders (node i g x cs sib) (suc d) a par pv nx r z h =
      joined_behind (back_order (suc d) a) (free_order (suc d) a) (tops_back sib) i (back_orders sib (suc d) a par i nx r.2 (λ j c. z j (omega arith)) (omega arith))
      (back_step d a i cs (ap (λ (s : Slot). s.first_child) r.0) (ap (λ (s : Slot). s.last_child) r.0) r.1 (λ j c. z j (omega arith)) (omega arith)
      (back_orders cs d a i NIL NIL r.1 (λ j c. z j (omega arith)) (omega arith)))

  pub the_walk_back_lists_the_order : (d : ℕ) (a : Slots) (i : ℕ) (cs : Forest X) → (at a i).first_child ≡ first_or NIL cs → (at a i).last_child ≡ last_or NIL cs → SegR a i NIL cs NIL → InRange cs → size cs ≤ 128
      → back_order (suc d) a i ≡ free_order (suc d) a i
  the_walk_back_lists_the_order d a i cs e l r z h = back_step d a i cs e l r z h (back_orders cs d a i NIL NIL r z h)
