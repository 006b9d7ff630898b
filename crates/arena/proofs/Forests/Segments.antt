-- Slots that hold a forest: a doubly linked segment for the topmost nodes, and one for each node's children. Assumes nothing.
pub use Rattle.arena.specs.Spelled.{SegR}
use Rattle.std.proofs.Common.{◌≡◌, ℕ, ◌<◌, ◌≤◌, true, ◌≢◌, length, get_or, sym, refl, ap, ◌∙◌, arith, length-set, get_or-set_other, get_or-set_same}
use native.Mathlib.Decide.{dec_lt}
use lib.ListN.{get_or-eq_default}
use Rattle.arena.specs.Forest.{Forest, nil, node, app}
use Rattle.arena.specs.Slots.{NIL, Slots, no_slot, at, put, used, set_first, set_last, set_prev, set_next}
use Rattle.arena.specs.declared.Slot.{Slot}
use Rattle.arithmetic.proofs.TestLaws.{same_yes, same_no, δ-refl, δ-same, eq_cases, zero_cases}
use Rattle.arena.proofs.Forests.ForestLaws.{first_or, last_or, cnt, top, kids, set_kids, first_or_app, first_or_set, last_or_set, kids_none, app_nil, top_le_cnt, ne_by}

pub len_put : (a : Slots) (i : ℕ) (s : Slot) → length (put a i s) ≡ length a
unfolding put
len_put a i s = length-set a i s

pub at_put : (a : Slots) (i : ℕ) (s : Slot) → i < length a → at (put a i s) i ≡ s
unfolding at put
at_put a i s h = get_or-set_same a i s no_slot h

pub at_other : (a : Slots) (i j : ℕ) (s : Slot) → j ≢ i → at (put a i s) j ≡ at a j
unfolding at put
at_other a i j s h = get_or-set_other a i j s no_slot h

-- what is live is in range
pub live_in : (a : Slots) (i : ℕ) → (at a i).live ≡ true → i < length a
unfolding at
live_in a i h = go (dec_lt i (length a))
  where
    go : Dec (i < length a) → i < length a
    go (yes p) = p
    go (no n) =
        let e : get_or a i no_slot ≡ no_slot = get_or-eq_default a no_slot (omega arith) in
        let z : ◌≡◌ {A = ℕ} 0 1 = cc in
        absurd (omega arith)

module _ {X : Type 0} where
  -- frame: only the forest's own slots count
  pub seg_frame : (a b : Slots) (f : Forest X) (par pv nx : ℕ) → ((j : ℕ) → 0 < cnt j f → at b j ≡ at a j) → SegR a par pv f nx → SegR b par pv f nx
  seg_frame a b nil par pv nx h r = tt
  seg_frame a b (node i g x cs sib) par pv nx h r =
      let d = δ-refl i in
      (h i (omega arith) ∙ r.0, seg_frame a b cs i NIL NIL (λ j c. h j (omega arith)) r.1, seg_frame a b sib par i nx (λ j c. h j (omega arith)) r.2)

  pub seg_cut : (a : Slots) (f t : Forest X) (par pv nx : ℕ) → SegR a par pv (app f t) nx → SegR a par pv f (first_or nx t) × SegR a par (last_or pv f) t nx
  seg_cut a nil t par pv nx r = (tt, r)
  seg_cut a (node i g x cs sib) t par pv nx r =
      let h = seg_cut a sib t par i nx r.2 in
      ((r.0 ∙ rw (first_or_app nx sib t), r.1, h.0), h.1)

  pub seg_join : (a : Slots) (f t : Forest X) (par pv nx : ℕ) → SegR a par pv f (first_or nx t) → SegR a par (last_or pv f) t nx → SegR a par pv (app f t) nx
  seg_join a nil t par pv nx r s = s
  seg_join a (node i g x cs sib) t par pv nx r s =
      (r.0 ∙ rw (first_or_app nx sib t), r.1, seg_join a sib t par i nx r.2 s)

  -- another parent's children: replace those of p
  pub seg_set : (a b : Slots) (p : ℕ) (k f : Forest X) (par pv nx : ℕ)
      → ((j : ℕ) → 0 < cnt j (set_kids p nil f) → j ≢ p → at b j ≡ at a j)
      → at b p ≡ set_first (first_or NIL k) (set_last (last_or NIL k) (at a p))
      → SegR b p NIL k NIL → SegR a par pv f nx → SegR b par pv (set_kids p k f) nx
  seg_set a b p k nil par pv nx h o q r = tt
  seg_set a b p k (node i g x cs sib) par pv nx h o q r =
      let d = δ-refl i in
      eq_cases i p
      (λ e s d'.
      let r0 : at a p ≡ used g par (first_or NIL cs) (last_or NIL cs) pv (first_or nx sib) = rw e at r.0 in
      rw (s, first_or_set nx p k sib, e) (o ∙ rw r0, q, rw e at (seg_set a b p k sib par i nx (λ j c. h j (omega arith)) o q r.2)))
      (λ e s d'.
      rw (s, first_or_set nx p k sib, first_or_set NIL p k cs, last_or_set NIL p k cs)
      (h i (omega arith) e ∙ r.0, seg_set a b p k cs i NIL NIL (λ j c. h j (rw s (omega arith))) o q r.1, seg_set a b p k sib par i nx (λ j c. h j (omega arith)) o q r.2))

  -- the node p, found
  pub record Found (a : Slots) (p : ℕ) (f : Forest X) : Type 0 where
    pub below : SegR a p NIL (kids p f) NIL
    pub is_live : (at a p).live ≡ true
    pub is_first : (at a p).first_child ≡ first_or NIL (kids p f)
    pub is_last : (at a p).last_child ≡ last_or NIL (kids p f)

  pub seg_find : (a : Slots) (p : ℕ) (f : Forest X) (par pv nx : ℕ) → SegR a par pv f nx → cnt p f ≡ 1 → Found a p f
  seg_find a p nil par pv nx r z = absurd (omega arith)
  seg_find a p (node i g x cs sib) par pv nx r z =
      eq_cases i p
      (λ e s d.
      let q : kids p (node i g x cs sib) ≡ cs = rw (s, kids_none p sib (omega arith)) (app_nil cs) in
      let r0 : at a p ≡ used g par (first_or NIL cs) (last_or NIL cs) pv (first_or nx sib) = rw e at r.0 in
      record { below = rw q (rw e at r.1); is_live = ap (λ (t : Slot). t.live) r0; is_first = rw q (ap (λ (t : Slot). t.first_child) r0); is_last = rw q (ap (λ (t : Slot). t.last_child) r0) })
      λ e s d. zero_cases (cnt p cs)
      (λ c.
      let q : kids p (node i g x cs sib) ≡ kids p sib = rw (s, kids_none p cs c) in
      let h = seg_find a p sib par i nx r.2 (omega arith) in
      record { below = rw q h.below; is_live = h.is_live; is_first = rw q h.is_first; is_last = rw q h.is_last })
      (λ c.
      let q : kids p (node i g x cs sib) ≡ kids p cs = rw (s, kids_none p sib (omega arith)) (app_nil (kids p cs)) in
      let h = seg_find a p cs i NIL NIL r.1 (omega arith) in
      record { below = rw q h.below; is_live = h.is_live; is_first = rw q h.is_first; is_last = rw q h.is_last })

  pub last_in : (i g : ℕ) (x : X) (cs sib : Forest X) → 0 < top (last_or i sib) (node i g x cs sib)
  last_in i g x cs nil = let d = δ-refl i in omega arith
  last_in i g x cs (node k h y ks sib) = let d = last_in k h y ks sib in omega arith

  -- another node after the last
  pub seg_next : (a b : Slots) (i g : ℕ) (x : X) (cs sib : Forest X) (par pv nx nx' : ℕ)
      → ((j : ℕ) → cnt j (node i g x cs sib) ≤ 1)
      → ((j : ℕ) → 0 < cnt j (node i g x cs sib) → j ≢ last_or i sib → at b j ≡ at a j)
      → at b (last_or i sib) ≡ set_next nx' (at a (last_or i sib))
      → SegR a par pv (node i g x cs sib) nx → SegR b par pv (node i g x cs sib) nx'
  seg_next a b i g x cs nil par pv nx nx' u h l r =
      (l ∙ rw r.0, seg_frame a b cs i NIL NIL (λ j c. h j (omega arith) (λ e. let v = u j in let d = δ-same i j (sym e) in omega arith)) r.1, tt)
  seg_next a b i g x cs (node k m y ks sib) par pv nx nx' u h l r =
      let d = δ-refl i in
      let t = last_in k m y ks sib in
      let c = top_le_cnt (last_or k sib) (node k m y ks sib) in
      let v = u (last_or k sib) in
      let n : i ≢ last_or k sib = λ e. let d' = δ-same i (last_or k sib) e in omega arith in (
        h i (omega arith) n ∙ r.0,
        seg_frame a b cs i NIL NIL (λ j q. h j (omega arith) (λ e. let w : 0 < cnt (last_or k sib) cs = rw e at q in omega arith)) r.1,
        seg_next a b k m y ks sib par i nx nx' (λ j. let w = u j in omega arith) (λ j q. h j (omega arith)) l r.2,
      )

  -- another node before the first
  pub seg_prev : (a b : Slots) (i g : ℕ) (x : X) (cs sib : Forest X) (par pv pv' nx : ℕ)
      → cnt i (node i g x cs sib) ≤ 1
      → ((j : ℕ) → 0 < cnt j (node i g x cs sib) → j ≢ i → at b j ≡ at a j)
      → at b i ≡ set_prev pv' (at a i)
      → SegR a par pv (node i g x cs sib) nx → SegR b par pv' (node i g x cs sib) nx
  seg_prev a b i g x cs sib par pv pv' nx u h l r =
      let d = δ-refl i in (
        l ∙ rw r.0,
        seg_frame a b cs i NIL NIL (λ j c. h j (omega arith) (λ e. let w : 0 < cnt i cs = rw e at c in omega arith)) r.1,
        seg_frame a b sib par i nx (λ j c. h j (omega arith) (λ e. let w : 0 < cnt i sib = rw e at c in omega arith)) r.2,
      )

  pub last_count : (f : Forest X) → last_or NIL f ≢ NIL → 0 < cnt (last_or NIL f) f
  last_count nil h = absurd (h refl)
  last_count (node i g x cs sib) h = let t = last_in i g x cs sib in let c = top_le_cnt (last_or i sib) (node i g x cs sib) in omega arith

  pub seg_next' : (a b : Slots) (f : Forest X) (par pv nx nx' : ℕ)
      → ((j : ℕ) → cnt j f ≤ 1)
      → cnt NIL f ≡ 0
      → ((j : ℕ) → 0 < cnt j f → j ≢ last_or NIL f → at b j ≡ at a j)
      → (last_or NIL f ≢ NIL → at b (last_or NIL f) ≡ set_next nx' (at a (last_or NIL f)))
      → SegR a par pv f nx → SegR b par pv f nx'
  seg_next' a b nil par pv nx nx' u z h l r = tt
  seg_next' a b (node i g x cs sib) par pv nx nx' u z h l r =
      let t = last_in i g x cs sib in
      let c = top_le_cnt (last_or i sib) (node i g x cs sib) in
      seg_next a b i g x cs sib par pv nx nx' u h (l (ne_by (node i g x cs sib) (last_or i sib) NIL (omega arith) z)) r

  pub seg_prev' : (a b : Slots) (f : Forest X) (par pv pv' nx : ℕ)
      → ((j : ℕ) → cnt j f ≤ 1)
      → cnt NIL f ≡ 0
      → ((j : ℕ) → 0 < cnt j f → j ≢ first_or NIL f → at b j ≡ at a j)
      → (first_or NIL f ≢ NIL → at b (first_or NIL f) ≡ set_prev pv' (at a (first_or NIL f)))
      → SegR a par pv f nx → SegR b par pv' f nx
  seg_prev' a b nil par pv pv' nx u z h l r = tt
  seg_prev' a b (node i g x cs sib) par pv pv' nx u z h l r =
      let d = δ-refl i in
      seg_prev a b i g x cs sib par pv pv' nx (u i) h (l (ne_by (node i g x cs sib) i NIL (omega arith) z)) r

  pub first_count : (f : Forest X) → first_or NIL f ≢ NIL → 0 < cnt (first_or NIL f) f
  first_count nil h = absurd (h refl)
  first_count (node i g x cs sib) h = let d = δ-refl i in omega arith

  -- whose child a node is
  pub seg_parent_top : (a : Slots) (i : ℕ) (f : Forest X) (par pv nx : ℕ) → SegR a par pv f nx → 0 < top i f → (at a i).parent ≡ par
  seg_parent_top a i nil par pv nx r z = absurd (omega arith)
  seg_parent_top a i (node y g x cs sib) par pv nx r z =
      eq_cases y i
      (λ e s d. ap (λ (t : Slot). t.parent) (rw e at r.0))
      (λ e s d. seg_parent_top a i sib par y nx r.2 (omega arith))

  pub record Child (i p : ℕ) (f : Forest X) : Type 0 where
    pub there : 0 < cnt p f
    pub child : 0 < top i (kids p f)

  pub seg_parent : (a : Slots) (i : ℕ) (f : Forest X) (par pv nx : ℕ) → SegR a par pv f nx → ((j : ℕ) → cnt j f ≤ 1) → 0 < cnt i f → top i f ≡ 0
      → Child i (at a i).parent f
  seg_parent a i nil par pv nx r u z t = absurd (omega arith)
  seg_parent a i (node y g x cs sib) par pv nx r u z t =
      zero_cases (cnt i cs)
      (λ c.
      let h = seg_parent a i sib par y nx r.2 (λ j. let v = u j in omega arith) (omega arith) (omega arith) in
      let p : ℕ = (at a i).parent in
      let v = u p in
      let th = h.there in
      record { there = omega arith; child = rw (same_no y p (λ e. let d = δ-same y p e in omega arith), kids_none p cs (omega arith)) h.child })
      (λ c. zero_cases (top i cs)
      (λ c'.
      let h = seg_parent a i cs y NIL NIL r.1 (λ j. let v = u j in omega arith) c c' in
      let p : ℕ = (at a i).parent in
      let v = u p in
      let th = h.there in
      record { there = omega arith; child = rw (same_no y p (λ e. let d = δ-same y p e in omega arith), kids_none p sib (omega arith), app_nil (kids p cs)) h.child })
      (λ c'.
      let e : (at a i).parent ≡ y = seg_parent_top a i cs y NIL NIL r.1 c' in
      let d = δ-refl y in
      let v = u y in
      rw e record { there = omega arith; child = rw (same_yes y y refl, kids_none y sib (omega arith), app_nil cs) c' }))

  pub not_last : (f : Forest X) (j : ℕ) → j ≢ NIL → cnt j f ≡ 0 → j ≢ last_or NIL f
  not_last f j n z e = let h = last_count f (λ q. n (e ∙ q)) in let z' : cnt (last_or NIL f) f ≡ 0 = rw e at z in omega arith

  pub not_first : (f : Forest X) (j : ℕ) → j ≢ NIL → cnt j f ≡ 0 → j ≢ first_or NIL f
  not_first f j n z e = let h = first_count f (λ q. n (e ∙ q)) in let z' : cnt (first_or NIL f) f ≡ 0 = rw e at z in omega arith
