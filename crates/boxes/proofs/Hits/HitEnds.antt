-- A hit test ends at a node that holds the pixel and none of whose children does: each step goes down in a forest of at most 128 nodes, so
-- that 128 steps are enough. Assumes nothing.
use Rattle.std.specs.Prelude.{None, Some}
use mathlib.Core.Path.{◌≡◌, refl, sym, ap, ◌∙◌, subst}
use mathlib.Core.Logic.{◌⊎◌, inl, inr}
use mathlib.Core.Bool.{Bool, true, false, cond}
use mathlib.Core.List.{List, [], ◌∷◌}
use Prim.Native.Nat.{ℕ, zero, suc, ◌≤◌, ◌<◌}
use native.Mathlib.Omega.{arith}
use Rattle.arithmetic.specs.Tests.{occ}
use Rattle.field.specs.declared.NodeId.{NodeId}
use Rattle.arena.specs.Slots.{NIL, Slots, at, kids_at, id_at}
use Rattle.boxes.specs.Hit.{last_of, descend, holds_at, hit_at}
use Rattle.arena.specs.Forest.{Forest, nil, node, size}
use Rattle.arena.specs.declared.Slot.{Slot}
use Rattle.boxes.specs.declared.LayoutSlot.{LayoutSlot}
use Rattle.boxes.specs.declared.Pixel.{Pixel}
use Rattle.arithmetic.proofs.TestLaws.{eq_cases, bool_cases}
use Rattle.arena.proofs.Forests.ForestLaws.{first_or, cnt, top}
use Rattle.arena.proofs.Forests.Segments.{SegR}
use Rattle.arena.proofs.Forests.Relations.{Rel}
use Rattle.arena.proofs.Forests.Orders.{tops, occ_tops, InRange, kids_tops, one_root, rel_in_range, rel_size}
use Rattle.boxes.proofs.Hits.HitSteps.{descend_stays}

-- no child of the slot passes
abbrev Ends : Slots → (ℕ → Bool) → ℕ → Type 0
Ends a p i = (c : ℕ) → 0 < occ c (kids_at a i) → p c ≡ false

module _ {X : Type 0} (a : Slots) (p : ℕ → Bool) where
  -- none of the topmost nodes passes, or the last one that does has its children below it
  record NonePasses (f : Forest X) : Type 0 where
    stays : (d : ℕ) → last_of p d (tops f) ≡ d
    none : (c : ℕ) → 0 < top c f → p c ≡ false

  record LastPasses (f : Forest X) : Type 0 where
    who : ℕ
    what : Forest X
    is_last : (d : ℕ) → last_of p d (tops f) ≡ who
    is_the_first : (at a who).first_child ≡ first_or NIL what
    seg : SegR a who NIL what NIL
    less : size what < size f
    counts : (j : ℕ) → cnt j what ≤ cnt j f

  last_cases : (f : Forest X) (par pv nx : ℕ) → SegR a par pv f nx → NonePasses f ⊎ LastPasses f
  unfolding last_of
  last_cases nil par pv nx r = inl (record { stays = λ d. refl; none = λ c z. absurd (omega arith) })
  last_cases (node i g x cs sib) par pv nx r = go (last_cases sib par i nx r.2) (p i) refl
    where
      go : NonePasses sib ⊎ LastPasses sib → (b : Bool) → p i ≡ b → NonePasses (node i g x cs sib) ⊎ LastPasses (node i g x cs sib)
      go (inr m) b e =
          let l = m.less in
          inr (record {
            who = m.who;
            what = m.what;
            is_last = λ d. m.is_last (cond (p i) i d);
            is_the_first = m.is_the_first;
            seg = m.seg;
            less = omega arith;
            counts = λ j. let c = m.counts j in omega arith;
          })
      go (inl n) true e = inr (record {
        who = i;
        what = cs;
        is_last = λ d. ap (λ (b : Bool). last_of p (cond b i d) (tops sib)) e ∙ n.stays i;
        is_the_first = ap (λ (q : Slot). q.first_child) r.0;
        seg = r.1;
        less = omega arith;
        counts = λ j. omega arith;
      })
      go (inl n) false e = inl (record {
        stays = λ d. ap (λ (b : Bool). last_of p (cond b i d) (tops sib)) e ∙ n.stays d;
        none = λ c z. eq_cases i c (λ q _ _. ap p (sym q) ∙ e) (λ q _ d. n.none c (omega arith));
      })

  ends_below : (k i : ℕ) (cs : Forest X) → (at a i).first_child ≡ first_or NIL cs → SegR a i NIL cs NIL → InRange cs → size cs ≤ 128 → size cs ≤ k → Ends a p (descend p k a i)
  unfolding descend
  ends_below zero i nil e r b hn hk = λ c z. let z' : 0 < occ c (kids_at a i) = z in let q : occ c (kids_at a i) ≡ 0 = ap (occ c) (kids_tops {X = X} a i nil e r b hn) in absurd (omega arith)
  ends_below zero i (node j g x ks sib) e r b hn hk = absurd (omega arith)
  ends_below (suc k) i cs e r b hn hk =
      let w : kids_at a i ≡ tops cs = kids_tops a i cs e r b hn in
      let q : last_of p i (kids_at a i) ≡ last_of p i (tops cs) = ap (last_of p i) w in
      elim (last_cases cs i NIL NIL r) [
        | inl n ↦ subst (Ends a p) (sym (descend_stays p (suc k) a i (q ∙ n.stays i)))
            (λ c z. n.none c (let o = occ_tops c cs in let v = ap (occ c) w in omega arith))
        | inr m ↦ (let l = m.less in
            subst (λ (j : ℕ). Ends a p (descend p k a j)) (sym (q ∙ m.is_last i))
            (ends_below k m.who m.what m.is_the_first m.seg (λ j c. let v = m.counts j in b j (omega arith)) (omega arith) (omega arith)))
      ]

-- what is named passes, as what the descent starts at does
last_passes : (p : ℕ → Bool) (d : ℕ) (l : List ℕ) → p d ≡ true → p (last_of p d l) ≡ true
unfolding last_of
last_passes p d [] e = e
last_passes p d (i ∷ is) e = last_passes p (cond (p i) i d) is (go (p i) refl)
  where
    go : (b : Bool) → p i ≡ b → p (cond b i d) ≡ true
    go true h = h
    go false h = e

descent_passes : (p : ℕ → Bool) (k : ℕ) (s : Slots) (i : ℕ) → p i ≡ true → p (descend p k s i) ≡ true
unfolding descend
descent_passes p zero s i e = e
descent_passes p (suc k) s i e = descent_passes p k s (last_of p i (kids_at s i)) (last_passes p i (kids_at s i) e)

module _ {X : Type 0} {n : ℕ} {s : Slots} {free : ℕ} {t : Forest X} {fl : List ℕ} (r : Rel n s free t fl) where
  descent_ends : (p : ℕ → Bool) → Ends s p (descend p 128 s 0)
  descent_ends p =
      let R = one_root t r.root in
      let q : SegR s NIL NIL (node 0 R.gen R.load R.below nil) NIL = subst (λ (f : Forest X). SegR s NIL NIL f NIL) R.whole r.links in
      let z : InRange (node 0 R.gen R.load R.below nil) = subst (λ (f : Forest X). InRange f) R.whole (rel_in_range r) in
      let m = rel_size r in
      let v : size t ≡ size (node 0 R.gen R.load R.below nil) = ap size R.whole in
      ends_below s p 128 0 R.below (ap (λ (x : Slot). x.first_child) q.0) q.1 (λ j c. z j (omega arith)) (omega arith) (omega arith)

  -- the node hit holds the pixel, and none of its children does
  pub a_hit_test_goes_all_the_way_down : (l : List LayoutSlot) (pixel : Pixel) (d : NodeId) → hit_at s l pixel ≡ Some d
      → (holds_at l pixel d.index ≡ true) × ((c : ℕ) → 0 < occ c (kids_at s d.index) → holds_at l pixel c ≡ false)
  unfolding hit_at
  a_hit_test_goes_all_the_way_down l pixel d e =
      let p : ℕ → Bool = holds_at l pixel in
      bool_cases (p 0)
      (λ b.
      let w : Some (id_at s (descend p 128 s 0)) ≡ Some d = rw b at e in
      let v : id_at s (descend p 128 s 0) ≡ d = cc in
      let i : descend p 128 s 0 ≡ d.index = ap (λ (x : NodeId). x.index) v in
      (ap p (sym i) ∙ descent_passes p 128 s 0 b, subst (Ends s p) i (descent_ends p)))
      (λ b. let w : None ≡ Some d = rw b at e in let z : ◌≡◌ {A = ℕ} 0 1 = cc in absurd (omega arith))
