-- The hit test over the slots names the node that the forest's recursion names. On both sides each child whose box holds the pixel takes
-- the place of those before it; the slots' descent goes to the last one at once, and stays where there is none. Assumes nothing.
use Rattle.std.specs.Prelude.{None, Option, Some}
use Rattle.boxes.proofs.Hits.HitSteps.{descend_stays}
use mathlib.Core.Path.{◌≡◌, refl, sym, ap, ◌∙◌, subst}
use mathlib.Core.Logic.{◌⊎◌, inl, inr}
use mathlib.Core.Bool.{Bool, true, false, cond}
use mathlib.Core.List.{List}
use Prim.Native.Nat.{ℕ, zero, suc, ◌≤◌, ◌<◌}
use native.Mathlib.Omega.{arith}
use Rattle.field.specs.declared.NodeId.{NodeId}
use Rattle.arena.specs.Slots.{NIL, Slots, at, id_at, kids_at}
use Rattle.boxes.specs.Styles.{layout_at}
use Rattle.boxes.specs.Layout.{holds}
use Rattle.boxes.specs.Hit.{last_of, descend, holds_at, hit_at}
use Rattle.arena.specs.Forest.{Forest, nil, node, size}
use Rattle.boxes.specs.Pointers.{under_pointer}
use Rattle.boxes.specs.Nodes.{Info, hit_f}
use Rattle.arena.specs.declared.Slot.{Slot}
use Rattle.boxes.specs.declared.LayoutSlot.{LayoutSlot}
use Rattle.boxes.specs.declared.Pixel.{Pixel}
use Rattle.arithmetic.proofs.TestLaws.{δ-refl, bool_cases}
use Rattle.arena.proofs.Forests.ForestLaws.{first_or, cnt}
use Rattle.arena.proofs.Forests.Segments.{SegR}
use Rattle.arena.proofs.Forests.Relations.{Rel}
use Rattle.arena.proofs.Forests.Payloads.{AllF, all_map}
use Rattle.arena.proofs.Forests.Orders.{tops, InRange, kids_tops, one_root, rel_in_range, rel_size}
use Rattle.boxes.proofs.Layouts.PassLaws.{Boxed}

-- the forest has a node with the id, and it has the name
pub record NodeNamed (t : Forest Info) (d : NodeId) (m : ℕ) : Type 1 where
  pub load : Info
  pub there : 0 < cnt d.index t
  pub known : (P : ℕ → ℕ → Info → Type 0) → AllF P t → P d.index d.generation load
  pub named : load.name ≡ m

-- an id and a name mean the same node, or both mean none
pub data Names (t : Forest Info) : Option NodeId → Option ℕ → Type 1 where
  neither : Names t None None
  one_node : {d : NodeId} {m : ℕ} → NodeNamed t d m → Names t (Some d) (Some m)

-- ---- the descent by index

abbrev hit : (Info → Bool) → ℕ → Forest Info → ℕ
hit h d nil = d
hit h d (node i g x cs sib) = hit h (cond (h x) (hit h i cs) d) sib

-- the last topmost node that holds the pixel, and its children
abbrev best : (Info → Bool) → ℕ → Forest Info → ℕ
best h d nil = d
best h d (node i g x cs sib) = best h (cond (h x) i d) sib

abbrev under : (Info → Bool) → Forest Info → Forest Info → Forest Info
under h d nil = d
under h d (node i g x cs sib) = under h (cond (h x) cs d) sib

hit_best : (h : Info → Bool) (d i : ℕ) (cs f : Forest Info) → d ≡ hit h i cs → hit h d f ≡ hit h (best h i f) (under h cs f)
hit_best h d i cs nil e = e
hit_best h d i cs (node k g x ks sib) e = hit_best h (cond (h x) (hit h k ks) d) (cond (h x) k i) (cond (h x) ks cs) sib (go (h x))
  where
    go : (b : Bool) → cond b (hit h k ks) d ≡ hit h (cond b k i) (cond b ks cs)
    go true = refl
    go false = e

record NoneHolds (h : Info → Bool) (f : Forest Info) : Type 0 where
  no_best : (d : ℕ) → best h d f ≡ d
  no_under : (u : Forest Info) → under h u f ≡ u

record LastHolds (a : Slots) (P : ℕ → ℕ → Info → Type 0) (h : Info → Bool) (f : Forest Info) : Type 0 where
  who : ℕ
  what : Forest Info
  is_best : (d : ℕ) → best h d f ≡ who
  is_under : (u : Forest Info) → under h u f ≡ what
  first_is : (at a who).first_child ≡ first_or NIL what
  seg : SegR a who NIL what NIL
  every : AllF P what
  less : size what < size f
  counts : (j : ℕ) → cnt j what ≤ cnt j f

best_cases : (a : Slots) (P : ℕ → ℕ → Info → Type 0) (h : Info → Bool) (f : Forest Info) (par pv nx : ℕ) → SegR a par pv f nx → AllF P f → NoneHolds h f ⊎ LastHolds a P h f
best_cases a P h nil par pv nx r p = inl (record { no_best = λ d. refl; no_under = λ u. refl })
best_cases a P h (node i g x cs sib) par pv nx r p = go (best_cases a P h sib par i nx r.2 p.2) (h x) refl
  where
    go : NoneHolds h sib ⊎ LastHolds a P h sib → (b : Bool) → h x ≡ b → NoneHolds h (node i g x cs sib) ⊎ LastHolds a P h (node i g x cs sib)
    go (inr s) b e =
        let l = s.less in
        inr (record {
          who = s.who;
          what = s.what;
          is_best = λ d. s.is_best (cond (h x) i d);
          is_under = λ u. s.is_under (cond (h x) cs u);
          first_is = s.first_is;
          seg = s.seg;
          every = s.every;
          less = omega arith;
          counts = λ j. let c = s.counts j in omega arith;
        })
    go (inl s) true e = inr (record {
      who = i;
      what = cs;
      is_best = λ d. rw e (s.no_best i);
      is_under = λ u. rw e (s.no_under cs);
      first_is = ap (λ (q : Slot). q.first_child) r.0;
      seg = r.1;
      every = p.1;
      less = omega arith;
      counts = λ j. omega arith;
    })
    go (inl s) false e = inl (record { no_best = λ d. rw e (s.no_best d); no_under = λ u. rw e (s.no_under u) })

last_is_best : (p : ℕ → Bool) (h : Info → Bool) (b : ℕ) (f : Forest Info) → AllF (λ i g x. p i ≡ h x) f → last_of p b (tops f) ≡ best h b f
unfolding last_of
last_is_best p h b nil r = refl
last_is_best p h b (node i g x cs sib) r = ap (λ (c : Bool). last_of p (cond c i b) (tops sib)) r.0 ∙ last_is_best p h (cond (h x) i b) sib r.2

descend_hit : (k : ℕ) (s : Slots) (p : ℕ → Bool) (h : Info → Bool) (i : ℕ) (cs : Forest Info) → (at s i).first_child ≡ first_or NIL cs → SegR s i NIL cs NIL
    → AllF (λ i g x. p i ≡ h x) cs → InRange cs → size cs ≤ 128 → size cs ≤ k → descend p k s i ≡ hit h i cs
unfolding descend
descend_hit zero s p h i nil e r al b hn hk = refl
descend_hit zero s p h i (node c g x ks sib) e r al b hn hk = absurd (omega arith)
descend_hit (suc k) s p h i cs e r al b hn hk =
    let P : ℕ → ℕ → Info → Type 0 = λ i g x. p i ≡ h x in
    let q : last_of p i (kids_at s i) ≡ best h i cs = ap (last_of p i) (kids_tops s i cs e r b hn) ∙ last_is_best p h i cs al in
    let hb : hit h i cs ≡ hit h (best h i cs) (under h nil cs) = hit_best h i i nil cs refl in
    elim (best_cases s P h cs i NIL NIL r al) [
      | inl n ↦ descend_stays p (suc k) s i (q ∙ n.no_best i) ∙ sym (hb ∙ ap (λ (u : Forest Info). hit h (best h i cs) u) (n.no_under nil) ∙ n.no_best i)
      | inr m ↦ (let l = m.less in
          ap (descend p k s) (q ∙ m.is_best i)
          ∙ descend_hit k s p h m.who m.what m.first_is m.seg m.every (λ j c. let w = m.counts j in b j (omega arith)) (omega arith) (omega arith)
          ∙ sym (hb ∙ ap (λ (u : Forest Info). hit h (best h i cs) u) (m.is_under nil) ∙ ap (λ (n : ℕ). hit h n m.what) (m.is_best i)))
    ]

-- ---- index and name side by side

record Both (t : Forest Info) (a : Slots) (pixel : Pixel) (i m : ℕ) (f : Forest Info) : Type 1 where
  name : ℕ
  same_name : hit_f pixel (Some m) f ≡ Some name
  node_is : NodeNamed t (id_at a (hit (λ x. holds pixel.x pixel.y x.rect) i f)) name

both_hit : (t : Forest Info) (a : Slots) (pixel : Pixel) (i m : ℕ) (f : Forest Info) (par pv nx : ℕ) → SegR a par pv f nx
    → ((j : ℕ) → cnt j f ≤ cnt j t) → ((P : ℕ → ℕ → Info → Type 0) → AllF P t → AllF P f) → NodeNamed t (id_at a i) m → Both t a pixel i m f
both_hit t a pixel i m nil par pv nx r c al n = record { name = m; same_name = refl; node_is = n }
both_hit t a pixel i m (node k g x cs sib) par pv nx r c al n =
    let h : Info → Bool = λ x. holds pixel.x pixel.y x.rect in
    let e : (at a k).generation ≡ g = ap (λ (s : Slot). s.generation) r.0 in
    let d = δ-refl k in
    let here : NodeNamed t (id_at a k) x.name = record {
      load = x;
      there = let v = c k in omega arith;
      known = λ P q. subst (λ (y : ℕ). P k y x) (sym e) (al P q).0;
      named = refl;
    } in
    let I = both_hit t a pixel k x.name cs k NIL NIL r.1 (λ j. let v = c j in omega arith) (λ P q. (al P q).1) here in
    bool_cases (h x)
    (λ b.
    let J = both_hit t a pixel (hit h k cs) I.name sib par k nx r.2 (λ j. let v = c j in omega arith) (λ P q. (al P q).2) I.node_is in
    record {
      name = J.name;
      same_name = ap (λ (z : Bool). hit_f pixel (cond z (hit_f pixel (Some x.name) cs) (Some m)) sib) b ∙ ap (λ (z : Option ℕ). hit_f pixel z sib) I.same_name ∙ J.same_name;
      node_is = subst (λ (z : Bool). NodeNamed t (id_at a (hit h (cond z (hit h k cs) i) sib)) J.name) (sym b) J.node_is;
    })
    (λ b.
    let J = both_hit t a pixel i m sib par k nx r.2 (λ j. let v = c j in omega arith) (λ P q. (al P q).2) n in
    record {
      name = J.name;
      same_name = ap (λ (z : Bool). hit_f pixel (cond z (hit_f pixel (Some x.name) cs) (Some m)) sib) b ∙ J.same_name;
      node_is = subst (λ (z : Bool). NodeNamed t (id_at a (hit h (cond z (hit h k cs) i) sib)) J.name) (sym b) J.node_is;
    })

from_the_root : (a : Slots) (l : List LayoutSlot) (pixel : Pixel) (g : ℕ) (x : Info) (cs : Forest Info) → SegR a NIL NIL (node 0 g x cs nil) NIL → Boxed l (node 0 g x cs nil)
    → InRange (node 0 g x cs nil) → size cs ≤ 128 → Names (node 0 g x cs nil) (hit_at a l pixel) (hit_f pixel None (node 0 g x cs nil))
unfolding hit_at holds_at
from_the_root a l pixel g x cs r bx b hn =
    let t : Forest Info = node 0 g x cs nil in
    let h : Info → Bool = λ x. holds pixel.x pixel.y x.rect in
    let p : ℕ → Bool = λ i. holds pixel.x pixel.y (layout_at l i).rect in
    let e : (at a 0).generation ≡ g = ap (λ (s : Slot). s.generation) r.0 in
    let d = δ-refl 0 in
    let al : AllF (λ i g x. p i ≡ h x) cs = all_map (λ i g x. (layout_at l i).rect ≡ x.rect) (λ i g x. p i ≡ h x) cs (λ i g x _ q. ap (holds pixel.x pixel.y) q) bx.1 in
    let p0 : p 0 ≡ h x = ap (holds pixel.x pixel.y) bx.0 in
    let D : descend p 128 a 0 ≡ hit h 0 cs = descend_hit 128 a p h 0 cs (ap (λ (s : Slot). s.first_child) r.0) r.1 al (λ j c. b j (omega arith)) hn hn in
    let B = both_hit t a pixel 0 x.name cs 0 NIL NIL r.1 (λ j. omega arith) (λ P q. q.1)
    (record { load = x; there = omega arith; known = λ P q. subst (λ (y : ℕ). P 0 y x) (sym e) q.0; named = refl }) in
    bool_cases (h x)
    (λ c. subst (λ (z : Bool). Names t (cond z (Some (id_at a (descend p 128 a 0))) None) (hit_f pixel None t)) (sym (p0 ∙ c))
    (subst (λ (z : Bool). Names t (Some (id_at a (descend p 128 a 0))) (cond z (hit_f pixel (Some x.name) cs) None)) (sym c)
    (subst (λ (z : ℕ). Names t (Some (id_at a z)) (hit_f pixel (Some x.name) cs)) (sym D)
    (subst (λ (z : Option ℕ). Names t (Some (id_at a (hit h 0 cs))) z) (sym B.same_name) (one_node B.node_is)))))
    (λ c. subst (λ (z : Bool). Names t (cond z (Some (id_at a (descend p 128 a 0))) None) (hit_f pixel None t)) (sym (p0 ∙ c))
    (subst (λ (z : Bool). Names t None (cond z (hit_f pixel (Some x.name) cs) None)) (sym c) neither))

the_hit_test_names_the_forests_node : {n : ℕ} {free : ℕ} {t : Forest Info} {fl : List ℕ} (a : Slots) (l : List LayoutSlot) (pixel : Pixel)
    → Rel n a free t fl → Boxed l t → Names t (hit_at a l pixel) (hit_f pixel None t)
the_hit_test_names_the_forests_node {t = t} a l pixel r bx =
    let R = one_root t r.root in
    let w = R.whole in
    let sz : size t ≡ size (node 0 R.gen R.load R.below nil) = ap size w in
    let hn = rel_size r in
    subst (λ (z : Forest Info). Names z (hit_at a l pixel) (hit_f pixel None z)) (sym w)
    (from_the_root a l pixel R.gen R.load R.below
    (subst (λ (z : Forest Info). SegR a NIL NIL z NIL) w r.links)
    (subst (λ (z : Forest Info). Boxed l z) w bx)
    (subst (λ (z : Forest Info). InRange z) w (rel_in_range r)) (omega arith))

-- so it is under the pointer, and where the pointer is nowhere neither names a node
pub the_pointer_names_the_forests_node : {n : ℕ} {free : ℕ} {t : Forest Info} {fl : List ℕ} (a : Slots) (l : List LayoutSlot) (pointer : Option Pixel)
    → Rel n a free t fl → Boxed l t → Names t (under_pointer None (hit_at a l) pointer) (under_pointer None (λ pixel. hit_f pixel None t) pointer)
the_pointer_names_the_forests_node a l None r bx = neither
the_pointer_names_the_forests_node a l (Some pixel) r bx = the_hit_test_names_the_forests_node a l pixel r bx

-- ---- what it says either way

pub no_name_no_id : {t : Forest Info} {o : Option NodeId} {m : Option ℕ} → Names t o m → m ≡ None → o ≡ None
no_name_no_id neither e = refl
no_name_no_id (one_node n) e = let z : ◌≡◌ {A = ℕ} 0 1 = cc in absurd (omega arith)

pub record NodeHit (t : Forest Info) (o : Option NodeId) (m : ℕ) : Type 1 where
  pub id : NodeId
  pub is_the_id : o ≡ Some id
  pub node_named : NodeNamed t id m

pub a_name_has_its_node : {t : Forest Info} {o : Option NodeId} {m : Option ℕ} → Names t o m → (k : ℕ) → m ≡ Some k → NodeHit t o k
a_name_has_its_node neither k e = let z : ◌≡◌ {A = ℕ} 0 1 = cc in absurd (omega arith)
a_name_has_its_node (one_node {d} {m} n) k e =
    let q : m ≡ k = cc in
    record { id = d; is_the_id = refl; node_named = record { load = n.load; there = n.there; known = n.known; named = n.named ∙ q } }
