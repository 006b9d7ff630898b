-- A live node's links to its children are those of the forest: the first, the last, all in order, and each one's next. So what the slots
-- answer of children is what the forest says. Assumes nothing.
use Rattle.std.specs.Prelude.{None, Option, Some}
use Rattle.std.proofs.Common.{◌≡◌, ℕ, true, cond, List, map, refl, ap, arith}
use Rattle.field.specs.declared.NodeId.{NodeId}
use Rattle.arithmetic.specs.Tests.{same}
use Rattle.arena.specs.Forest.{Forest, nil, node, or_id, app, has_id, kids_of, ids, first_id, next_id}
use Rattle.arena.specs.Slots.{NIL, Slots, at, id_at, kids_at}
use Rattle.arena.specs.declared.Slot.{Slot}
use Rattle.arithmetic.proofs.TestLaws.{same_no, same_refl, δ-refl, eq_cases, zero_cases}
use Rattle.arena.proofs.Forests.ForestLaws.{first_or, last_or, cnt, kids, cnt_kids_le, ne_by}
use Rattle.arena.proofs.Forests.Segments.{SegR, seg_cut, seg_find}
use Rattle.arena.proofs.Forests.Relations.{Rel}
use Rattle.arena.proofs.Forests.Orders.{tops, children_of_a_node}
use Rattle.arena.proofs.Forests.Ids.{id_by_index, live_id, kids_of_a_live_id}

-- the id at a link
abbrev pub link_id : Slots → ℕ → Option NodeId
link_id s c = cond (same c NIL) None (Some (id_at s c))

or_absent : (o : Option NodeId) → or_id o None ≡ o
or_absent None = refl
or_absent (Some d) = refl

module _ {X : Type 0} where
  ids_tops : (a : Slots) (f : Forest X) (par pv nx : ℕ) → SegR a par pv f nx → map (id_at a) (tops f) ≡ ids f
  ids_tops a nil par pv nx r = refl
  ids_tops a (node i g x cs sib) par pv nx r =
      let e : (at a i).generation ≡ g = ap (λ (s : Slot). s.generation) r.0 in rw (e, ids_tops a sib par i nx r.2)

  pub first_link : (a : Slots) (f : Forest X) (par pv nx : ℕ) → SegR a par pv f nx → cnt NIL f ≡ 0 → link_id a (first_or NIL f) ≡ first_id f
  first_link a nil par pv nx r z = rw (same_refl NIL)
  first_link a (node i g x cs sib) par pv nx r z =
      let d = δ-refl i in
      let e : (at a i).generation ≡ g = ap (λ (s : Slot). s.generation) r.0 in
      rw (same_no i NIL (ne_by (node i g x cs sib) i NIL (omega arith) z), e)

  next_none : (a : Slots) (d : NodeId) (f : Forest X) (par pv nx : ℕ) → SegR a par pv f nx → (at a d.index).generation ≡ d.generation → cnt d.index f ≡ 0 → next_id d f ≡ None
  next_none a d nil par pv nx r e z = refl
  next_none a d (node i g x cs sib) par pv nx r e z =
      eq_cases i d.index (λ q s y. absurd (omega arith)) λ q s y.
      rw (id_by_index a d i g e (ap (λ (s : Slot). s.generation) r.0), s, next_none a d cs i NIL NIL r.1 e (omega arith), next_none a d sib par i nx r.2 e (omega arith))

  next_link : (a : Slots) (d : NodeId) (f : Forest X) (par pv : ℕ) → SegR a par pv f NIL → (at a d.index).generation ≡ d.generation → cnt NIL f ≡ 0 → cnt d.index f ≡ 1
      → link_id a (at a d.index).next_sibling ≡ next_id d f
  next_link a d nil par pv r e z c = absurd (omega arith)
  next_link a d (node i g x cs sib) par pv r e z c =
      let t = id_by_index a d i g e (ap (λ (s : Slot). s.generation) r.0) in
      eq_cases i d.index
      (λ q s _. let n : (at a d.index).next_sibling ≡ first_or NIL sib = ap (λ (s : Slot). s.next_sibling) (rw q at r.0) in
      rw (t, s, n) (first_link a sib par i NIL r.2 (omega arith)))
      (λ q s w. zero_cases (cnt d.index cs)
      (λ y. rw (t, s, next_none a d cs i NIL NIL r.1 e y) (next_link a d sib par i r.2 e (omega arith) (omega arith)))
      (λ y. rw (t, s, next_none a d sib par i NIL r.2 e (omega arith), or_absent (next_id d cs)) (next_link a d cs i NIL r.1 e (omega arith) (omega arith))))

module _ {X : Type 0} {n : ℕ} {s : Slots} {free : ℕ} {t : Forest X} {fl : List ℕ} (r : Rel n s free t fl) where
  pub no_node_is_none : cnt NIL t ≡ 0
  no_node_is_none = let m = r.small in let h = r.inside NIL (omega arith) in omega arith

  -- ---- by index

  pub first_child_of_a_node : (i : ℕ) → cnt i t ≡ 1 → (at s i).first_child ≡ first_or NIL (kids i t)
  first_child_of_a_node i c = (seg_find s i t NIL NIL NIL r.links c).is_first

  pub last_child_of_a_node : (i : ℕ) → cnt i t ≡ 1 → (at s i).last_child ≡ last_or NIL (kids i t)
  last_child_of_a_node i c = (seg_find s i t NIL NIL NIL r.links c).is_last

  pub children_segment : (i : ℕ) → cnt i t ≡ 1 → SegR s i NIL (kids i t) NIL
  children_segment i c = (seg_find s i t NIL NIL NIL r.links c).below

  pub next_sibling_of_a_child : (p i g : ℕ) (x : X) (pre below post : Forest X) → cnt p t ≡ 1 → kids p t ≡ app pre (node i g x below post) → (at s i).next_sibling ≡ first_or NIL post
  next_sibling_of_a_child p i g x pre below post c w =
      let q = seg_cut s pre (node i g x below post) p NIL NIL (rw w at (children_segment p c)) in
      ap (λ (k : Slot). k.next_sibling) q.1.0

  pub ids_of_the_children : (i : ℕ) → cnt i t ≡ 1 → map (id_at s) (kids_at s i) ≡ ids (kids i t)
  ids_of_the_children i c = rw (children_of_a_node r i c) (ids_tops s (kids i t) i NIL NIL (children_segment i c))

  -- ---- by id

  pub ids_of_a_live_ids_children : (d : NodeId) → has_id d t ≡ true → map (id_at s) (kids_at s d.index) ≡ ids (kids_of d t)
  ids_of_a_live_ids_children d h = rw (kids_of_a_live_id r d h) (ids_of_the_children d.index (live_id r d h).0)

  pub first_child_of_a_live_id : (d : NodeId) → has_id d t ≡ true → link_id s (at s d.index).first_child ≡ first_id (kids_of d t)
  first_child_of_a_live_id d h =
      let L = live_id r d h in
      let c = L.0 in
      let z = no_node_is_none in
      let k = cnt_kids_le NIL d.index t (omega arith) in
      rw (kids_of_a_live_id r d h, first_child_of_a_node d.index c) (first_link s (kids d.index t) d.index NIL NIL (children_segment d.index c) (omega arith))

  pub next_sibling_of_a_live_id : (d : NodeId) → has_id d t ≡ true → link_id s (at s d.index).next_sibling ≡ next_id d t
  next_sibling_of_a_live_id d h = let L = live_id r d h in next_link s d t NIL NIL r.links L.1 no_node_is_none L.0
