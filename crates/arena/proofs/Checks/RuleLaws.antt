-- Slots that hold a forest keep the link rules: what is reached from the root is the forest's nodes, each once, the free chain is the
-- free list, and each node's chain of children is the forest's. Assumes nothing.
use Rattle.std.proofs.Common.{◌≡◌, ℕ, zero, suc, ◌+◌, ◌<◌, ◌≤◌, Bool, true, ◌&&◌, ltb, List, [], ◌∷◌, length, sym, refl, ap, ◌∙◌, subst, arith, lt-ltb}
use native.Mathlib.Decide.{dec_lt}
use Rattle.arithmetic.specs.Tests.{same, occ, head_or, final_or, from_to, all}
use Rattle.arena.specs.Forest.{Forest, nil, node, size}
use Rattle.arena.specs.Slots.{NIL, Slots, at, used, chain, order}
use Rattle.arena.specs.Rules.{aliveness, kids_well, node_well, free_well, each_once, root_well, linked}
use Rattle.arena.specs.declared.Slot.{Slot}
use Rattle.arithmetic.proofs.TestLaws.{same_yes, same_refl, δ-refl, zero_cases}
use Rattle.arena.proofs.Forests.ForestLaws.{first_or, last_or, cnt, kids}
use Rattle.arena.proofs.Forests.Segments.{SegR}
use Rattle.arena.proofs.Forests.Relations.{Rel, FreeR, once, below}
use Rattle.arena.proofs.Forests.Orders.{tops, one_root, order_has_each_once, order_length, children_of_a_node}
use Rattle.arena.proofs.Forests.Starts.{occ_after}
use Rattle.arena.proofs.Forests.Ids.{slot_of_a_node_is_live, other_slots_are_dead}
use Rattle.arena.proofs.Forests.ChildLinks.{first_child_of_a_node, last_child_of_a_node, children_segment}

pub both_true : (a b : Bool) → a ≡ true → b ≡ true → (a && b) ≡ true
both_true a b e h = rw (e, h)

-- a test that holds of what occurs holds of all
pub all_that_occur : (p : ℕ → Bool) (l : List ℕ) → ((j : ℕ) → 0 < occ j l → p j ≡ true) → all p l ≡ true
all_that_occur p [] h = refl
all_that_occur p (i ∷ is) h = let d = δ-refl i in both_true (p i) (all p is) (h i (omega arith)) (all_that_occur p is (λ j c. h j (omega arith)))

pub occurs_below : (n j : ℕ) → 0 < occ j (from_to 0 n) → j < n
occurs_below n j c = go (dec_lt j n)
  where
    go : Dec (j < n) → j < n
    go (yes h) = h
    go (no h) = let q = occ_after 0 n j (omega arith) in absurd (omega arith)

-- ---- the free chain

pub chain_of_free_slots : (k : ℕ) (s : Slots) (l : List ℕ) → FreeR s l → ((j : ℕ) → 0 < occ j l → j < 128) → length l ≤ k → chain k s (head_or NIL l) ≡ l
unfolding chain
chain_of_free_slots zero s [] r b h = refl
chain_of_free_slots zero s (i ∷ is) r b h = absurd (omega arith)
chain_of_free_slots (suc k) s [] r b h = refl
chain_of_free_slots (suc k) s (i ∷ is) r b h =
    let d = δ-refl i in
    rw (lt-ltb i 128 (b i (omega arith)))
    (ap (λ (c : ℕ). i ∷ chain k s c) r.1 ∙ ap (λ (m : List ℕ). i ∷ m) (chain_of_free_slots k s is r.2 (λ j c. b j (omega arith)) (omega arith)))

free_well_lem : (s : Slots) (l : List ℕ) → FreeR s l → free_well s l ≡ true
unfolding free_well
free_well_lem s [] r = refl
free_well_lem s (i ∷ is) r =
    both_true (same (at s i).next_sibling (head_or NIL is)) (free_well s is)
    (same_yes (at s i).next_sibling (head_or NIL is) r.1) (free_well_lem s is r.2)

module _ {X : Type 0} where
  pub head_tops : (d : ℕ) (f : Forest X) → head_or d (tops f) ≡ first_or d f
  head_tops d nil = refl
  head_tops d (node i g x cs sib) = refl

  pub final_tops : (d : ℕ) (f : Forest X) → final_or d (tops f) ≡ last_or d f
  final_tops d nil = refl
  final_tops d (node i g x cs sib) = final_tops i sib

  kids_well_lem : (s : Slots) (p pv : ℕ) (f : Forest X) → SegR s p pv f NIL → kids_well s p pv (tops f) ≡ true
  unfolding kids_well
  kids_well_lem s p pv nil r = refl
  kids_well_lem s p pv (node i g x cs sib) r =
      let e1 = same_yes (at s i).parent p (ap (λ (q : Slot). q.parent) r.0) in
      let e2 = same_yes (at s i).prev_sibling pv (ap (λ (q : Slot). q.prev_sibling) r.0) in
      let e3 = same_yes (at s i).next_sibling (head_or NIL (tops sib)) (ap (λ (q : Slot). q.next_sibling) r.0 ∙ sym (head_tops NIL sib)) in
      rw (e1, e2, e3) (kids_well_lem s p i sib r.2)

module _ {X : Type 0} {n : ℕ} {s : Slots} {free : ℕ} {t : Forest X} {fl : List ℕ} (r : Rel n s free t fl) where
  pub free_chain_of_the_tree : chain 128 s free ≡ fl
  free_chain_of_the_tree =
      let m = r.small in let T = r.total in
      ap (chain 128 s) r.head ∙ chain_of_free_slots 128 s fl r.frees (λ j c. let b = below r j (omega arith) in omega arith) (omega arith)

  pub aliveness_of_a_slot : (j : ℕ) → j < n → aliveness (at s j) ≡ cnt j t
  aliveness_of_a_slot j h =
      zero_cases (cnt j t)
      (λ z. rw (other_slots_are_dead r j h z, z))
      (λ z. let o = once r j in let e : cnt j t ≡ 1 = omega arith in rw (slot_of_a_node_is_live r j z, e))

  pub nodes_are_well : (j : ℕ) → cnt j t ≡ 1 → node_well s j ≡ true
  unfolding node_well
  nodes_are_well j c =
      let K : Forest X = kids j t in
      let e1 = same_yes (at s j).first_child (head_or NIL (tops K)) (first_child_of_a_node r j c ∙ sym (head_tops NIL K)) in
      let e2 = same_yes (at s j).last_child (final_or NIL (tops K)) (last_child_of_a_node r j c ∙ sym (final_tops NIL K)) in
      rw (children_of_a_node r j c, e1, e2) (kids_well_lem s j NIL K (children_segment r j c))

  pub each_slot_once : each_once n s (order 128 s (0 ∷ [])) fl ≡ true
  unfolding each_once
  each_slot_once =
      let o : List ℕ = order 128 s (0 ∷ []) in
      both_true
      (all (λ (i : ℕ). same (occ i o) (aliveness (at s i)) && same (occ i o + occ i fl) 1) (from_to 0 n))
      (all (λ (i : ℕ). ltb i n) o && all (λ (i : ℕ). ltb i n) fl)
      (all_that_occur (λ (i : ℕ). same (occ i o) (aliveness (at s i)) && same (occ i o + occ i fl) 1) (from_to 0 n)
      (λ j c.
      let h = occurs_below n j c in
      let e = order_has_each_once r j in
      let w = r.cover j h in
      both_true (same (occ j o) (aliveness (at s j))) (same (occ j o + occ j fl) 1)
      (same_yes (occ j o) (aliveness (at s j)) (e ∙ sym (aliveness_of_a_slot j h)))
      (same_yes (occ j o + occ j fl) 1 (omega arith))))
      (both_true (all (λ (i : ℕ). ltb i n) o) (all (λ (i : ℕ). ltb i n) fl)
      (all_that_occur (λ (i : ℕ). ltb i n) o (λ j c. let e = order_has_each_once r j in lt-ltb j n (below r j (omega arith))))
      (all_that_occur (λ (i : ℕ). ltb i n) fl (λ j c. lt-ltb j n (below r j (omega arith)))))

  pub nodes_reached_are_well : all (node_well s) (order 128 s (0 ∷ [])) ≡ true
  nodes_reached_are_well =
      all_that_occur (node_well s) (order 128 s (0 ∷ []))
      (λ j c. let e = order_has_each_once r j in let o = once r j in nodes_are_well j (omega arith))

  -- the root's own slot
  pub root_slot : at s 0 ≡ used (at s 0).generation NIL (at s 0).first_child (at s 0).last_child NIL NIL
  root_slot =
      let R = one_root t r.root in
      let q : SegR s NIL NIL (node 0 R.gen R.load R.below nil) NIL = subst (λ (f : Forest X). SegR s NIL NIL f NIL) R.whole r.links in
      rw q.0

  root_well_lem : root_well s ≡ true
  root_well_lem = rw (root_slot, same_refl NIL)

module _ {X : Type 0} where
  -- the link rules hold of slots, a free head and a live count that are those of a forest
  pub links_are_well : (n : ℕ) (s : Slots) (free live : ℕ) (t : Forest X) (fl : List ℕ) → Rel n s free t fl → live ≡ size t → linked n s free live ≡ true
  unfolding linked
  links_are_well n s free live t fl r e =
      let o : List ℕ = order 128 s (0 ∷ []) in
      let c : chain 128 s free ≡ fl = free_chain_of_the_tree r in
      subst
      (λ (l : List ℕ).
      (root_well s
      && (each_once n s o l && (all (node_well s) o && (same free (head_or NIL l) && (free_well s l && same live (length o)))))) ≡ true)
      (sym c)
      (rw (root_well_lem r, each_slot_once r, nodes_reached_are_well r, same_yes free (head_or NIL fl) r.head, free_well_lem s fl r.frees)
      (same_yes live (length o) (e ∙ sym (order_length r))))
