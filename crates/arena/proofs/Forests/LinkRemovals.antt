-- A removal: the node's siblings are linked to each other, or to the parent's ends, and the slots of the node and of all below it go to
-- the free chain. The slots then hold the forest without the node. Assumes nothing.
use Rattle.std.proofs.Common.{◌≡◌, ℕ, ◌+◌, ◌<◌, ◌≤◌, cond, ◌≢◌, List, length, sym, refl, ap, ◌∙◌, arith}
use Rattle.arithmetic.specs.Tests.{same, δ, occ, final_or}
use Rattle.arena.specs.Forest.{Forest, nil, node, app, size}
use Rattle.arena.specs.Slots.{NIL, Slots, at, used, change, set_first, set_last, set_prev, set_next, unlink_from, unlink, free_order, next_generation, freed}
use Rattle.arena.specs.Support.Lists.{walked}
use Rattle.arena.specs.declared.Slot.{Slot}
use Rattle.arithmetic.proofs.TestLaws.{same_no, same_refl, δ-refl, δ-other, δ-ne, eq_cases, zero_cases}
use Rattle.arena.proofs.Forests.ForestLaws.{first_or, last_or, cnt, top, kids, set_kids, cut, cut_app, cut_set, split, cnt_app, last_or_app, top_le_cnt, wt, wt_set, wt_rest, wt_app, top_set, own_kids, ne_by, size_is_a_sum}
use Rattle.arena.proofs.Forests.Segments.{SegR, seg_frame, seg_join, seg_cut, seg_set, seg_find, seg_next', seg_prev', last_count, first_count, last_in, Found, seg_parent, not_last, not_first}
use Rattle.arena.proofs.Forests.Relations.{Rel, once, below, FreeR, free_frame}
use Rattle.arena.proofs.Forests.SlotChanges.{gen_of, len_change, at_change, change_other, change_keep}
use Rattle.arena.proofs.Forests.Walks.{a_walk_lists_a_tree}
use Rattle.arena.proofs.Forests.FreeOrders.{last_first, occ_last_first, length_last_first, free_order_of_a_tree, pushed, occ_pushed, length_pushed, head_pushed, freed_length, freed_other, freed_slot, freed_chain, aged_suc}

-- what the unlinking does to each slot
pub record Unlinked (a b : Slots) (p pv nx : ℕ) : Type 0 where
  pub long : length b ≡ length a
  pub at_p : at b p ≡ cond (same nx NIL) (set_last pv (cond (same pv NIL) (set_first nx (at a p)) (at a p))) (cond (same pv NIL) (set_first nx (at a p)) (at a p))
  pub at_pv : pv ≢ NIL → at b pv ≡ set_next nx (at a pv)
  pub at_nx : nx ≢ NIL → at b nx ≡ set_prev pv (at a nx)
  pub rest : (j : ℕ) → j ≢ p → j ≢ pv → j ≢ nx → at b j ≡ at a j

pub unlinked : (a : Slots) (p pv nx : ℕ) → p < length a → (pv ≢ NIL → pv < length a) → (nx ≢ NIL → nx < length a) → p ≢ pv → p ≢ nx → (pv ≢ NIL → pv ≢ nx) → Unlinked a (unlink_from a p pv nx) p pv nx
unfolding unlink_from
unlinked a p pv nx hp hpv hnx n1 n2 n3 =
    let n1' : pv ≢ p = λ e. n1 (sym e) in
    let n2' : nx ≢ p = λ e. n2 (sym e) in
    eq_cases pv NIL
    (λ e s d. eq_cases nx NIL
    (λ e' s' d'.
    let hp' : p < length (change a p (set_first nx)) = rw len_change hp in
    rw (s, s') record { long = simp len_change; at_p = simp (at_change, s, s'); at_pv = λ q. absurd (q e); at_nx = λ q. absurd (q e'); rest = λ j j1 j2 j3. simp change_other })
    (λ e' s' d'.
    let hn : nx < length (change a p (set_first nx)) = rw len_change (hnx e') in
    rw (s, s') record { long = simp len_change; at_p = simp (at_change, change_other, s, s'); at_pv = λ q. absurd (q e); at_nx = λ q. simp (at_change, change_other); rest = λ j j1 j2 j3. simp change_other }))
    (λ e s d. eq_cases nx NIL
    (λ e' s' d'.
    let hp' : p < length (change a pv (set_next nx)) = rw len_change hp in
    let hv : pv < length a = hpv e in
    rw (s, s') record { long = simp len_change; at_p = simp (change_other, at_change, s, s'); at_pv = λ q. simp (change_other, at_change); at_nx = λ q. absurd (q e'); rest = λ j j1 j2 j3. simp change_other })
    (λ e' s' d'.
    let hv : pv < length a = hpv e in
    let hn : nx < length (change a pv (set_next nx)) = rw len_change (hnx e') in
    let m : pv ≢ nx = n3 e in
    let m' : nx ≢ pv = λ q. m (sym q) in
    rw (s, s') record { long = simp len_change; at_p = simp (change_other, s, s'); at_pv = λ q. simp (change_other, at_change); at_nx = λ q. simp (change_other, at_change); rest = λ j j1 j2 j3. simp change_other }))

pub unlinking_keeps_generations : (a : Slots) (p pv nx j : ℕ) → (at (unlink_from a p pv nx) j).generation ≡ (at a j).generation
unfolding unlink_from
unlinking_keeps_generations a p pv nx j =
    let a1 : Slots = cond (same pv NIL) (change a p (set_first nx)) (change a pv (set_next nx)) in
    let e1 : (at a1 j).generation ≡ (at a j).generation = eq_cases pv NIL (λ e s d. rw s (change_keep gen_of a p j (set_first nx) refl)) (λ e s d. rw s (change_keep gen_of a pv j (set_next nx) refl)) in
    eq_cases nx NIL (λ e s d. rw s (change_keep gen_of a1 p j (set_last pv) refl ∙ e1)) (λ e s d. rw s (change_keep gen_of a1 nx j (set_prev pv) refl ∙ e1))

module _ {X : Type 0} where
  -- the parent's own slot
  own_fix : (pre post : Forest X) (i g : ℕ) (x : X) (c : Forest X) (s : Slot) → cnt NIL pre ≡ 0 → cnt NIL post ≡ 0
      → s.first_child ≡ first_or NIL (app pre (node i g x c post)) → s.last_child ≡ last_or NIL (app pre (node i g x c post))
      → cond (same (first_or NIL post) NIL) (set_last (last_or NIL pre) (cond (same (last_or NIL pre) NIL) (set_first (first_or NIL post) s) s)) (cond (same (last_or NIL pre) NIL) (set_first (first_or NIL post) s) s)
      ≡ set_first (first_or NIL (app pre post)) (set_last (last_or NIL (app pre post)) s)
  own_fix nil nil i g x c s z z' e e' = rw (same_refl NIL)
  own_fix nil (node k m y ks sib) i g x c s z z' e e' = let d = δ-refl k in rw (same_refl NIL, same_no k NIL (ne_by (node k m y ks sib) k NIL (omega arith) z'), ← e')
  own_fix (node h n w hs sub) nil i g x c s z z' e e' =
      let t = last_in h n w hs sub in
      let u = top_le_cnt (last_or h sub) (node h n w hs sub) in
      rw (same_refl NIL, same_no (last_or h sub) NIL (ne_by (node h n w hs sub) (last_or h sub) NIL (omega arith) z), last_or_app h sub nil, ← e)
  own_fix (node h n w hs sub) (node k m y ks sib) i g x c s z z' e e' =
      let t = last_in h n w hs sub in
      let u = top_le_cnt (last_or h sub) (node h n w hs sub) in
      let d = δ-refl k in
      let f : s.last_child ≡ last_or k sib = e' ∙ last_or_app h sub (node i g x c (node k m y ks sib)) in
      rw (same_no k NIL (ne_by (node k m y ks sib) k NIL (omega arith) z'), same_no (last_or h sub) NIL (ne_by (node h n w hs sub) (last_or h sub) NIL (omega arith) z), last_or_app h sub (node k m y ks sib), ← f, ← e)

-- the node i is a child of p: the children before it, the node, those after it
module _ {X : Type 0} (n : ℕ) (a : Slots) (free : ℕ) (t : Forest X) (fl : List ℕ) (i : ℕ) (r : Rel n a free t fl) (p : ℕ) (cp : cnt p t ≡ 1)
    (pre : Forest X) (g : ℕ) (x : X) (b post : Forest X) (w : kids p t ≡ app pre (node i g x b post)) where
  share : (v : ℕ → ℕ → X → ℕ) → wt v t ≡ wt v (set_kids p nil t) + (wt v pre + (v i g x + (wt v b + wt v post)))
  share v = let h = wt_rest v p t cp in let h' = wt_app v pre (node i g x b post) in rw (← h', ← w) h

  only : (j : ℕ) → cnt j (set_kids p nil t) + (cnt j pre + (δ i j + (cnt j b + cnt j post))) + occ j fl ≤ 1
  only j = let h = once r j in let h' = share (λ k g x. δ k j) in omega arith

  no_nil : (j : ℕ) → j < n → j ≢ NIL
  no_nil j h e = let sm = r.small in omega arith

  nil_out : cnt NIL (set_kids p nil t) + (cnt NIL pre + (δ i NIL + (cnt NIL b + cnt NIL post))) ≡ 0
  nil_out = let sm = r.small in let h = r.inside NIL (omega arith) in let h' = share (λ k g x. δ k NIL) in omega arith

  hp : p < n
  hp = below r p (omega arith)

  no_p : cnt p pre + (δ i p + (cnt p b + cnt p post)) ≡ 0
  no_p = let h = own_kids p t (omega arith) in let h' = cnt_app p pre (node i g x b post) in let e = ap (cnt p) w in omega arith

  in_n : (j : ℕ) → 0 < cnt j (set_kids p nil t) + (cnt j pre + (δ i j + (cnt j b + cnt j post))) → j < n
  in_n j h = let h' = share (λ k g x. δ k j) in below r j (omega arith)

  found : Found a p t
  found = seg_find a p t NIL NIL NIL r.links cp

  parts : SegR a p NIL pre i × SegR a p (last_or NIL pre) (node i g x b post) NIL
  parts = seg_cut a pre (node i g x b post) p NIL NIL (rw w at found.below)

  -- ---- the slots once the node is unlinked

  B : Slots
  B = unlink_from a p (last_or NIL pre) (first_or NIL post)

  is_unlinked : unlink a i ≡ B
  unfolding unlink B
  is_unlinked = rw parts.1.0

  U : Unlinked a B p (last_or NIL pre) (first_or NIL post)
  unfolding B
  U =
      let l = r.len in
      let q = no_p in
      let h = hp in
      let sm = r.small in
      unlinked a p (last_or NIL pre) (first_or NIL post) (omega arith)
      (λ e. let k = last_count pre e in let k' = in_n (last_or NIL pre) (omega arith) in omega arith)
      (λ e. let k = first_count post e in let k' = in_n (first_or NIL post) (omega arith) in omega arith)
      (not_last pre p (no_nil p hp) (omega arith))
      (not_first post p (no_nil p hp) (omega arith))
      (λ e. let k = last_count pre e in let o = only (last_or NIL pre) in not_first post (last_or NIL pre) e (omega arith))

  away : (j : ℕ) → j < n → j ≢ p → cnt j pre ≡ 0 → cnt j post ≡ 0 → at B j ≡ at a j
  away j h e z z' = U.rest j e (not_last pre j (no_nil j h) z) (not_first post j (no_nil j h) z')

  seg_k : SegR B p NIL (app pre post) NIL
  seg_k =
      let q = no_p in
      let m = nil_out in
      seg_join B pre post p NIL NIL
      (seg_next' a B pre p NIL i (first_or NIL post) (λ j. let o = only j in omega arith) (omega arith)
      (λ j c e. let o = only j in let h = in_n j (omega arith) in U.rest j (ne_by pre j p c (omega arith)) e (not_first post j (no_nil j h) (omega arith)))
      U.at_pv parts.0)
      (seg_prev' a B post p i (last_or NIL pre) NIL (λ j. let o = only j in omega arith) (omega arith)
      (λ j c e. let o = only j in let h = in_n j (omega arith) in U.rest j (ne_by post j p c (omega arith)) (not_last pre j (no_nil j h) (omega arith)) e)
      U.at_nx parts.1.2)

  seg_t : SegR B NIL NIL (set_kids p (app pre post) t) NIL
  seg_t =
      let m = nil_out in
      seg_set a B p (app pre post) t NIL NIL NIL
      (λ j c e. let o = only j in let h = in_n j (omega arith) in away j h e (omega arith) (omega arith))
      (U.at_p ∙ own_fix pre post i g x b (at a p) (omega arith) (omega arith) (found.is_first ∙ ap (first_or NIL) w) (found.is_last ∙ ap (last_or NIL) w))
      seg_k r.links

  at_i : at B i ≡ used g p (first_or NIL b) (last_or NIL b) (last_or NIL pre) (first_or NIL post)
  at_i =
      let d = δ-refl i in let o = only i in let q = no_p in
      away i (in_n i (omega arith)) (δ-ne i p (omega arith)) (omega arith) (omega arith) ∙ parts.1.0

  seg_b : SegR B i NIL b NIL
  seg_b =
      let q = no_p in
      seg_frame a B b i NIL NIL
      (λ j c. let o = only j in let h = in_n j (omega arith) in away j h (ne_by b j p c (omega arith)) (omega arith) (omega arith)) parts.1.1

  -- ---- and its tree is freed

  abbrev Z : Forest X
  Z = node i g x b nil

  is_order : free_order 128 B i ≡ last_first Z
  is_order =
      let s = share (λ k g x. 1) in
      let T = r.total in
      let sm = r.small in
      let z1 = size_is_a_sum t in
      let z2 = size_is_a_sum b in
      free_order_of_a_tree 127 B i b (ap (λ (q : Slot). q.first_child) at_i) seg_b (λ j c. let h = in_n j (omega arith) in omega arith) (omega arith) (omega arith)

  -- the walk by previous links lists all of it
  is_walked : walked B i ≡ last_first Z
  is_walked =
      let s = share (λ k g x. 1) in
      let T = r.total in
      let sm = r.small in
      let z1 = size_is_a_sum t in
      let z2 = size_is_a_sum b in
      a_walk_lists_a_tree B i g x b (ap (λ (q : Slot). q.first_child) at_i) (ap (λ (q : Slot). q.last_child) at_i) seg_b (λ j c. let h = in_n j (omega arith) in omega arith) (omega arith)

  gens : (j : ℕ) → (at a j).generation < 18446744073709551615 → (at (freed B free (last_first Z)) j).generation ≡ (at a j).generation + cnt j Z
  unfolding B
  gens j m =
      let e : (at B j).generation ≡ (at a j).generation = unlinking_keeps_generations a p (last_or NIL pre) (first_or NIL post) j in
      let o = only j in
      let c = occ_last_first j Z in
      zero_cases (cnt j Z)
      (λ z. let q = ap gen_of (freed_other B free (last_first Z) j (omega arith)) in omega arith)
      (λ z.
      let l = U.long in
      let l' = r.len in
      let sm = r.small in
      let h = in_n j (omega arith) in
      let q : (at (freed B free (last_first Z)) j).generation ≡ next_generation (at B j).generation = ap gen_of (freed_slot B free (last_first Z) j (omega arith) (omega arith)) in
      let q' = aged_suc (at B j).generation (omega arith) in
      omega arith)

  is_cut : top i t ≡ 0 → cut i t ≡ set_kids p (app pre post) t
  is_cut z =
      let d = δ-refl i in let o = only i in let o' = once r i in
      let e = cnt_app i pre (node i g x b post) in
      let k : 0 < cnt i (kids p t) = rw w (omega arith) in
      cut_set i p t cp (omega arith) z k ∙ ap (λ (f : Forest X). set_kids p f t) (ap (cut i) w ∙ cut_app i g x pre b post (omega arith))

  sum_cut : (v : ℕ → ℕ → X → ℕ) → wt v t ≡ wt v (set_kids p (app pre post) t) + wt v Z
  sum_cut v = let h = share v in let h' = wt_set v p (app pre post) t cp in let h'' = wt_app v pre post in omega arith

  rel_after : Rel n (freed B free (last_first Z)) (final_or free (last_first Z)) (set_kids p (app pre post) t) (pushed (last_first Z) fl)
  rel_after =
      let d = δ-refl i in
      let bl = U.long in
      let al = r.len in
      let sm = r.small in
      let fr : FreeR B fl = free_frame a B fl
      (λ j c. let o = only j in let o' = once r j in let h = below r j (omega arith) in
      away j h (λ e. let c' : 0 < occ p fl = rw e at c in let o'' = once r p in omega arith) (omega arith) (omega arith)) r.frees in
      record {
        len = freed_length B free (last_first Z) ∙ U.long ∙ r.len;
        small = r.small;
        links = seg_frame B (freed B free (last_first Z)) (set_kids p (app pre post) t) NIL NIL NIL
            (λ j c. let s = sum_cut (λ k g x. δ k j) in let o = once r j in let q = occ_last_first j Z in freed_other B free (last_first Z) j (omega arith)) seg_t;
        frees = freed_chain B free (last_first Z) fl
            (λ j. let o = only j in let q = occ_last_first j Z in omega arith)
            (λ j c. let q = occ_last_first j Z in let h = in_n j (omega arith) in omega arith) r.head fr;
        head = head_pushed (last_first Z) fl free r.head;
        cover = λ j h. let q = r.cover j h in let s = sum_cut (λ k g x. δ k j) in let o = occ_pushed j (last_first Z) fl in let o' = occ_last_first j Z in omega arith;
        inside = λ j h. let q = r.inside j h in let s = sum_cut (λ k g x. δ k j) in let o = occ_pushed j (last_first Z) fl in let o' = occ_last_first j Z in omega arith;
        root = λ j. top_set j p (app pre post) t ∙ r.root j;
        total =
            let s = sum_cut (λ k g x. 1) in let o = length_pushed (last_first Z) fl in let o' = length_last_first Z in let q = r.total in
            let z1 = size_is_a_sum t in let z2 = size_is_a_sum (set_kids p (app pre post) t) in let z3 = size_is_a_sum b in omega arith;
      }

module _ {X : Type 0} where
  -- what comes of a removal: the part that goes, the order in which its slots are freed, and the forest without it
  pub record Removed (n : ℕ) (s : Slots) (free : ℕ) (t : Forest X) (fl : List ℕ) (i : ℕ) : Type 0 where
    pub part : Forest X
    pub part_order : free_order 128 (unlink s i) i ≡ last_first part
    pub part_walked : walked (unlink s i) i ≡ free_order 128 (unlink s i) i
    pub rel : Rel n (freed (unlink s i) free (free_order 128 (unlink s i) i)) (final_or free (free_order 128 (unlink s i) i)) (cut i t) (pushed (free_order 128 (unlink s i) i) fl)
    pub part_sums : (v : ℕ → ℕ → X → ℕ) → wt v t ≡ wt v (cut i t) + wt v part
    pub order_counts : (j : ℕ) → occ j (free_order 128 (unlink s i) i) + cnt j (cut i t) ≡ cnt j t
    pub sizes : size (cut i t) + length (free_order 128 (unlink s i) i) ≡ size t
    pub order_size : length (free_order 128 (unlink s i) i) ≡ size part
    pub generations : (j : ℕ) → (at s j).generation < 18446744073709551615
        → (at (freed (unlink s i) free (free_order 128 (unlink s i) i)) j).generation ≡ (at s j).generation + occ j (free_order 128 (unlink s i) i)

  pub remove_rel : (n : ℕ) (s : Slots) (free : ℕ) (t : Forest X) (fl : List ℕ) (i : ℕ) → Rel n s free t fl → cnt i t ≡ 1 → i ≢ 0 → Removed n s free t fl i
  remove_rel n a free t fl i r c n0 =
      let d0 = δ-other 0 i (λ e. n0 (sym e)) in
      let t0 : top i t ≡ 0 = r.root i ∙ d0 in
      let p : ℕ = (at a i).parent in
      let u : (j : ℕ) → cnt j t ≤ 1 = λ j. let o = once r j in omega arith in
      let C = seg_parent a i t NIL NIL NIL r.links u (omega arith) t0 in
      let up = u p in
      let cth = C.there in
      let cp : cnt p t ≡ 1 = omega arith in
      let s = split i (kids p t) C.child in
      let P : Forest X = node i s.gen s.load s.below nil in
      let e = is_cut n a free t fl i r p cp s.pre s.gen s.load s.below s.post s.whole t0 in
      let eu = is_unlinked n a free t fl i r p cp s.pre s.gen s.load s.below s.post s.whole in
      let eo = is_order n a free t fl i r p cp s.pre s.gen s.load s.below s.post s.whole in
      let sums = sum_cut n a free t fl i r p cp s.pre s.gen s.load s.below s.post s.whole in
      let z1 = size_is_a_sum t in
      let z2 = size_is_a_sum (cut i t) in
      let z3 = size_is_a_sum P in
      let zs : wt (λ k g x. 1) t ≡ wt (λ k g x. 1) (cut i t) + wt (λ k g x. 1) P = rw e (sums (λ k g x. 1)) in
      let ol = length_last_first P in
      record {
        part = P;
        part_order = rw (eu, eo);
        part_walked = rw (eu, eo) (is_walked n a free t fl i r p cp s.pre s.gen s.load s.below s.post s.whole);
        rel = rw (eu, eo, e) (rel_after n a free t fl i r p cp s.pre s.gen s.load s.below s.post s.whole);
        part_sums = λ v. rw e (sums v);
        order_counts = λ j. let h = sums (λ k g x. δ k j) in let o = occ_last_first j P in rw (eu, eo, e) (omega arith);
        sizes = rw (eu, eo) (omega arith);
        order_size = rw (eu, eo) (length_last_first P);
        generations = λ j m.
            let o = occ_last_first j P in let h = gens n a free t fl i r p cp s.pre s.gen s.load s.below s.post s.whole j m in
            rw (eu, eo) (omega arith);
      }
