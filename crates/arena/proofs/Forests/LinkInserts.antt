-- A new last child: its slot is the first of the free chain, its links are set, the last child before it points to it and so does the
-- parent. Each slot becomes what the forest with one more leaf says, and no other slot changes. Assumes nothing.
use Rattle.std.proofs.Common.{◌≡◌, ℕ, suc, ◌+◌, ◌<◌, ◌≤◌, cond, ◌≢◌, List, ◌∷◌, length, sym, refl, ap, ◌∙◌, arith}
use Rattle.arithmetic.specs.Tests.{same, δ, occ}
use Rattle.arena.specs.Forest.{Forest, nil, node, app, size}
use Rattle.arena.specs.Slots.{NIL, Slots, at, put, used, change, set_first, set_last, set_prev, set_next, link_after, link_last}
use Rattle.arena.specs.declared.Slot.{Slot}
use Rattle.arithmetic.proofs.TestLaws.{same_no, same_refl, δ-refl, eq_cases}
use Rattle.arena.proofs.Forests.ForestLaws.{first_or, last_or, cnt, kids, set_kids, cnt_rest, last_or_app, top_le_cnt, wt, wt_set, wt_rest, wt_app, top_set, own_kids, ne_by, cnt_kids_le, size_is_a_sum}
use Rattle.arena.proofs.Forests.Segments.{len_put, at_put, at_other, SegR, seg_join, seg_set, seg_find, seg_next', last_count, last_in}
use Rattle.arena.proofs.Forests.Relations.{Rel, once, below, free_frame}
use Rattle.arena.proofs.Forests.SlotChanges.{gen_of, len_change, at_change, change_other, put_keep, change_keep}

-- what the linking does to each slot
pub record Linked (a b : Slots) (p i l : ℕ) : Type 0 where
  pub long : length b ≡ length a
  pub at_p : at b p ≡ set_last i (cond (same l NIL) (set_first i (at a p)) (at a p))
  pub at_i : at b i ≡ set_prev l (at a i)
  pub at_l : l ≢ NIL → at b l ≡ set_next i (at a l)
  pub rest : (j : ℕ) → j ≢ p → j ≢ i → j ≢ l → at b j ≡ at a j

pub linked : (a : Slots) (p i l : ℕ) → (at a i).prev_sibling ≡ NIL → p < length a → i < length a → (l ≢ NIL → l < length a) → i ≢ p → l ≢ p → l ≢ i → Linked a (link_after a p i l) p i l
unfolding link_after
linked a p i l v hp hi hl n1 n2 n3 =
    eq_cases l NIL
    (λ e s d.
    rw s record {
      long = rw (len_change, len_change);
      at_p = rw (at_change (change a p (set_first i)) p (set_last i) (rw len_change hp), at_change a p (set_first i) hp, s);
      at_i = rw (change_other (change a p (set_first i)) p i (set_last i) n1, change_other a p i (set_first i) n1, e) (ap (λ (q : ℕ). set_prev q (at a i)) v);
      at_l = λ q. absurd (q e);
      rest = λ j j1 j2 j3. rw (change_other (change a p (set_first i)) p j (set_last i) j1, change_other a p j (set_first i) j1);
    })
    (λ e s d.
    let n1' : p ≢ i = λ q. n1 (sym q) in
    let n2' : p ≢ l = λ q. n2 (sym q) in
    let n3' : i ≢ l = λ q. n3 (sym q) in
    let hl' : l < length a = hl e in
    let hi' : i < length (change a l (set_next i)) = rw len_change hi in
    let hp' : p < length (change (change a l (set_next i)) i (set_prev l)) = rw (len_change, len_change) hp in
    rw s record {
      long = simp len_change;
      at_p = simp (at_change, change_other, s);
      at_i = simp (at_change, change_other);
      at_l = λ q. simp (at_change, change_other);
      rest = λ j j1 j2 j3. simp change_other;
    })

pub linking_keeps_generations : (a : Slots) (p i l j : ℕ) → (at (link_after a p i l) j).generation ≡ (at a j).generation
unfolding link_after
linking_keeps_generations a p i l j =
    change_keep gen_of (cond (same l NIL) (change a p (set_first i)) (change (change a l (set_next i)) i (set_prev l))) p j (set_last i) refl
    ∙ eq_cases l NIL
    (λ e s d. rw s (change_keep gen_of a p j (set_first i) refl))
    (λ e s d. rw s (change_keep gen_of (change a l (set_next i)) i j (set_prev l) refl ∙ change_keep gen_of a l j (set_next i) refl))

-- an insertion changes no generation
pub insert_keeps_generations : (s : Slots) (p i j : ℕ)
    → (at (link_last (put s i (used (at s i).generation p NIL NIL NIL NIL)) p i) j).generation ≡ (at s j).generation
unfolding link_last
insert_keeps_generations s p i j =
    let x : Slot = used (at s i).generation p NIL NIL NIL NIL in
    let b : Slots = put s i x in
    linking_keeps_generations b p i (at b p).last_child j ∙ put_keep gen_of s i j x refl

module _ {X : Type 0} where
  -- every sum grows by the new node's
  pub insert_sum : (v : ℕ → ℕ → X → ℕ) (p i g : ℕ) (x : X) (t : Forest X) → cnt p t ≡ 1 → wt v (set_kids p (app (kids p t) (node i g x nil nil)) t) ≡ wt v t + v i g x
  insert_sum v p i g x t c =
      let q = wt_set v p (app (kids p t) (node i g x nil nil)) t c in let q' = wt_rest v p t c in let q'' = wt_app v (kids p t) (node i g x nil nil) in omega arith

  pub insert_count : (j p i g : ℕ) (x : X) (t : Forest X) → cnt p t ≡ 1 → cnt j (set_kids p (app (kids p t) (node i g x nil nil)) t) ≡ cnt j t + δ i j
  insert_count j p i g x t c = insert_sum (λ k m y. δ k j) p i g x t c

  pub insert_size : (p i g : ℕ) (x : X) (t : Forest X) → cnt p t ≡ 1 → size (set_kids p (app (kids p t) (node i g x nil nil)) t) ≡ suc (size t)
  insert_size p i g x t c =
      let h = insert_sum (λ k m y. 1) p i g x t c in
      let a = size_is_a_sum t in
      let b = size_is_a_sum (set_kids p (app (kids p t) (node i g x nil nil)) t) in omega arith

  first_fix : (K : Forest X) (i g : ℕ) (x : X) (s : Slot) → cnt NIL K ≡ 0 → s.first_child ≡ first_or NIL K
      → set_last i (cond (same (last_or NIL K) NIL) (set_first i s) s)
      ≡ set_first (first_or NIL (app K (node i g x nil nil))) (set_last (last_or NIL (app K (node i g x nil nil))) s)
  first_fix nil i g x s z e = rw (same_refl NIL)
  first_fix (node k m y ks sib) i g x s z e =
      let t = last_in k m y ks sib in
      let c = top_le_cnt (last_or k sib) (node k m y ks sib) in
      rw (same_no (last_or k sib) NIL (ne_by (node k m y ks sib) (last_or k sib) NIL (omega arith) z), last_or_app k sib (node i g x nil nil), ← e)

  pub insert_rel : (n : ℕ) (s : Slots) (free : ℕ) (t : Forest X) (i : ℕ) (fl : List ℕ) (p : ℕ) (x : X) → Rel n s free t (i ∷ fl) → cnt p t ≡ 1
      → Rel n (link_last (put s i (used (at s i).generation p NIL NIL NIL NIL)) p i) (at s i).next_sibling
      (set_kids p (app (kids p t) (node i (at s i).generation x nil nil)) t) fl
  unfolding link_last
  insert_rel n S free t i fl p x r c =
      let g : ℕ = (at S i).generation in
      let K : Forest X = kids p t in
      let l : ℕ = last_or NIL K in
      let K' : Forest X = app K (node i g x nil nil) in
      let S1 : Slots = put S i (used g p NIL NIL NIL NIL) in
      let B : Slots = link_after S1 p i l in
      let di = δ-refl i in
      let oi = once r i in
      let F = seg_find S p t NIL NIL NIL r.links c in
      let ki = cnt_kids_le i p t (omega arith) in
      let kp = own_kids p t (omega arith) in
      let ip : i ≢ p = λ e. let c' : cnt i t ≡ 1 = rw (← e) at c in omega arith in
      let hp : p < n = below r p (omega arith) in
      let hi : i < n = below r i (omega arith) in
      let sm = r.small in
      let kl : l ≢ NIL → 0 < cnt l K = last_count K in
      let fresh : (j : ℕ) → j < n → cnt j K ≡ 0 → l ≢ j = λ j jn jk e.
      let q : l ≢ NIL = λ e'. omega arith in
      ne_by K l j (kl q) jk e in
      let lp : l ≢ p = fresh p hp kp in
      let li : l ≢ i = fresh i hi (omega arith) in
      let sp : at S1 p ≡ at S p = at_other S i p (used g p NIL NIL NIL NIL) (λ e. ip (sym e)) in
      let lp' : (at S1 p).last_child ≡ l = ap (λ (s : Slot). s.last_child) sp ∙ F.is_last in
      let long = r.len in
      let long1 = len_put S i (used g p NIL NIL NIL NIL) in
      let si : at S1 i ≡ used g p NIL NIL NIL NIL = at_put S i (used g p NIL NIL NIL NIL) (omega arith) in
      let hl : l ≢ NIL → l < n = λ q. let k0 = kl q in let k1 = cnt_kids_le l p t (omega arith) in below r l (omega arith) in
      let L : Linked S1 B p i l = linked S1 p i l (ap (λ (s : Slot). s.prev_sibling) si) (omega arith) (omega arith) (λ q. let h = hl q in omega arith) ip lp li in
      let away : (j : ℕ) → j ≢ p → j ≢ i → j ≢ l → at B j ≡ at S j = λ j j1 j2 j3. L.rest j j1 j2 j3 ∙ at_other S i j (used g p NIL NIL NIL NIL) j2 in
      let uniq : (j : ℕ) → cnt j K ≤ 1 = λ j. let h = cnt_kids_le j p t (omega arith) in let o = once r j in omega arith in
      let no_nil : cnt NIL t ≡ 0 = let h = r.inside NIL (omega arith) in omega arith in
      let noNilK : cnt NIL K ≡ 0 = let h = cnt_kids_le NIL p t (omega arith) in omega arith in
      let inK : SegR B p NIL K i = seg_next' S B K p NIL NIL i uniq noNilK
      (λ j c j3. away j (ne_by K j p c kp) (ne_by K j i c (omega arith)) j3)
      (λ q. L.at_l q ∙ ap (set_next i) (at_other S i l (used g p NIL NIL NIL NIL) li)) F.below in
      let own : SegR B p NIL K' NIL = seg_join B K (node i g x nil nil) p NIL NIL inK (L.at_i ∙ ap (set_prev l) si, tt, tt) in
      rw lp' record {
        len = L.long ∙ long1 ∙ long;
        small = sm;
        links = seg_set S B p K' t NIL NIL NIL
            (λ j c' j1. let ri = cnt_rest i p t c in let rj = cnt_rest j p t c in let oj = once r j in
            away j j1 (ne_by (set_kids p nil t) j i c' (omega arith)) (λ e. fresh j (below r j (omega arith)) (omega arith) (sym e)))
            (L.at_p ∙ rw sp (first_fix K i g x (at S p) noNilK F.is_first))
            own r.links;
        frees = free_frame S B fl
            (λ j c'. let oj = once r j in let kj = cnt_kids_le j p t (omega arith) in
            away j (λ e. let c'' : 0 < occ p fl = rw e at c' in let op = once r p in omega arith) (λ e. let c'' : 0 < occ i fl = rw e at c' in omega arith)
            (λ e. fresh j (below r j (omega arith)) (omega arith) (sym e)))
            r.frees.2;
        head = r.frees.1;
        cover = λ j jn. let h = r.cover j jn in let q = insert_count j p i g x t c in omega arith;
        inside = λ j jn. let h = r.inside j jn in let q = insert_count j p i g x t c in omega arith;
        root = λ j. top_set j p K' t ∙ r.root j;
        total = let h = r.total in let q = insert_size p i g x t c in omega arith;
      }
