-- A pass over the slots is the layout of the forest. The order list is a queue of trees, and both halves of the pass are inductions over
-- it: behind the queue's front every wanted size is right, and before it every parent's children stand where the parent puts them.
-- Assumes nothing.
use mathlib.Core.Path.{◌≡◌, refl, sym, ap, ◌∙◌, subst}
use mathlib.Core.List.{List, [], ◌∷◌, map}
use Prim.Native.Nat.{ℕ, zero, suc, ◌≤◌, ◌<◌}
use native.Mathlib.Omega.{arith}
use lib.IntN.{ℤ}
use lib.ListN.{length, set, length-set}
use Rattle.arithmetic.specs.Tests.{occ}
use Rattle.arena.specs.Slots.{NIL, Slots, kids_at, order}
use Rattle.boxes.specs.Styles.{layout_at}
use Rattle.boxes.specs.Layout.{Extent, Child, want, place, boxes, seen, with_wants, with_rect, measure_at, measure_all, set_rects, arrange_at, arrange_all, view_rect, passed}
use Rattle.arena.specs.Forest.{Forest, nil, node, app, size}
use Rattle.boxes.specs.Nodes.{Info, with_box, wants_f, place_f}
use Rattle.boxes.specs.declared.Style.{Style}
use Rattle.boxes.specs.declared.Rect.{Rect}
use Rattle.boxes.specs.declared.Viewport.{Viewport}
use Rattle.boxes.specs.declared.LayoutSlot.{LayoutSlot}
use Rattle.boxes.specs.declared.StateSlot.{StateSlot}
use Rattle.arithmetic.proofs.TestLaws.{δ-refl, δ-same, eq_cases}
use Rattle.arena.proofs.Forests.ForestLaws.{cnt, top, wt, cnt_app, top_app, size_app, top_le_cnt, ne_by}
use Rattle.arena.proofs.Forests.Relations.{Rel, once}
use Rattle.arena.proofs.Forests.Payloads.{AllF, all_map, all_app, shape}
use Rattle.arena.proofs.Forests.Orders.{tops, bfs, InRange, KidR, seg_kid, kid_app, occ_tops, kids_tops, order_bfs, rel_in_range, rel_size, tops_of_the_tree}
use Rattle.boxes.proofs.Styles.Rounds.{Worn, a_layout_store_keeps}
use Rattle.boxes.proofs.Styles.WearLaws.{a_stored_layout_is_there, other_layouts_stay}

-- ---- as many boxes as children

pub as_many_boxes_as_children : (s : Style) (r : Rect) (cs : List Child) → length (place s r cs) ≡ length cs
unfolding place boxes
as_many_boxes_as_children s r cs = boxes_length s _ _ _ cs _ _
  where
    boxes_length : (s : Style) (cx cy inner : ℤ) (cs : List Child) (cursor : ℤ) (shares : List ℤ) → length (boxes s cx cy inner cursor shares cs) ≡ length cs
    boxes_length s cx cy inner [] cursor shares = refl
    boxes_length s cx cy inner (c ∷ cs) cursor shares = ap suc (boxes_length s cx cy inner cs _ _)

-- ---- what the arrays hold

abbrev pub Styled : List LayoutSlot → Forest Info → Type 0
Styled l t = AllF (λ i g x. (layout_at l i).style ≡ x.style) t

abbrev pub Boxed : List LayoutSlot → Forest Info → Type 0
Boxed l t = AllF (λ i g x. (layout_at l i).rect ≡ x.rect) t

abbrev want_of : LayoutSlot → Extent
want_of z = record { width = z.wanted_width; height = z.wanted_height }

-- the sizes wanted are in the arrays
abbrev WantR : List LayoutSlot → Forest Info → Type 0
WantR l nil = Unit {0}
WantR l (node i g x cs sib) = ((seen l i).wants ≡ want x.style (wants_f cs)) × WantR l cs × WantR l sib

abbrev rects_at : List LayoutSlot → List ℕ → List Rect
rects_at l is = map (λ (i : ℕ). (layout_at l i).rect) is

-- each node's children stand where it puts them
abbrev PlaceR : List LayoutSlot → Forest Info → Type 0
PlaceR l nil = Unit {0}
PlaceR l (node i g x cs sib) = (rects_at l (tops cs) ≡ place x.style (layout_at l i).rect (wants_f cs)) × PlaceR l cs × PlaceR l sib

style_keep : (l l' : List LayoutSlot) (f : Forest Info) → ((j : ℕ) → (layout_at l' j).style ≡ (layout_at l j).style) → Styled l f → Styled l' f
style_keep l l' f h r = all_map (λ i g x. (layout_at l i).style ≡ x.style) (λ i g x. (layout_at l' i).style ≡ x.style) f (λ i g x _ q. h i ∙ q) r

want_frame : (l l' : List LayoutSlot) (f : Forest Info) → ((j : ℕ) → 0 < cnt j f → (seen l' j).wants ≡ (seen l j).wants) → WantR l f → WantR l' f
want_frame l l' nil h r = tt
want_frame l l' (node i g x cs sib) h r = let d = δ-refl i in
    (h i (omega arith) ∙ r.0, want_frame l l' cs (λ j c. h j (omega arith)) r.1, want_frame l l' sib (λ j c. h j (omega arith)) r.2)

want_app : (l : List LayoutSlot) (f t : Forest Info) → WantR l f → WantR l t → WantR l (app f t)
want_app l nil t r s = s
want_app l (node i g x cs sib) t r s = (r.0, r.1, want_app l sib t r.2 s)

want_cut : (l : List LayoutSlot) (f t : Forest Info) → WantR l (app f t) → WantR l f × WantR l t
want_cut l nil t r = (tt, r)
want_cut l (node i g x cs sib) t r = let h = want_cut l sib t r.2 in ((r.0, r.1, h.0), h.1)

place_cut : (l : List LayoutSlot) (f t : Forest Info) → PlaceR l (app f t) → PlaceR l f × PlaceR l t
place_cut l nil t r = (tt, r)
place_cut l (node i g x cs sib) t r = let h = place_cut l sib t r.2 in ((r.0, r.1, h.0), h.1)

seen_wants : (l : List LayoutSlot) (f : Forest Info) → Styled l f → WantR l f → map (seen l) (tops f) ≡ wants_f f
seen_wants l nil s w = refl
seen_wants l (node i g x cs sib) s w =
    let e : seen l i ≡ record { style = x.style; wants = want x.style (wants_f cs) } = λ r. record { style = s.0 r; wants = w.0 r } in
    let I = seen_wants l sib s.2 w.2 in
    λ r. e r ∷ I r

-- ---- wanted sizes

record Measured (l l' : List LayoutSlot) (q : Forest Info) : Type 0 where
  long : length l' ≡ length l
  wants : WantR l' q
  styles : (j : ℕ) → (layout_at l' j).style ≡ (layout_at l j).style

measured_step : (a : Slots) (i g : ℕ) (x : Info) (cs sib : Forest Info) (l l1 : List LayoutSlot) → length l ≡ 128 → Measured l l1 (app sib cs) → KidR a (node i g x cs sib) → Styled l (node i g x cs sib)
    → ((j : ℕ) → cnt j (node i g x cs sib) ≤ 1) → InRange (node i g x cs sib) → size (node i g x cs sib) ≤ 128
    → Measured l (measure_at a l1 i) (node i g x cs sib)
unfolding measure_at
measured_step a i g x cs sib l l1 len I r s u b hn =
    let d = δ-refl i in
    let ui = u i in
    let bi = b i (omega arith) in
    let lg = I.long in
    let WW = want_cut l1 sib cs I.wants in
    let s1 : Styled l1 (node i g x cs sib) = style_keep l l1 (node i g x cs sib) I.styles s in
    let e1 : kids_at a i ≡ tops cs = kids_tops a i cs r.0 r.1 (λ j c. b j (omega arith)) (omega arith) in
    let e2 : map (seen l1) (tops cs) ≡ wants_f cs = seen_wants l1 cs s1.1 WW.1 in
    let nv : LayoutSlot = with_wants (layout_at l1 i) (want (layout_at l1 i).style (map (seen l1) (kids_at a i))) in
    let l2 : List LayoutSlot = set l1 i nv in
    let e3 : layout_at l2 i ≡ nv = a_stored_layout_is_there l1 i nv (omega arith) in
    let e4 : want (layout_at l1 i).style (map (seen l1) (kids_at a i)) ≡ want x.style (wants_f cs) =
    ap (λ (k : List ℕ). want (layout_at l1 i).style (map (seen l1) k)) e1 ∙ ap (want (layout_at l1 i).style) e2 ∙ ap (λ (y : Style). want y (wants_f cs)) s1.0 in
    record {
      long = length-set l1 i nv ∙ lg;
      wants = (
        ap want_of e3 ∙ e4,
        want_frame l1 l2 cs (λ j c. ap want_of (other_layouts_stay l1 i j nv (ne_by cs j i c (omega arith)))) WW.1,
        want_frame l1 l2 sib (λ j c. ap want_of (other_layouts_stay l1 i j nv (ne_by sib j i c (omega arith)))) WW.0,
      );
      styles = λ j. a_layout_store_keeps (λ (z : LayoutSlot). z.style) l1 i j nv refl ∙ I.styles j;
    }

measure_all_lem : (k : ℕ) (a : Slots) (q : Forest Info) (l : List LayoutSlot) → length l ≡ 128 → KidR a q → Styled l q → ((j : ℕ) → cnt j q ≤ 1) → InRange q → size q ≤ 128 → size q ≤ k
    → Measured l (measure_all a l (bfs k q)) q
unfolding measure_all
measure_all_lem zero a nil l len r s u b hn hk = record { long = refl; wants = tt; styles = λ j. refl }
measure_all_lem zero a (node i g x cs sib) l len r s u b hn hk = absurd (omega arith)
measure_all_lem (suc k) a nil l len r s u b hn hk = record { long = refl; wants = tt; styles = λ j. refl }
measure_all_lem (suc k) a (node i g x cs sib) l len r s u b hn hk =
    let Q : Forest Info = app sib cs in
    let w = size_app sib cs in
    let I : Measured l (measure_all a l (bfs k Q)) Q = measure_all_lem k a Q l len (kid_app a sib cs r.2 (seg_kid a cs i NIL NIL r.1))
    (all_app (λ i g x. (layout_at l i).style ≡ x.style) sib cs s.2 s.1)
    (λ j. let v = u j in let c = cnt_app j sib cs in omega arith) (λ j h. let c = cnt_app j sib cs in b j (omega arith)) (omega arith) (omega arith) in
    measured_step a i g x cs sib l (measure_all a l (bfs k Q)) len I r s u b hn

-- ---- boxes

rects_out : (l : List LayoutSlot) (cs : List ℕ) (rs : List Rect) (j : ℕ) → occ j cs ≡ 0 → layout_at (set_rects l cs rs) j ≡ layout_at l j
unfolding set_rects
rects_out l [] rs j z = refl
rects_out l (c ∷ cs) [] j z = refl
rects_out l (c ∷ cs) (r ∷ rs) j z =
    rects_out (set l c (with_rect (layout_at l c) r)) cs rs j (omega arith) ∙ other_layouts_stay l c j (with_rect (layout_at l c) r) (λ e. let d = δ-same c j (sym e) in omega arith)

rects_keep : {B : Type 0} (π : LayoutSlot → B) → ((s : LayoutSlot) (r : Rect) → π (with_rect s r) ≡ π s) → (l : List LayoutSlot) (cs : List ℕ) (rs : List Rect) (j : ℕ)
    → π (layout_at (set_rects l cs rs) j) ≡ π (layout_at l j)
unfolding set_rects
rects_keep π h l [] rs j = refl
rects_keep π h l (c ∷ cs) [] j = refl
rects_keep π h l (c ∷ cs) (r ∷ rs) j =
    rects_keep π h (set l c (with_rect (layout_at l c) r)) cs rs j ∙ a_layout_store_keeps π l c j (with_rect (layout_at l c) r) (h (layout_at l c) r)

pub rects_len : (l : List LayoutSlot) (cs : List ℕ) (rs : List Rect) → length (set_rects l cs rs) ≡ length l
unfolding set_rects
rects_len l [] rs = refl
rects_len l (c ∷ cs) [] = refl
rects_len l (c ∷ cs) (r ∷ rs) = rects_len (set l c (with_rect (layout_at l c) r)) cs rs ∙ length-set l c (with_rect (layout_at l c) r)

rects_in : (l : List LayoutSlot) (cs : List ℕ) (rs : List Rect) → length rs ≡ length cs → ((j : ℕ) → occ j cs ≤ 1) → ((j : ℕ) → 0 < occ j cs → j < length l) → rects_at (set_rects l cs rs) cs ≡ rs
unfolding set_rects
rects_in l [] [] e u b = refl
rects_in l [] (r ∷ rs) e u b = absurd (omega arith)
rects_in l (c ∷ cs) [] e u b = absurd (omega arith)
rects_in l (c ∷ cs) (r ∷ rs) e u b =
    let d = δ-refl c in
    let uc = u c in
    let nv : LayoutSlot = with_rect (layout_at l c) r in
    let l1 : List LayoutSlot = set l c nv in
    let e1 : layout_at (set_rects l1 cs rs) c ≡ nv = rects_out l1 cs rs c (omega arith) ∙ a_stored_layout_is_there l c nv (b c (omega arith)) in
    let lg = length-set l c nv in
    let I = rects_in l1 cs rs (omega arith) (λ j. let v = u j in omega arith) (λ j h. let v = b j (omega arith) in omega arith) in
    λ z. (e1 z).rect ∷ I z

rects_same : (l l' : List LayoutSlot) (cs : List ℕ) → ((j : ℕ) → 0 < occ j cs → (layout_at l' j).rect ≡ (layout_at l j).rect) → rects_at l' cs ≡ rects_at l cs
rects_same l l' [] h = refl
rects_same l l' (c ∷ cs) h =
    let d = δ-refl c in
    let e = h c (omega arith) in
    let I = rects_same l l' cs (λ j q. h j (omega arith)) in
    λ z. e z ∷ I z

wants_length : (f : Forest Info) → length (wants_f f) ≡ length (tops f)
wants_length nil = refl
wants_length (node i g x cs sib) = ap suc (wants_length sib)

record Arranged (l l' : List LayoutSlot) (q : Forest Info) : Type 0 where
  long : length l' ≡ length l
  placed : PlaceR l' q
  kept : (j : ℕ) → cnt j q ≡ top j q → (layout_at l' j).rect ≡ (layout_at l j).rect
  styles : (j : ℕ) → (layout_at l' j).style ≡ (layout_at l j).style

arrange_all_lem : (k : ℕ) (a : Slots) (q : Forest Info) (l : List LayoutSlot) → length l ≡ 128 → KidR a q → Styled l q → WantR l q → ((j : ℕ) → cnt j q ≤ 1) → InRange q → size q ≤ 128 → size q ≤ k
    → Arranged l (arrange_all a l (bfs k q)) q
unfolding arrange_all arrange_at
arrange_all_lem zero a nil l len r s w u b hn hk = record { long = refl; placed = tt; kept = λ j e. refl; styles = λ j. refl }
arrange_all_lem zero a (node i g x cs sib) l len r s w u b hn hk = absurd (omega arith)
arrange_all_lem (suc k) a nil l len r s w u b hn hk = record { long = refl; placed = tt; kept = λ j e. refl; styles = λ j. refl }
arrange_all_lem (suc k) a (node i g x cs sib) l len r s w u b hn hk =
    let d = δ-refl i in
    let ui = u i in
    let Q : Forest Info = app sib cs in
    let wQ = size_app sib cs in
    let e1 : kids_at a i ≡ tops cs = kids_tops a i cs r.0 r.1 (λ j c. b j (omega arith)) (omega arith) in
    let e2 : map (seen l) (tops cs) ≡ wants_f cs = seen_wants l cs s.1 w.1 in
    let rs : List Rect = place x.style (layout_at l i).rect (wants_f cs) in
    let l1 : List LayoutSlot = set_rects l (tops cs) rs in
    let e3 : arrange_at a l i ≡ l1 =
    ap (λ (n : List ℕ). set_rects l n (place (layout_at l i).style (layout_at l i).rect (map (seen l) n))) e1
    ∙ ap (λ (n : List Child). set_rects l (tops cs) (place (layout_at l i).style (layout_at l i).rect n)) e2
    ∙ ap (λ (y : Style). set_rects l (tops cs) (place y (layout_at l i).rect (wants_f cs))) s.0 in
    let lenm : length (wants_f cs) ≡ length (tops cs) = wants_length cs in
    let lg : length l1 ≡ length l = rects_len l (tops cs) rs in
    let in1 : rects_at l1 (tops cs) ≡ rs = rects_in l (tops cs) rs (as_many_boxes_as_children x.style (layout_at l i).rect (wants_f cs) ∙ lenm)
    (λ j. let v = u j in let o = occ_tops j cs in let t = top_le_cnt j cs in omega arith)
    (λ j h. let o = occ_tops j cs in let t = top_le_cnt j cs in let v = b j (omega arith) in omega arith) in
    let st1 : (j : ℕ) → (layout_at l1 j).style ≡ (layout_at l j).style = rects_keep (λ (t : LayoutSlot). t.style) (λ _ _. refl) l (tops cs) rs in
    let wa1 : (j : ℕ) → (seen l1 j).wants ≡ (seen l j).wants =
    rects_keep want_of (λ _ _. refl) l (tops cs) rs in
    let I : Arranged l1 (arrange_all a l1 (bfs k Q)) Q = arrange_all_lem k a Q l1 (lg ∙ len) (kid_app a sib cs r.2 (seg_kid a cs i NIL NIL r.1))
    (style_keep l l1 Q st1 (all_app (λ i g x. (layout_at l i).style ≡ x.style) sib cs s.2 s.1)) (want_frame l l1 Q (λ j _. wa1 j) (want_app l sib cs w.2 w.1))
    (λ j. let v = u j in let c = cnt_app j sib cs in omega arith) (λ j h. let c = cnt_app j sib cs in b j (omega arith)) (omega arith) (omega arith) in
    let l2 : List LayoutSlot = arrange_all a l1 (bfs k Q) in
    let PP = place_cut l2 sib cs I.placed in
    let ci = cnt_app i sib cs in
    let ti = top_app i sib cs in
    let tc = top_le_cnt i cs in
    let ts = top_le_cnt i sib in
    let oi = occ_tops i cs in
    let keptI : (layout_at l2 i).rect ≡ (layout_at l i).rect = I.kept i (omega arith) ∙ ap (λ (t : LayoutSlot). t.rect) (rects_out l (tops cs) rs i (omega arith)) in
    subst (λ (m : List LayoutSlot). Arranged l (arrange_all a m (bfs k Q)) (node i g x cs sib)) (sym e3) (record {
      long = I.long ∙ lg;
      placed = (
        rects_same l1 l2 (tops cs)
            (λ j h. let o = occ_tops j cs in let t = top_le_cnt j cs in let t2 = top_le_cnt j sib in let v = u j in let c = cnt_app j sib cs in let t3 = top_app j sib cs in I.kept j (omega arith))
            ∙ in1 ∙ ap (λ (z : Rect). place x.style z (wants_f cs)) (sym keptI),
        PP.1,
        PP.0,
      );
      kept = λ j h. eq_cases i j
          (λ e _ _. subst (λ (n : ℕ). (layout_at l2 n).rect ≡ (layout_at l n).rect) e keptI)
          (λ e _ dd. let t = top_le_cnt j cs in let t2 = top_le_cnt j sib in let c = cnt_app j sib cs in let t3 = top_app j sib cs in let o = occ_tops j cs in
          I.kept j (omega arith) ∙ ap (λ (t : LayoutSlot). t.rect) (rects_out l (tops cs) rs j (omega arith)));
      styles = λ j. I.styles j ∙ st1 j;
    })

-- what is placed is what the recursion gives
place_box : (l : List LayoutSlot) (f : Forest Info) → PlaceR l f → Boxed l (place_f f (rects_at l (tops f)))
place_box l nil p = tt
place_box l (node i g x cs sib) p = (refl, subst (λ (rs : List Rect). Boxed l (place_f cs rs)) p.0 (place_box l cs p.1), place_box l sib p.2)

-- ---- a whole pass

pub record PassOver (l l' : List LayoutSlot) (t : Forest Info) (v : Viewport) : Type 0 where
  pub long : length l' ≡ 128
  pub placed : Boxed l' (place_f t (view_rect v ∷ []))
  pub styles : (j : ℕ) → (layout_at l' j).style ≡ (layout_at l j).style

pub a_pass_places_every_node : {n : ℕ} {a : Slots} {free : ℕ} {t : Forest Info} {fl : List ℕ} → Rel n a free t fl → (l : List LayoutSlot) (v : Viewport) → length l ≡ 128 → Styled l t
    → PassOver l (passed a l v) t v
unfolding passed
a_pass_places_every_node {a = a} {t = t} r l v len s =
    let et : tops t ≡ 0 ∷ [] = tops_of_the_tree r in
    let u : (j : ℕ) → cnt j t ≤ 1 = λ j. let h = once r j in omega arith in
    let b : InRange t = rel_in_range r in
    let hn : size t ≤ 128 = rel_size r in
    let kd : KidR a t = seg_kid a t NIL NIL NIL r.links in
    let eo : order 128 a (0 ∷ []) ≡ bfs 128 t = ap (order 128 a) (sym et) ∙ order_bfs 128 a t kd b hn in
    let M = measure_all_lem 128 a t l len kd s u b hn hn in
    let l1 : List LayoutSlot = measure_all a l (bfs 128 t) in
    let nv : LayoutSlot = with_rect (layout_at l1 0) (view_rect v) in
    let l2 : List LayoutSlot = set l1 0 nv in
    let lg = M.long in
    let lg2 = length-set l1 0 nv in
    let d0 = δ-refl 0 in
    let o0 = occ_tops 0 t in
    let w0 : top 0 t ≡ 1 = sym o0 ∙ ap (occ 0) et ∙ omega arith in
    let c0 = top_le_cnt 0 t in
    let u0 = u 0 in
    let st2 : (j : ℕ) → (layout_at l2 j).style ≡ (layout_at l j).style = λ j. a_layout_store_keeps (λ (q : LayoutSlot). q.style) l1 0 j nv refl ∙ M.styles j in
    let A = arrange_all_lem 128 a t l2 (omega arith) kd (style_keep l l2 t st2 s)
    (want_frame l1 l2 t (λ j _. a_layout_store_keeps want_of l1 0 j nv refl) M.wants) u b hn hn in
    let l3 : List LayoutSlot = arrange_all a l2 (bfs 128 t) in
    let e3 : (layout_at l3 0).rect ≡ view_rect v = A.kept 0 (omega arith) ∙ ap (λ (q : LayoutSlot). q.rect) (a_stored_layout_is_there l1 0 nv (omega arith)) in
    let e4 : rects_at l3 (tops t) ≡ view_rect v ∷ [] = ap (rects_at l3) et ∙ ap (λ (z : Rect). z ∷ []) e3 in
    let lg3 = A.long in
    subst (λ (o : List ℕ). PassOver l (arrange_all a (set (measure_all a l o) 0 (with_rect (layout_at (measure_all a l o) 0) (view_rect v))) o) t v) (sym eo) (record {
      long = omega arith;
      placed = subst (λ (rs : List Rect). Boxed l3 (place_f t rs)) e4 (place_box l3 t A.placed);
      styles = λ j. A.styles j ∙ st2 j;
    })

pub placing_keeps_what_boxes_leave_alone : (P : ℕ → ℕ → Info → Type 0) → ((i g : ℕ) (x : Info) (r : Rect) → P i g x → P i g (with_box x r)) → (f : Forest Info) (rs : List Rect) → AllF P f → AllF P (place_f f rs)
placing_keeps_what_boxes_leave_alone P h nil rs q = tt
placing_keeps_what_boxes_leave_alone P h (node i g x cs sib) [] q = q
placing_keeps_what_boxes_leave_alone P h (node i g x cs sib) (r ∷ rs) q =
    (h i g x r q.0, placing_keeps_what_boxes_leave_alone P h cs (place x.style r (wants_f cs)) q.1, placing_keeps_what_boxes_leave_alone P h sib rs q.2)

pub placing_keeps_the_shape : (f : Forest Info) (rs : List Rect) → shape f ≡ shape (place_f f rs)
placing_keeps_the_shape nil rs = refl
placing_keeps_the_shape (node i g x cs sib) [] = refl
placing_keeps_the_shape (node i g x cs sib) (r ∷ rs) =
    let I = placing_keeps_the_shape cs (place x.style r (wants_f cs)) in
    let J = placing_keeps_the_shape sib rs in
    λ z. node i g tt (I z) (J z)

pub placing_keeps_sums : (w : ℕ → ℕ → Info → ℕ) → ((i g : ℕ) (x : Info) (r : Rect) → w i g (with_box x r) ≡ w i g x) → (f : Forest Info) (rs : List Rect) → wt w (place_f f rs) ≡ wt w f
placing_keeps_sums w h nil rs = refl
placing_keeps_sums w h (node i g x cs sib) [] = refl
placing_keeps_sums w h (node i g x cs sib) (r ∷ rs) =
    let e = h i g x r in let I = placing_keeps_sums w h cs (place x.style r (wants_f cs)) in let J = placing_keeps_sums w h sib rs in omega arith

-- a pass leaves what is worn
pub a_pass_leaves_what_is_worn : (l l' : List LayoutSlot) (states : List StateSlot) (t : Forest Info) (v : Viewport) → PassOver l l' t v
    → AllF (λ i g x. Worn l states i x) t → AllF (λ i g x. Worn l' states i x) (place_f t (view_rect v ∷ []))
a_pass_leaves_what_is_worn l l' states t v p w =
    all_map (λ i g x. Worn l states i x) (λ i g x. Worn l' states i x) (place_f t (view_rect v ∷ [])) (λ i g x _ q. (p.styles i ∙ q.0, q.1))
    (placing_keeps_what_boxes_leave_alone (λ i g x. Worn l states i x) (λ i g x r q. q) t (view_rect v ∷ []) w)
