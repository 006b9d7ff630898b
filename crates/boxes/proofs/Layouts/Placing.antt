-- One step of placing a node's children. Assumes nothing.
use mathlib.Core.Path.{◌≡◌, refl, sym, ap, ◌∙◌}
use mathlib.Core.List.{List, [], ◌∷◌}
use Prim.Native.Nat.{ℕ, ◌+◌}
use native.Mathlib.Omega.{arith}
use lib.IntN.{ℤ, pos}
use lib.ListN.{get_or, drop, set}
use lib.Seq.{get_or-drop, drop-drop}
use Rattle.boxes.specs.Styles.{layout_at}
use Rattle.boxes.specs.Layout.{Child, boxes, set_rects, with_rect}
use Rattle.boxes.specs.Support.Views.{box_at, past_of}
use Rattle.boxes.specs.declared.Style.{Style}
use Rattle.boxes.specs.declared.Rect.{Rect}
use Rattle.boxes.specs.declared.LayoutSlot.{LayoutSlot}

abbrev pub grow_of : Child → ℕ
grow_of c = c.style.grow

pub boxes_more : (s : Style) (cx cy inner cursor : ℤ) (shares : List ℤ) (c : Child) (cs : List Child) → boxes s cx cy inner cursor shares (c ∷ cs) ≡ box_at s cx cy inner cursor (get_or shares 0 (pos 0)) c ∷ boxes s cx cy inner (past_of s cursor (get_or shares 0 (pos 0)) c) (drop 1 shares) cs
unfolding boxes box_at past_of
boxes_more s cx cy inner cursor [] c cs = refl
boxes_more s cx cy inner cursor (x ∷ xs) c cs = refl

boxes_at : (s : Style) (cx cy inner cursor : ℤ) (shares : List ℤ) (n : ℕ) (c : Child) (cs : List Child) → boxes s cx cy inner cursor (drop n shares) (c ∷ cs) ≡ box_at s cx cy inner cursor (get_or shares n (pos 0)) c ∷ boxes s cx cy inner (past_of s cursor (get_or shares n (pos 0)) c) (drop (n + 1) shares) cs
boxes_at s cx cy inner cursor shares n c cs =
    let e : n + 0 ≡ n = omega arith in
    let g : get_or (drop n shares) 0 (pos 0) ≡ get_or shares n (pos 0) = get_or-drop n shares 0 (pos 0) ∙ ap (λ (k : ℕ). get_or shares k (pos 0)) e in
    let first : boxes s cx cy inner cursor (drop n shares) (c ∷ cs) ≡ box_at s cx cy inner cursor (get_or shares n (pos 0)) c ∷ boxes s cx cy inner (past_of s cursor (get_or shares n (pos 0)) c) (drop 1 (drop n shares)) cs = boxes_more s cx cy inner cursor (drop n shares) c cs ∙ ap (λ (z : ℤ). box_at s cx cy inner cursor z c ∷ boxes s cx cy inner (past_of s cursor z c) (drop 1 (drop n shares)) cs) g in
    first ∙ ap (λ (l : List ℤ). box_at s cx cy inner cursor (get_or shares n (pos 0)) c ∷ boxes s cx cy inner (past_of s cursor (get_or shares n (pos 0)) c) l cs) (drop-drop 1 n shares)

-- The first child has its box; the rest follows, with the next share.
placed_more : (l : List LayoutSlot) (s : Style) (cx cy inner cursor : ℤ) (shares : List ℤ) (n k : ℕ) (ks : List ℕ) (c : Child) (cs : List Child) → set_rects l (k ∷ ks) (boxes s cx cy inner cursor (drop n shares) (c ∷ cs)) ≡ set_rects (set l k (with_rect (layout_at l k) (box_at s cx cy inner cursor (get_or shares n (pos 0)) c))) ks (boxes s cx cy inner (past_of s cursor (get_or shares n (pos 0)) c) (drop (n + 1) shares) cs)
unfolding set_rects
placed_more l s cx cy inner cursor shares n k ks c cs = ap (λ (rs : List Rect). set_rects l (k ∷ ks) rs) (boxes_at s cx cy inner cursor shares n c cs)

pub placed_none : (l : List LayoutSlot) (rs : List Rect) → set_rects l [] rs ≡ l
unfolding set_rects
placed_none l rs = refl

pub placed_step : (l : List LayoutSlot) (s : Style) (cx cy inner cursor : ℤ) (shares : List ℤ) (n m k : ℕ) (ks : List ℕ) (c : Child) (cs : List Child) (x : LayoutSlot) (next : ℤ) (whole : List LayoutSlot)
    → x ≡ with_rect (layout_at l k) (box_at s cx cy inner cursor (get_or shares n (pos 0)) c)
    → next ≡ past_of s cursor (get_or shares n (pos 0)) c
    → m ≡ n + 1
    → set_rects l (k ∷ ks) (boxes s cx cy inner cursor (drop n shares) (c ∷ cs)) ≡ whole
    → set_rects (set l k x) ks (boxes s cx cy inner next (drop m shares) cs) ≡ whole
placed_step l s cx cy inner cursor shares n m k ks c cs x next whole hx hn hm h =
    rw (hx, hn, hm) (sym (placed_more l s cx cy inner cursor shares n k ks c cs) ∙ h)
