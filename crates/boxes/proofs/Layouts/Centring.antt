-- A centred run's offset is the half of its free space; and of a child that is alone and does not grow main and cross offset are worked out from
-- what it leaves free in each direction. Assumes nothing.
use mathlib.Core.Path.{◌≡◌, refl, sym, ap, ◌∙◌, fun_ext, subst}
use mathlib.Core.Bool.{true, false}
use mathlib.Core.List.{List, [], ◌∷◌, map}
use Prim.Native.Nat.{ℕ, zero, suc, ◌^◌, ◌<◌}
use native.Mathlib.Omega.{arith}
use borrow.Author.Tests.{lt-leb}
use lib.Dec.{ltb}
use lib.IntN.{ℤ, pos, negsuc, ◌+ℤ◌, +ℤ_idl}
use lib.ListN.{get_or, take}
use lib.Signed.{mag, le_z}
use Rattle.arithmetic.specs.Scalar.{stop, add_sat, sub_sat, half_of}
use Rattle.arithmetic.specs.Growth.{sum_to, total, grow_sum, plan_growth}
use Rattle.arithmetic.specs.Halves.{CentresOnPixels}
use Rattle.arithmetic.proofs.Halves.{half_on_whole_pixels}
use Rattle.arithmetic.proofs.Signed.{stop_keeps_what_fits}
use Rattle.boxes.specs.Layout.{Child, Axes, Extent, axes, extent, outer, content, summed, offset, place, boxes, boxed}
use Rattle.boxes.specs.Centring.{CentredOnWholePixels, free_across, free_down}
use Rattle.boxes.specs.Support.Views.{box_at, inner_of}
use Rattle.boxes.proofs.Layouts.Contents.{content_of_few, boxed_by_parts}
use Rattle.boxes.proofs.Layouts.Sharing.{free_of_no_plan, no_plan_of_no_grow}
use Rattle.boxes.specs.declared.Align.{Align}
use Rattle.boxes.specs.declared.Align.TheVariants.{Center}
use Rattle.boxes.specs.declared.Direction.{Direction}
use Rattle.boxes.specs.declared.Direction.TheVariants.{Row, Column}
use Rattle.boxes.specs.declared.Rect.{Rect}
use Rattle.boxes.specs.declared.Style.{Style}

-- ---- one centred run

offset_is_half : (free : ℕ) → offset Center (pos free) ≡ half_of (pos free)
unfolding offset
offset_is_half zero = refl
offset_is_half (suc n) = let some : le_z (pos (suc n)) (pos 0) ≡ false = lt-leb (suc n) 0 (omega arith) in rw some

offset_centres : CentresOnPixels (λ (free : ℕ). offset Center (pos free))
offset_centres = subst CentresOnPixels (sym (fun_ext offset_is_half)) half_on_whole_pixels.centres

no_room : (free : ℤ) → le_z free (pos 0) ≡ true → offset Center free ≡ pos 0
unfolding offset
no_room free h = rw h

-- ---- a child alone

stop_is_short : (z : ℤ) → mag (stop z) < 2 ^ 63
unfolding stop
stop_is_short (pos n) = omega arith
stop_is_short (negsuc n) = omega arith

from_nothing : (a b : ℤ) → add_sat (pos 0) (add_sat a b) ≡ add_sat a b
unfolding add_sat
from_nothing a b = ap stop (+ℤ_idl (stop (a +ℤ b))) ∙ stop_keeps_what_fits (stop (a +ℤ b)) (record { sfits = stop_is_short (a +ℤ b) })

less_is_short : (a b : ℤ) → mag (sub_sat a b) < 2 ^ 63
unfolding sub_sat
less_is_short a b = stop_is_short _

one_outer : (d : Direction) (c : Child) → add_sat (pos 0) (outer d c).main ≡ (outer d c).main
unfolding outer
one_outer Row c = from_nothing _ _
one_outer Column c = from_nothing _ _

one_content : (s : Style) (c : Child) → (content s (c ∷ [])).main ≡ (outer s.direction c).main
unfolding summed
one_content s c = ap (λ (a : Axes). a.main) (content_of_few s (c ∷ []) (omega arith)) ∙ one_outer s.direction c

one_keeps_all : (l : ℤ) (g : ℕ) → mag l < 2 ^ 63 → g ≡ 0 → sub_sat l (total (take 1 (plan_growth l (g ∷ []) 1))) ≡ l
unfolding grow_sum sum_to
one_keeps_all l g short none =
    let still : ltb 0 (grow_sum (g ∷ []) 1) ≡ false = rw none in
    sym (free_of_no_plan l (g ∷ []) 1 short (no_plan_of_no_grow l (g ∷ []) 1 (omega arith) still))

-- Offsets along a direction's axes, turned to width and height.
turned : (d : Direction) (a : Align) (w h u v : ℤ)
    → extent d (record { main = offset a (sub_sat (axes d w h).main (axes d u v).main); cross = offset a (sub_sat (axes d w h).cross (axes d u v).cross) }) ≡ record { width = offset a (sub_sat w u); height = offset a (sub_sat h v) }
turned Row a w h u v = refl
turned Column a w h u v = refl

corner_of : Rect → Extent
corner_of b = record { width = b.x; height = b.y }

-- The corner of a child's box that is shifted so far from the corner of the content.
placed_at : Style → Rect → Child → Extent → Extent
placed_at s r c e = record { width = add_sat (add_sat (add_sat r.x s.padding.left) e.width) c.style.margin.left; height = add_sat (add_sat (add_sat r.y s.padding.top) e.height) c.style.margin.top }

corner_of_boxed : (s : Style) (r : Rect) (c : Child) (cursor across growth : ℤ)
    → corner_of (boxed s.direction (add_sat r.x s.padding.left) (add_sat r.y s.padding.top) cursor across growth c) ≡ placed_at s r c (extent s.direction (record { main = cursor; cross = across }))
unfolding corner_of placed_at
corner_of_boxed s r c cursor across growth = ap corner_of (boxed_by_parts s.direction _ _ cursor across growth c)

-- What is left for the child to grow by, and its share of that.
abbrev leftover_of : Style → Rect → Child → ℤ
leftover_of s r c = sub_sat (inner_of s.direction s.padding r).main (content s (c ∷ [])).main

abbrev shares_of : Style → Rect → Child → List ℤ
shares_of s r c = take 1 (plan_growth (leftover_of s r c) (c.style.grow ∷ []) 1)

one_box : (s : Style) (r : Rect) (c : Child)
    → place s r (c ∷ []) ≡ box_at s (add_sat r.x s.padding.left) (add_sat r.y s.padding.top) (inner_of s.direction s.padding r).cross (offset s.justify (sub_sat (leftover_of s r c) (total (shares_of s r c)))) (get_or (shares_of s r c) 0 (pos 0)) c ∷ []
unfolding place boxes box_at inner_of
one_box s r c = refl

corner : (s : Style) (r : Rect) (c : Child) → s.justify ≡ s.align_cross → c.style.grow ≡ 0
    → map corner_of (place s r (c ∷ [])) ≡ placed_at s r c (record { width = offset s.justify (free_across s r c); height = offset s.justify (free_down s r c) }) ∷ []
unfolding outer box_at inner_of
corner s r c same none =
    let d : Direction = s.direction in
    let room : Axes = inner_of d s.padding r in
    let o : Axes = outer d c in
    let free : ℤ = sub_sat (leftover_of s r c) (total (shares_of s r c)) in
    let main : free ≡ sub_sat room.main o.main = one_keeps_all (leftover_of s r c) c.style.grow (less_is_short _ _) none ∙ ap (sub_sat room.main) (one_content s c) in
    let cross : ℤ = sub_sat room.cross o.cross in
    ap (map corner_of) (one_box s r c)
    ∙ ap (λ (e : Extent). e ∷ []) (corner_of_boxed s r c (offset s.justify free) (offset s.align_cross cross) (get_or (shares_of s r c) 0 (pos 0)))
    ∙ ap (λ (z : ℤ). placed_at s r c (extent d (record { main = offset s.justify z; cross = offset s.align_cross cross })) ∷ []) main
    ∙ ap (λ (a : Align). placed_at s r c (extent d (record { main = offset s.justify (sub_sat room.main o.main); cross = offset a cross })) ∷ []) (sym same)
    ∙ ap (λ (e : Extent). placed_at s r c e ∷ []) (turned d s.justify _ _ _ _)

pub centred_on_whole_pixels : CentredOnWholePixels
unfolding corner_of placed_at place boxes
centred_on_whole_pixels = record {
  centres = offset_centres;
  stays_at_the_start = no_room;
  left_edge = λ s r c same none. ap (map (λ (e : Extent). e.width)) (corner s r c same none);
  top_edge = λ s r c same none. ap (map (λ (e : Extent). e.height)) (corner s r c same none);
}
