-- A pass keeps the number of layout slots, whatever the links are. Assumes nothing.
use mathlib.Core.Path.{◌≡◌, refl, ◌∙◌}
use mathlib.Core.List.{List, [], ◌∷◌, map}
use Prim.Native.Nat.{ℕ}
use lib.ListN.{length, set, length-set}
use Rattle.arena.specs.Slots.{Slots, kids_at, order}
use Rattle.boxes.specs.Styles.{layout_at}
use Rattle.boxes.specs.Layout.{want, place, seen, with_wants, with_rect, measure_at, measure_all, arrange_at, arrange_all, view_rect, passed}
use Rattle.boxes.specs.declared.Viewport.{Viewport}
use Rattle.boxes.specs.declared.LayoutSlot.{LayoutSlot}
use Rattle.boxes.proofs.Layouts.PassLaws.{rects_len}

measures_are_as_many : (s : Slots) (l : List LayoutSlot) (is : List ℕ) → length (measure_all s l is) ≡ length l
unfolding measure_all measure_at
measures_are_as_many s l [] = refl
measures_are_as_many s l (i ∷ is) =
    let m : List LayoutSlot = measure_all s l is in
    length-set m i (with_wants (layout_at m i) (want (layout_at m i).style (map (seen m) (kids_at s i)))) ∙ measures_are_as_many s l is

arranged_are_as_many : (s : Slots) (l : List LayoutSlot) (is : List ℕ) → length (arrange_all s l is) ≡ length l
unfolding arrange_all arrange_at
arranged_are_as_many s l [] = refl
arranged_are_as_many s l (i ∷ is) =
    arranged_are_as_many s (arrange_at s l i) is ∙ rects_len l (kids_at s i) (place (layout_at l i).style (layout_at l i).rect (map (seen l) (kids_at s i)))

pub a_pass_keeps_the_number_of_layout_slots : (s : Slots) (l : List LayoutSlot) (v : Viewport) → length (passed s l v) ≡ length l
unfolding passed
a_pass_keeps_the_number_of_layout_slots s l v =
    let o : List ℕ = order 128 s (0 ∷ []) in
    let m : List LayoutSlot = measure_all s l o in
    arranged_are_as_many s (set m 0 (with_rect (layout_at m 0) (view_rect v))) o ∙ length-set m 0 (with_rect (layout_at m 0) (view_rect v)) ∙ measures_are_as_many s l o
