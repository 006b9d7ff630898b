-- A pass uses no earlier box: the boxes of the nodes after it are those of the forest laid out, which takes of the layout slots the styles
-- alone. Assumes nothing.
use mathlib.Core.Path.{◌≡◌, refl, sym, ap, ◌∙◌}
use mathlib.Core.Bool.{true}
use mathlib.Core.List.{List, [], ◌∷◌, map}
use Prim.Native.Nat.{ℕ, zero, suc, ◌<◌}
use native.Mathlib.Omega.{arith}
use lib.ListN.{length, get_or}
use Rattle.arena.specs.Forest.{Forest, map_f}
use Rattle.boxes.specs.Nodes.{Info, new_info, dressed, place_f}
use Rattle.arena.specs.Slots.{Slots, at}
use Rattle.boxes.specs.Styles.{fresh_style, no_layout, layout_at}
use Rattle.boxes.specs.Layout.{view_rect, passed}
use Rattle.boxes.specs.declared.Style.{Style}
use Rattle.boxes.specs.declared.LayoutSlot.{LayoutSlot}
use Rattle.boxes.specs.declared.Viewport.{Viewport}
use Rattle.arena.proofs.Forests.ForestLaws.{cnt}
use Rattle.arena.proofs.Forests.Relations.{Rel}
use Rattle.arena.proofs.Forests.Payloads.{AllF, all_map, all_both, all_map_f, all_at, shape, shape_map, cnt_shape, rel_shape}
use Rattle.arena.proofs.Forests.Ids.{nodes_have_their_slots_generation}
use Rattle.boxes.proofs.Layouts.PassLaws.{a_pass_places_every_node, placing_keeps_the_shape}

-- lists of which each element has the style of the other's
pub equal_styles_slot_by_slot : (l l' : List LayoutSlot) → map (λ (x : LayoutSlot). x.style) l' ≡ map (λ (x : LayoutSlot). x.style) l → (j : ℕ) → (layout_at l' j).style ≡ (layout_at l j).style
unfolding layout_at
equal_styles_slot_by_slot l l' e j = sym (of_a_map l' j) ∙ ap (λ (ys : List Style). get_or ys j no_layout.style) e ∙ of_a_map l j
  where
    of_a_map : (m : List LayoutSlot) (i : ℕ) → get_or (map (λ (x : LayoutSlot). x.style) m) i no_layout.style ≡ (get_or m i no_layout).style
    of_a_map [] i = refl
    of_a_map (x ∷ xs) zero = refl
    of_a_map (x ∷ xs) (suc i) = of_a_map xs i

pub the_boxes_after_a_pass_are_by_the_styles : {n : ℕ} {s : Slots} {free : ℕ} {t : Forest (Unit {0})} {fl : List ℕ} → Rel n s free t fl → (l l' : List LayoutSlot) → length l ≡ 128 → length l' ≡ 128
    → ((j : ℕ) → (layout_at l' j).style ≡ (layout_at l j).style) → (v : Viewport) (j : ℕ) → 0 < cnt j t → (layout_at (passed s l' v) j).rect ≡ (layout_at (passed s l v) j).rect
the_boxes_after_a_pass_are_by_the_styles {n} {s} {free} {t} {fl} r l l' len len' e v j c =
    -- the forest with the styles
    let w : ℕ → ℕ → Unit {0} → Info = λ i g x. dressed (new_info 0) fresh_style [] 0 0 (layout_at l i).style in
    let f : Forest Info = map_f w t in
    let sh : shape t ≡ shape f = sym (shape_map w t) in
    let r' : Rel n s free f fl = rel_shape n s free t f fl sh r in
    let st : AllF (λ i g x. (layout_at l i).style ≡ x.style) f = all_map_f (λ i g x. (layout_at l i).style ≡ x.style) w t
    (all_map (λ i g x. ((at s i).generation ≡ g) × ((at s i).live ≡ true)) (λ i g x. (layout_at l i).style ≡ (w i g x).style) t (λ i g x _ _. refl) (nodes_have_their_slots_generation r)) in
    let st' : AllF (λ i g x. (layout_at l' i).style ≡ x.style) f = all_map (λ i g x. (layout_at l i).style ≡ x.style) (λ i g x. (layout_at l' i).style ≡ x.style) f (λ i g x _ q. e i ∙ q) st in
    let p = (a_pass_places_every_node r' l v len st).placed in
    let p' = (a_pass_places_every_node r' l' v len' st').placed in
    let q = cnt_shape j t (place_f f (view_rect v ∷ [])) (sh ∙ placing_keeps_the_shape f (view_rect v ∷ [])) in
    let at_j = all_at (λ i g x. ((layout_at (passed s l v) i).rect ≡ x.rect) × ((layout_at (passed s l' v) i).rect ≡ x.rect)) j (place_f f (view_rect v ∷ []))
    (all_both (λ i g x. (layout_at (passed s l v) i).rect ≡ x.rect) (λ i g x. (layout_at (passed s l' v) i).rect ≡ x.rect) (place_f f (view_rect v ∷ [])) p p') (omega arith) in
    at_j.holds.1 ∙ sym at_j.holds.0
