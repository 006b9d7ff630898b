-- Document 02, **Wish 5**, of layout: a centred run stands on a whole pixel, and main and cross direction are aligned by one rule. This is
-- `CentredOnWholePixels`, which is proved in proofs/Layouts/Centring.antt.
use Rattle.std.specs.Prelude.{◌≡◌, true, [], ◌∷◌, map, ℕ, ℤ, pos}
use Rattle.std.specs.Int.Signed.{le_z}
use Rattle.arithmetic.specs.Scalar.{add_sat, sub_sat}
use Rattle.arithmetic.specs.Halves.{CentresOnPixels}
use Rattle.boxes.specs.Layout.{Child, offset, place}
use Rattle.boxes.specs.declared.Align.TheVariants.{Center}
use Rattle.boxes.specs.declared.Rect.{Rect}
use Rattle.boxes.specs.declared.Style.{Style}

-- What a child with its margins leaves of a padded box, from left to right and from top to bottom.
abbrev pub free_across : Style → Rect → Child → ℤ
free_across s r c = sub_sat (sub_sat (sub_sat r.width s.padding.left) s.padding.right) (add_sat (add_sat c.wants.width c.style.margin.left) c.style.margin.right)

abbrev pub free_down : Style → Rect → Child → ℤ
free_down s r c = sub_sat (sub_sat (sub_sat r.height s.padding.top) s.padding.bottom) (add_sat (add_sat c.wants.height c.style.margin.top) c.style.margin.bottom)

pub record CentredOnWholePixels : Type 0 where
  pub centres : CentresOnPixels (λ (free : ℕ). offset Center (pos free))
  pub stays_at_the_start : (free : ℤ) → le_z free (pos 0) ≡ true → offset Center free ≡ pos 0
  -- a child that is alone and does not grow has its left and its top edge by the same offset, in a row, where across is the main direction, and in a
  -- column, where it is the cross one
  pub left_edge : (s : Style) (r : Rect) (c : Child) → s.justify ≡ s.align_cross → c.style.grow ≡ 0
      → map (λ (b : Rect). b.x) (place s r (c ∷ [])) ≡ add_sat (add_sat (add_sat r.x s.padding.left) (offset s.justify (free_across s r c))) c.style.margin.left ∷ []
  pub top_edge : (s : Style) (r : Rect) (c : Child) → s.justify ≡ s.align_cross → c.style.grow ≡ 0
      → map (λ (b : Rect). b.y) (place s r (c ∷ [])) ≡ add_sat (add_sat (add_sat r.y s.padding.top) (offset s.justify (free_down s r c))) c.style.margin.top ∷ []
