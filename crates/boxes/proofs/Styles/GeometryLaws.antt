-- Geometry stays just where the styles without their backgrounds are the same. Assumes nothing.
use mathlib.Core.List.{[]}
use mathlib.Core.Path.{◌≡◌, refl, sym, ap, ◌∙◌}
use mathlib.Core.Bool.{Bool, true, false, not}
use lib.IntN.{ℤ, pos, negsuc}
use Rattle.arithmetic.specs.Tests.{same, same_z}
use Rattle.boxes.specs.Geometry.{same_direction, same_size, same_align, same_edges, moves_geometry}
use Rattle.boxes.specs.declared.Style.{Style}
use Rattle.boxes.specs.declared.Edges.{Edges}
use Rattle.boxes.specs.declared.Direction.{Direction}
use Rattle.boxes.specs.declared.Direction.TheVariants.{Row, Column}
use Rattle.boxes.specs.declared.Size.{Size}
use Rattle.boxes.specs.declared.Size.TheVariants.{Auto, Px}
use Rattle.boxes.specs.declared.Align.{Align}
use Rattle.boxes.specs.declared.Align.TheVariants.{Start, Center, End}
use Rattle.arithmetic.proofs.BoolLaws.{no_more, both}
use Rattle.arithmetic.proofs.TestLaws.{same_refl, same_is}

-- ---- the same are equal

pub same_z_is : (m n : ℤ) → same_z m n ≡ true → m ≡ n
same_z_is (pos m) (pos n) e = ap pos (same_is m n e)
same_z_is (pos m) (negsuc n) e = no_more e
same_z_is (negsuc m) (pos n) e = no_more e
same_z_is (negsuc m) (negsuc n) e = ap negsuc (same_is m n e)

same_direction_is : (a b : Direction) → same_direction a b ≡ true → a ≡ b
same_direction_is Row Row e = refl
same_direction_is Row Column e = no_more e
same_direction_is Column Row e = no_more e
same_direction_is Column Column e = refl

same_size_is : (a b : Size) → same_size a b ≡ true → a ≡ b
same_size_is Auto Auto e = refl
same_size_is Auto (Px n) e = no_more e
same_size_is (Px m) Auto e = no_more e
same_size_is (Px m) (Px n) e = ap (λ (z : ℤ). Px z) (same_z_is m n e)

same_align_is : (a b : Align) → same_align a b ≡ true → a ≡ b
same_align_is Start Start e = refl
same_align_is Start Center e = no_more e
same_align_is Start End e = no_more e
same_align_is Center Start e = no_more e
same_align_is Center Center e = refl
same_align_is Center End e = no_more e
same_align_is End Start e = no_more e
same_align_is End Center e = no_more e
same_align_is End End e = refl

same_edges_are : (e f : Edges) → same_edges e f ≡ true → e ≡ f
same_edges_are e f q =
    let a = both (same_z e.left f.left) _ q in
    let b = both (same_z e.right f.right) _ a.1 in
    let c = both (same_z e.top f.top) _ b.1 in
    let l = same_z_is e.left f.left a.0 in
    let r = same_z_is e.right f.right b.0 in
    let t = same_z_is e.top f.top c.0 in
    let m = same_z_is e.bottom f.bottom c.1 in
    λ z. record { left = l z; right = r z; top = t z; bottom = m z }

not_false : (b : Bool) → not b ≡ false → b ≡ true
not_false true e = refl
not_false false e = no_more (sym e)

-- The style without its background.
unfoldable pub geo : Style → Style
geo s = record { direction = s.direction; width = s.width; height = s.height; margin = s.margin; padding = s.padding; gap = s.gap; grow = s.grow; justify = s.justify; align_cross = s.align_cross; background = [] }

pub unmoved_styles_are_the_same : (a b : Style) → moves_geometry a b ≡ false → geo a ≡ geo b
unfolding moves_geometry geo
unmoved_styles_are_the_same a b e =
    let p1 = both (same_direction a.direction b.direction) _ (not_false _ e) in
    let p2 = both (same_size a.width b.width) _ p1.1 in
    let p3 = both (same_size a.height b.height) _ p2.1 in
    let p4 = both (same_edges a.margin b.margin) _ p3.1 in
    let p5 = both (same_edges a.padding b.padding) _ p4.1 in
    let p6 = both (same_z a.gap b.gap) _ p5.1 in
    let p7 = both (same a.grow b.grow) _ p6.1 in
    let p8 = both (same_align a.justify b.justify) _ p7.1 in
    let d = same_direction_is a.direction b.direction p1.0 in
    let w = same_size_is a.width b.width p2.0 in
    let h = same_size_is a.height b.height p3.0 in
    let m = same_edges_are a.margin b.margin p4.0 in
    let p = same_edges_are a.padding b.padding p5.0 in
    let g = same_z_is a.gap b.gap p6.0 in
    let r = same_is a.grow b.grow p7.0 in
    let j = same_align_is a.justify b.justify p8.0 in
    let c = same_align_is a.align_cross b.align_cross p8.1 in
    λ z. record { direction = d z; width = w z; height = h z; margin = m z; padding = p z; gap = g z; grow = r z; justify = j z; align_cross = c z; background = [] }

-- ---- what is equal is the same

pub z_refl : (m : ℤ) → same_z m m ≡ true
z_refl (pos m) = same_refl m
z_refl (negsuc m) = same_refl m

direction_refl : (a : Direction) → same_direction a a ≡ true
direction_refl Row = refl
direction_refl Column = refl

size_refl : (a : Size) → same_size a a ≡ true
size_refl Auto = refl
size_refl (Px m) = z_refl m

align_refl : (a : Align) → same_align a a ≡ true
align_refl Start = refl
align_refl Center = refl
align_refl End = refl

edges_refl : (e : Edges) → same_edges e e ≡ true
edges_refl e = rw (z_refl e.left, z_refl e.right, z_refl e.top, z_refl e.bottom)

a_style_is_unmoved : (a : Style) → moves_geometry a a ≡ false
unfolding moves_geometry
a_style_is_unmoved a =
    rw (direction_refl a.direction, size_refl a.width, size_refl a.height, edges_refl a.margin, edges_refl a.padding, z_refl a.gap, same_refl a.grow, align_refl a.justify, align_refl a.align_cross)

pub the_same_styles_are_unmoved : (a b : Style) → geo a ≡ geo b → moves_geometry a b ≡ false
unfolding moves_geometry geo
the_same_styles_are_unmoved a b e = ap (λ (s : Style). moves_geometry a s) (sym e) ∙ a_style_is_unmoved a
