-- Equality as it is derived is the one that the definitions spell out. Assumes nothing.
use Rattle.std.proofs.Common.{◌≡◌, refl, sym, ap, ◌∙◌, Bool, true, false, ◌&&◌, not, ℤ, ℕ, List}
use Rattle.std.specs.Ordering.{int_eq}
use Rattle.std.specs.Cmp.{signed_Decides}
use Rattle.std.proofs.lemmas.Cmp.{nat_list_eq_equiv}
use Rattle.std.proofs.lemmas.Bool.Decides.{same_from_decides}
use Rattle.arithmetic.specs.Tests.{same, same_z}
use Rattle.boxes.specs.Geometry.{same_direction, same_size, same_align, same_edges, moves_geometry}
use Rattle.boxes.specs.declared.Style.{Style}
use Rattle.boxes.specs.declared.Viewport.{Viewport}
use Rattle.boxes.specs.Layout.{same_view}
use Rattle.boxes.specs.contracts.ViewportPartialEq.TheImpl as view
use Rattle.boxes.specs.declared.Edges.{Edges}
use Rattle.boxes.specs.declared.Size.{Size}
use Rattle.boxes.specs.declared.Size.TheVariants.{Auto, Px}
use Rattle.boxes.specs.declared.Align.{Align}
use Rattle.boxes.specs.declared.Align.TheVariants.{Start, Center, End}
use Rattle.boxes.specs.declared.Direction.{Direction}
use Rattle.boxes.specs.declared.Direction.TheVariants.{Row, Column}
use Rattle.boxes.specs.contracts.StylePartialEq.TheImpl as style
use Rattle.boxes.specs.contracts.EdgesPartialEq.TheImpl as edges
use Rattle.boxes.specs.contracts.SizePartialEq.TheImpl as size
use Rattle.boxes.specs.contracts.AlignPartialEq.TheImpl as align
use Rattle.boxes.specs.contracts.DirectionPartialEq.TheImpl as direction
use Rattle.std.proofs.Math.Bool.{and-true, and-false}
use Rattle.boxes.proofs.Styles.GeometryLaws.{same_z_is, z_refl}

pub equal_raws : (x y : ℤ) → int_eq x y ≡ same_z x y
equal_raws x y = same_from_decides _ _ (signed_Decides x y) (same_z_is x y, λ e. ap (same_z x) (sym e) ∙ z_refl x)

equal_directions : (a b : Direction) → direction.eq-value.it a b ≡ same_direction a b
equal_directions Row Row = refl
equal_directions Row Column = refl
equal_directions Column Row = refl
equal_directions Column Column = refl

equal_sizes : (a b : Size) → size.eq-value.it a b ≡ same_size a b
equal_sizes Auto Auto = refl
equal_sizes Auto (Px n) = refl
equal_sizes (Px m) Auto = refl
equal_sizes (Px m) (Px n) = equal_raws m n

equal_aligns : (a b : Align) → align.eq-value.it a b ≡ same_align a b
equal_aligns Start Start = refl
equal_aligns Start Center = refl
equal_aligns Start End = refl
equal_aligns Center Start = refl
equal_aligns Center Center = refl
equal_aligns Center End = refl
equal_aligns End Start = refl
equal_aligns End Center = refl
equal_aligns End End = refl

equal_edges : (a b : Edges) → edges.eq-value.it a b ≡ same_edges a b
equal_edges a b = rw (equal_raws a.left b.left, equal_raws a.right b.right, equal_raws a.top b.top, equal_raws a.bottom b.bottom) refl

-- a test after six others, put before them: a style's direction is stored behind its lengths
put_first : (d a b c e f g rest : Bool) → (a && (b && (c && (e && (f && (g && (d && rest))))))) ≡ (d && (a && (b && (c && (e && (f && (g && rest)))))))
put_first true a b c e f g rest = refl
put_first false a b c e f g rest = simp (and-false) refl

-- with the other's background a style differs from it just where its geometry does; the gap is known by what a read of it gives
abbrev pub with_background : Style → ℤ → List ℕ → Style
with_background a gap bytes = record {
  width = a.width;
  height = a.height;
  margin = a.margin;
  padding = a.padding;
  gap = gap;
  grow = a.grow;
  direction = a.direction;
  justify = a.justify;
  align_cross = a.align_cross;
  background = bytes;
}

pub differ_in_geometry : (a b : Style) {gap : ℤ} → gap ≡ a.gap → not (style.eq-value.it (with_background a gap b.background) b) ≡ moves_geometry a b
unfolding moves_geometry same
differ_in_geometry a b e =
    rw (
      e,
      equal_directions a.direction b.direction,
      equal_sizes a.width b.width,
      equal_sizes a.height b.height,
      equal_edges a.margin b.margin,
      equal_edges a.padding b.padding,
      equal_raws a.gap b.gap,
      equal_aligns a.justify b.justify,
      equal_aligns a.align_cross b.align_cross,
      nat_list_eq_equiv.refl b.background,
      and-true,
    ) (ap not (put_first (same_direction a.direction b.direction) (same_size a.width b.width) (same_size a.height b.height) (same_edges a.margin b.margin) (same_edges a.padding b.padding) (same_z a.gap b.gap) (same a.grow b.grow) (same_align a.justify b.justify && same_align a.align_cross b.align_cross)))

pub equal_views : (v w : Viewport) → view.eq-value.it v w ≡ same_view v w
equal_views v w = rw (equal_raws v.width w.width, equal_raws v.height w.height) refl
