-- Document 01, **States**: `moves_geometry`, whether two styles differ in more than their backgrounds. `wear` goes by a patch's own flag.
use Rattle.std.specs.Prelude.{Bool, true, false, ◌&&◌, not}
use Rattle.arithmetic.specs.Tests.{same, same_z}
use Rattle.boxes.specs.declared.Style.{Style}
use Rattle.boxes.specs.declared.Edges.{Edges}
use Rattle.boxes.specs.declared.Direction.{Direction}
use Rattle.boxes.specs.declared.Direction.TheVariants.{Row, Column}
use Rattle.boxes.specs.declared.Size.{Size}
use Rattle.boxes.specs.declared.Size.TheVariants.{Auto, Px}
use Rattle.boxes.specs.declared.Align.{Align}
use Rattle.boxes.specs.declared.Align.TheVariants.{Start, Center, End}

abbrev pub same_direction : Direction → Direction → Bool
same_direction Row Row = true
same_direction Row Column = false
same_direction Column Row = false
same_direction Column Column = true

abbrev pub same_size : Size → Size → Bool
same_size Auto Auto = true
same_size Auto (Px n) = false
same_size (Px m) Auto = false
same_size (Px m) (Px n) = same_z m n

abbrev pub same_align : Align → Align → Bool
same_align Start Start = true
same_align Start Center = false
same_align Start End = false
same_align Center Start = false
same_align Center Center = true
same_align Center End = false
same_align End Start = false
same_align End Center = false
same_align End End = true

abbrev pub same_edges : Edges → Edges → Bool
same_edges e f = same_z e.left f.left && (same_z e.right f.right && (same_z e.top f.top && same_z e.bottom f.bottom))

unfoldable pub moves_geometry : Style → Style → Bool
moves_geometry base resolved =
    not (same_direction base.direction resolved.direction
    && (same_size base.width resolved.width
    && (same_size base.height resolved.height
    && (same_edges base.margin resolved.margin
    && (same_edges base.padding resolved.padding
    && (same_z base.gap resolved.gap
    && (same base.grow resolved.grow
    && (same_align base.justify resolved.justify
    && same_align base.align_cross resolved.align_cross))))))))
