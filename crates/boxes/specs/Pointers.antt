-- Document 02, wish 2: a pointer that is nowhere at first.
use Rattle.std.specs.Prelude.{pos, None, Option, Some}
use Rattle.boxes.specs.declared.Pixel.{Pixel}
use Rattle.boxes.specs.declared.StartKind.{StartKind}
use Rattle.boxes.specs.declared.StartKind.TheVariants.{New, AtOrigin}

-- The pointer of a fresh tree, by its start.
unfoldable pub first_pointer : StartKind → Option Pixel
first_pointer New = None
first_pointer AtOrigin = Some (record { x = pos 0; y = pos 0 })

-- What is under a pointer: no node where it is nowhere, else what the hit test finds at its pixel. Press, release and hover all go by it, in the tree
-- and in the history.
abbrev pub under_pointer : {A : Type 0} → A → (Pixel → A) → Option Pixel → A
under_pointer none hit None = none
under_pointer none hit (Some pixel) = hit pixel
