-- Document 01, **Input**: the node under a pixel, from the root down to the last child whose box holds it.
use Rattle.field.specs.declared.NodeId.{NodeId}
use Rattle.std.specs.Prelude.{ℕ, zero, suc, Bool, cond, List, [], ◌∷◌, None, Option, Some}
use Rattle.arena.specs.Slots.{Slots, kids_at, id_at}
use Rattle.boxes.specs.Styles.{layout_at}
use Rattle.boxes.specs.Layout.{holds}
use Rattle.boxes.specs.declared.LayoutSlot.{LayoutSlot}
use Rattle.boxes.specs.declared.Pixel.{Pixel}

-- The last of a list that passes a test, or d.
unfoldable pub last_of : (ℕ → Bool) → ℕ → List ℕ → ℕ
last_of p d [] = d
last_of p d (i ∷ is) = last_of p (cond (p i) i d) is

-- From slot i down: where no child holds the pixel, it is slot i.
unfoldable pub descend : (ℕ → Bool) → ℕ → Slots → ℕ → ℕ
descend p zero s i = i
descend p (suc k) s i = descend p k s (last_of p i (kids_at s i))

-- Slot i's box holds the pixel.
unfoldable pub holds_at : List LayoutSlot → Pixel → ℕ → Bool
holds_at l pixel i = holds pixel.x pixel.y (layout_at l i).rect

-- The node under the pixel: none where the root's box does not hold it.
unfoldable pub hit_at : Slots → List LayoutSlot → Pixel → Option NodeId
hit_at s l pixel =
    let p : ℕ → Bool = holds_at l pixel in
    cond (p 0) (Some (id_at s (descend p 128 s 0))) None
