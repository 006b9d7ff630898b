-- What layout's code hands around, as the records of its definitions.
use Rattle.arithmetic.specs.Scalar.{add_sat, sub_sat, max_of}
use Rattle.arithmetic.specs.Growth.{total, plan_growth}
use Rattle.std.specs.Prelude.{ℕ, List, ◌≡◌, ℤ, pos, length, replicate, take}
use Rattle.boxes.specs.Layout.{Axes, Extent, Child, axes, outer, summed, offset, boxed}
use Rattle.boxes.specs.declared.Direction.{Direction}
use Rattle.boxes.specs.declared.Direction.TheVariants.{Row, Column}
use Rattle.boxes.specs.declared.Style.{Style}
use Rattle.boxes.specs.declared.Rect.{Rect}
use Rattle.boxes.specs.declared.Edges.{Edges}
use Rattle.boxes.specs.declared.LayoutSlot.{LayoutSlot}
use Rattle.boxes.specs.declared.layout.Lengths.{Lengths}

-- What a parent sees of a layout slot.
abbrev pub child_of : LayoutSlot → Child
child_of x = record { style = x.style; wants = record { width = x.wanted_width; height = x.wanted_height } }

abbrev pub axes_of : Lengths → Axes
axes_of a = record { main = a.main; cross = a.cross }

abbrev pub extent_of : ℤ × ℤ → Extent
extent_of e = record { width = e.0; height = e.1 }

abbrev pub no_axes : Axes
no_axes = record { main = pos 0; cross = pos 0 }

-- A sum of children, and one child more.
unfoldable pub summed_with : Direction → Axes → Child → Axes
summed_with d a c = let o = outer d c in record { main = add_sat a.main o.main; cross = max_of a.cross o.cross }

-- Lengths summed over so many children, those of the list.
abbrev pub SumOf : Style → Lengths → ℕ → List Child → Type 0
SumOf s sum n cs = (axes_of sum ≡ summed s.direction no_axes cs) × (n ≡ length cs)

-- A child's wanted size, grown along the main axis.
abbrev pub grown_of : Direction → Child → ℤ → Extent
grown_of Row c growth = record { width = add_sat c.wants.width growth; height = c.wants.height }
grown_of Column c growth = record { width = c.wants.width; height = add_sat c.wants.height growth }

-- One child of `boxes`: its box, and the cursor behind it.
unfoldable pub box_at : Style → ℤ → ℤ → ℤ → ℤ → ℤ → Child → Rect
box_at s cx cy inner cursor growth c = boxed s.direction cx cy cursor (offset s.align_cross (sub_sat inner (outer s.direction c).cross)) growth c

unfoldable pub past_of : Style → ℤ → ℤ → Child → ℤ
past_of s cursor growth c = add_sat (add_sat (add_sat cursor (outer s.direction c).main) growth) s.gap

unfoldable pub no_shares : List ℤ
no_shares = replicate 128 (pos 0)

-- The shares of a leftover among the first n children, and what they leave free.
pub record SharedOut (leftover : ℤ) (grows : List ℕ) (n : ℕ) (shares : List ℤ) (free : ℤ) : Type 0 where
  pub shared : shares ≡ plan_growth leftover grows n
  pub rest : free ≡ sub_sat leftover (total (take n (plan_growth leftover grows n)))

-- A node's box less its padding; and its lengths along the node's axes.
abbrev pub content_of : Edges → Rect → Rect
content_of p r = record { x = add_sat r.x p.left; y = add_sat r.y p.top; width = sub_sat (sub_sat r.width p.left) p.right; height = sub_sat (sub_sat r.height p.top) p.bottom }

unfoldable pub inner_of : Direction → Edges → Rect → Axes
inner_of d p r = axes d (sub_sat (sub_sat r.width p.left) p.right) (sub_sat (sub_sat r.height p.top) p.bottom)
