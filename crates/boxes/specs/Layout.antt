-- Document 01, **Layout**: what a node wants to be, where it places its children, and a pass over the tree.
use Rattle.std.specs.Prelude.{ℕ, suc, Bool, ◌&&◌, cond, List, [], ◌∷◌, map, ℤ, pos, length, get_or, set, take}
use Rattle.std.specs.Int.Signed.{le_z, lt_z}
use Rattle.arithmetic.specs.Scalar.{add_sat, sub_sat, gap_times, half_of, from_int, max_of}
use Rattle.arithmetic.specs.Growth.{total, plan_growth}
use Rattle.arithmetic.specs.Tests.{same_z}
use Rattle.arena.specs.Slots.{Slots, kids_at, order}
use Rattle.boxes.specs.Styles.{layout_at}
use Rattle.boxes.specs.declared.Style.{Style}
use Rattle.boxes.specs.declared.Rect.{Rect}
use Rattle.boxes.specs.declared.Viewport.{Viewport}
use Rattle.boxes.specs.declared.Direction.{Direction}
use Rattle.boxes.specs.declared.Direction.TheVariants.{Row, Column}
use Rattle.boxes.specs.declared.Size.{Size}
use Rattle.boxes.specs.declared.Size.TheVariants.{Auto, Px}
use Rattle.boxes.specs.declared.Align.{Align}
use Rattle.boxes.specs.declared.Align.TheVariants.{Start, Center, End}
use Rattle.boxes.specs.declared.LayoutSlot.{LayoutSlot}

-- A width and a height; the same as lengths along a parent's main and cross axis.
pub record Extent : Type 0 where
  pub width : ℤ
  pub height : ℤ

pub record Axes : Type 0 where
  pub main : ℤ
  pub cross : ℤ

-- What a parent sees of a child: the style that it wears, and the size that it wants.
pub record Child : Type 0 where
  pub style : Style
  pub wants : Extent

abbrev pub axes : Direction → ℤ → ℤ → Axes
axes Row w h = record { main = w; cross = h }
axes Column w h = record { main = h; cross = w }

-- A child's wanted size with its margins.
unfoldable pub outer : Direction → Child → Axes
outer d c =
    let m = c.style.margin in
    axes d (add_sat (add_sat c.wants.width m.left) m.right) (add_sat (add_sat c.wants.height m.top) m.bottom)

-- The children's sizes along the main axis summed, and the largest across it, which is at least 0.
unfoldable pub summed : Direction → Axes → List Child → Axes
summed d a [] = a
summed d a (c ∷ cs) =
    let o = outer d c in summed d (record { main = add_sat a.main o.main; cross = max_of a.cross o.cross }) cs

-- With a gap between each two.
unfoldable pub content : Style → List Child → Axes
content s [] = record { main = pos 0; cross = pos 0 }
content s (c ∷ []) = summed s.direction (record { main = pos 0; cross = pos 0 }) (c ∷ [])
content s (c ∷ e ∷ cs) =
    let a = summed s.direction (record { main = pos 0; cross = pos 0 }) (c ∷ e ∷ cs) in
    record { main = add_sat a.main (gap_times s.gap (suc (length cs))); cross = a.cross }

abbrev pub sized : Size → ℤ → ℤ
sized Auto needed = needed
sized (Px set) needed = set

abbrev pub extent : Direction → Axes → Extent
extent Row a = record { width = a.main; height = a.cross }
extent Column a = record { width = a.cross; height = a.main }

-- What a node wants to be: its set size, or its content with its padding.
unfoldable pub want : Style → List Child → Extent
want s cs =
    let e = extent s.direction (content s cs) in
    let p = s.padding in
    record {
      width = sized s.width (add_sat (add_sat e.width p.left) p.right);
      height = sized s.height (add_sat (add_sat e.height p.top) p.bottom);
    }

-- Where a run starts in free space; at the start where there is none.
abbrev pub aligned : Align → ℤ → ℤ
aligned Start free = pos 0
aligned Center free = half_of free
aligned End free = free

unfoldable pub offset : Align → ℤ → ℤ
offset a free = cond (le_z free (pos 0)) (pos 0) (aligned a free)

-- A child's box: `cursor` along the main axis and `across` along the other, from the corner of the content, grown along the main axis.
abbrev pub boxed : Direction → ℤ → ℤ → ℤ → ℤ → ℤ → Child → Rect
boxed Row cx cy cursor across growth c = record {
  x = add_sat (add_sat cx cursor) c.style.margin.left;
  y = add_sat (add_sat cy across) c.style.margin.top;
  width = add_sat c.wants.width growth;
  height = c.wants.height;
}
boxed Column cx cy cursor across growth c = record {
  x = add_sat (add_sat cx across) c.style.margin.left;
  y = add_sat (add_sat cy cursor) c.style.margin.top;
  width = c.wants.width;
  height = add_sat c.wants.height growth;
}

-- The children's boxes one after another, each with its share of growth.
unfoldable pub boxes : Style → ℤ → ℤ → ℤ → ℤ → List ℤ → List Child → List Rect
boxes s cx cy inner cursor shares [] = []
boxes s cx cy inner cursor shares (c ∷ cs) =
    let o = outer s.direction c in
    let growth = get_or shares 0 (pos 0) in
    let across = offset s.align_cross (sub_sat inner o.cross) in
    boxed s.direction cx cy cursor across growth c
    ∷ boxes s cx cy inner (add_sat (add_sat (add_sat cursor o.main) growth) s.gap) (tail_of shares) cs
  where
    tail_of : List ℤ → List ℤ
    tail_of [] = []
    tail_of (x ∷ xs) = xs

-- A node's children in its box, less its padding.
unfoldable pub place : Style → Rect → List Child → List Rect
place s r cs =
    let p = s.padding in
    let inner = axes s.direction (sub_sat (sub_sat r.width p.left) p.right) (sub_sat (sub_sat r.height p.top) p.bottom) in
    let leftover = sub_sat inner.main (content s cs).main in
    let shares = take (length cs) (plan_growth leftover (map (λ (c : Child). c.style.grow) cs) (length cs)) in
    let free = sub_sat leftover (total shares) in
    boxes s (add_sat r.x p.left) (add_sat r.y p.top) inner.cross (offset s.justify free) shares cs

-- The tree's pass: the wanted sizes from the last of an order to the first, then the boxes from the first to the last.
abbrev pub seen : List LayoutSlot → ℕ → Child
seen l i = let x = layout_at l i in record { style = x.style; wants = record { width = x.wanted_width; height = x.wanted_height } }

abbrev pub with_wants : LayoutSlot → Extent → LayoutSlot
with_wants l e = record { style = l.style; rect = l.rect; wanted_width = e.width; wanted_height = e.height }

abbrev pub with_rect : LayoutSlot → Rect → LayoutSlot
with_rect l r = record { style = l.style; rect = r; wanted_width = l.wanted_width; wanted_height = l.wanted_height }

unfoldable pub measure_at : Slots → List LayoutSlot → ℕ → List LayoutSlot
measure_at s l i = set l i (with_wants (layout_at l i) (want (layout_at l i).style (map (seen l) (kids_at s i))))

unfoldable pub measure_all : Slots → List LayoutSlot → List ℕ → List LayoutSlot
measure_all s l [] = l
measure_all s l (i ∷ is) = measure_at s (measure_all s l is) i

unfoldable pub set_rects : List LayoutSlot → List ℕ → List Rect → List LayoutSlot
set_rects l [] rs = l
set_rects l (c ∷ cs) [] = l
set_rects l (c ∷ cs) (r ∷ rs) = set_rects (set l c (with_rect (layout_at l c) r)) cs rs

unfoldable pub arrange_at : Slots → List LayoutSlot → ℕ → List LayoutSlot
arrange_at s l i =
    let cs = kids_at s i in set_rects l cs (place (layout_at l i).style (layout_at l i).rect (map (seen l) cs))

unfoldable pub arrange_all : Slots → List LayoutSlot → List ℕ → List LayoutSlot
arrange_all s l [] = l
arrange_all s l (i ∷ is) = arrange_all s (arrange_at s l i) is

-- The root's box is the viewport.
abbrev pub view_rect : Viewport → Rect
view_rect v = record { x = pos 0; y = pos 0; width = v.width; height = v.height }

abbrev pub same_view : Viewport → Viewport → Bool
same_view v w = same_z v.width w.width && same_z v.height w.height

unfoldable pub passed : Slots → List LayoutSlot → Viewport → List LayoutSlot
passed s l v =
    let o = order 128 s (0 ∷ []) in
    let m = measure_all s l o in
    arrange_all s (set m 0 (with_rect (layout_at m 0) (view_rect v))) o

-- The box holds the pixel: left and top edges in, right and bottom out.
unfoldable pub holds : ℤ → ℤ → Rect → Bool
holds px py r =
    let x = from_int px in
    let y = from_int py in
    (le_z r.x x && lt_z x (add_sat r.x r.width)) && (le_z r.y y && lt_z y (add_sat r.y r.height))
