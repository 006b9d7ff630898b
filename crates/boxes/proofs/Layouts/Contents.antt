-- The extent of some children, by how many they are. Assumes nothing.
use mathlib.Core.Path.{◌≡◌, refl}
use mathlib.Core.List.{List, [], ◌∷◌}
use Prim.Native.Nat.{suc, ◌-◌, ◌≤◌, ◌<◌}
use native.Mathlib.Omega.{arith}
use lib.ListN.{length}
use Rattle.arithmetic.specs.Scalar.{add_sat, gap_times}
use lib.IntN.{ℤ}
use Rattle.boxes.specs.Layout.{Child, summed, content, extent, boxed}
use Rattle.boxes.specs.Support.Views.{no_axes, grown_of}
use Rattle.boxes.specs.declared.Direction.{Direction}
use Rattle.boxes.specs.declared.Direction.TheVariants.{Row, Column}
use Rattle.boxes.specs.declared.Style.{Style}

pub content_of_few : (s : Style) (cs : List Child) → length cs < 2 → content s cs ≡ summed s.direction no_axes cs
unfolding content summed
content_of_few s [] h = refl
content_of_few s (c ∷ []) h = refl
content_of_few s (c ∷ e ∷ cs) h = absurd (omega arith)

pub content_of_many : (s : Style) (cs : List Child) → 2 ≤ length cs → content s cs ≡ record { main = add_sat (summed s.direction no_axes cs).main (gap_times s.gap (length cs - 1)); cross = (summed s.direction no_axes cs).cross }
unfolding content
content_of_many s [] h = absurd (omega arith)
content_of_many s (c ∷ []) h = absurd (omega arith)
content_of_many s (c ∷ e ∷ cs) h = let q : length (c ∷ e ∷ cs) - 1 ≡ suc (length cs) = omega arith in rw q

-- A child's box by its shift and its size, each turned to the parent's direction.
pub boxed_by_parts : (d : Direction) (cx cy cursor across growth : ℤ) (c : Child) → boxed d cx cy cursor across growth c ≡ record { x = add_sat (add_sat cx (extent d (record { main = cursor; cross = across })).width) c.style.margin.left; y = add_sat (add_sat cy (extent d (record { main = cursor; cross = across })).height) c.style.margin.top; width = (grown_of d c growth).width; height = (grown_of d c growth).height }
boxed_by_parts Row cx cy cursor across growth c = refl
boxed_by_parts Column cx cy cursor across growth c = refl
