-- The shift and the size, each turned to the parent's direction. Assumes nothing.
use lib.IntN.{ℤ}
use mir.Facts.{to_z-of_z}
use mathlib.Core.Path.{◌≡◌, ◌∙◌, ap}
use borrow.Author.Rules.{rules}
use Rattle.boxes.specs.Support.Views.{child_of, extent_of, grown_of}
use Rattle.boxes.proofs.Layouts.Contents.{boxed_by_parts}
use Rattle.arithmetic.proofs.Signs.{said}
use Rattle.boxes.proofs.layout.boxed.Goals as goal

pub returns : goal.returns
returns c = let x = c.widened in let y = c.widened-2 in let a = c.args in
    let g : extent_of c.grown-width.result ≡ grown_of a.d (child_of a.child) a.growth = c.grown-width.ensures ∙ ap (λ (z : ℤ). grown_of a.d (child_of a.child) z) (to_z-of_z c.ranges.growth) in
    rw (boxed_by_parts a.d a.content.x a.content.y a.shift.main a.shift.cross a.growth (child_of a.child), ← c.turned-right.ensures, ← g, said x.result x.type_inv x.ensures, said y.result y.type_inv y.ensures) (search rules)
