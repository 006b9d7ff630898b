-- Both lengths with their margins, turned to the parent's axes. Assumes nothing.
use mathlib.Core.Path.{◌∙◌}
use borrow.Author.Rules.{rules}
use Rattle.boxes.specs.Layout.{outer}
use Rattle.arithmetic.proofs.Signs.{said}
use Rattle.boxes.proofs.layout.outer.Goals as goal

pub returns : goal.returns
unfolding outer
returns c = let x = c.widened-width in let y = c.widened-height in
    c.axes.ensures ∙ rw (said x.result x.type_inv x.ensures, said y.result y.type_inv y.ensures) (search rules)
