-- The child's outer lengths, summedWith to the sum and the largest. Assumes nothing.
use borrow.Author.Rules.{rules}
use Rattle.boxes.specs.Support.Views.{summed_with}
use Rattle.arithmetic.proofs.Signs.{said}
use Rattle.boxes.proofs.layout.with_child.Goals as goal

pub returns : goal.returns
unfolding summed_with
returns c = let x = c.saturating_add in let y = c.max in
    rw (said x.result x.type_inv x.ensures, said y.result y.type_inv y.ensures, ← c.outer-o.ensures) (search rules)
