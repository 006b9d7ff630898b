-- Both directions by `spans`, at the pixel's raw coordinates. Assumes nothing.
use borrow.Author.Rules.{rules}
use Rattle.arithmetic.proofs.Signs.{said}
use Rattle.boxes.specs.Layout.{holds}
use Rattle.boxes.proofs.layout.holds.Goals as goal

pub returns : goal.returns
unfolding holds
returns c = let x = c.from_int-px in let y = c.from_int-py in
    rw (c.spans-across.ensures, c.spans-down.ensures, said x.result x.type_inv x.ensures, said y.result y.type_inv y.ensures) (search rules)
