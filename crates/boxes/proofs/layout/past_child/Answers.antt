-- The sums read back from their bits. Assumes nothing.
use mir.Facts.{to_z-of_z}
use borrow.Author.Rules.{rules}
use Rattle.boxes.specs.Support.Views.{past_of}
use Rattle.arithmetic.proofs.Signs.{back, said}
use Rattle.boxes.proofs.layout.past_child.Goals as goal

pub returns : goal.returns
unfolding past_of
returns c = let a = c.args in let k = c.saturating_add in let w = c.widened-sum in let u = c.outer-o in (
  rw (← u.ensures, said k.result k.type_inv k.ensures, said w.result w.type_inv w.ensures, to_z-of_z c.ranges.growth, back a.run.main (search rules), back u.result.main (search rules), back a.style.gap (search rules)),
  back a.run.cross (search rules),
)
