-- The cross offset from what the child leaves free, then `boxed`. Assumes nothing.
use mir.Facts.{to_z-of_z}
use borrow.Author.Rules.{rules}
use Rattle.boxes.specs.Support.Views.{box_at}
use Rattle.arithmetic.proofs.Signs.{back, said}
use Rattle.boxes.proofs.layout.child_box.Goals as goal

pub returns : goal.returns
unfolding box_at
returns c = let a = c.args in let o = c.offset in let f = c.saturating_sub-free in let u = c.outer-o in
    rw (← u.ensures, c.boxed.ensures, said o.result o.type_inv o.ensures, said f.result f.type_inv f.ensures, to_z-of_z c.ranges.growth, back a.run.cross (search rules), back u.result.cross (search rules), back a.run.main (search rules))
