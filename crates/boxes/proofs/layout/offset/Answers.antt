-- By the test, then by the alignment. Assumes nothing.
use mir.Facts.{to_z-of_z}
use lib.IntN.{pos}
use lib.Signed.{le_z}
use mathlib.Core.Bool.{true, false}
use mathlib.Core.Path.{◌≡◌}
use Rattle.arithmetic.proofs.Signs.{said}
use Rattle.boxes.specs.Layout.{offset}
use Rattle.boxes.proofs.layout.offset.Goals as goal

pub returns-then-free-le0 : goal.returns-then-free-le0
unfolding offset
returns-then-free-le0 c = let h : le_z c.args.free (pos 0) ≡ true = simp (to_z-of_z c.ranges.free) at c.if-free-le0.true in
    rw h

pub returns-in-Start : goal.returns-in-Start
unfolding offset
returns-in-Start c = let h : le_z c.args.free (pos 0) ≡ false = simp (to_z-of_z c.ranges.free) at c.if-free-le0.false in
    rw (h, c.in-Start.is)

pub returns-in-Center : goal.returns-in-Center
unfolding offset
returns-in-Center c = let h : le_z c.args.free (pos 0) ≡ false = simp (to_z-of_z c.ranges.free) at c.if-free-le0.false in
    rw (h, said c.half.result c.half.type_inv c.half.ensures, to_z-of_z c.ranges.free, c.in-Center.is)

pub returns-in-End : goal.returns-in-End
unfolding offset
returns-in-End c = let h : le_z c.args.free (pos 0) ≡ false = simp (to_z-of_z c.ranges.free) at c.if-free-le0.false in
    rw (h, to_z-of_z c.ranges.free, c.in-End.is)
