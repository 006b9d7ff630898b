-- The loop's invariant: what is taken, and the line that goes on behind it, are the line at `from` (`LineTo`). The measure is what is left of the
-- bytes. Assumes nothing.
use Prim.Native.Nat.{◌-◌}
use lib.ListN.{length}
use Rattle.text.proofs.LineParts.{LineTo}
use Rattle.text.proofs.lines.Label.line.Given as goal

abbrev pub invariant-loop-taken : goal.invariant-loop-taken
invariant-loop-taken l = LineTo l.self.width l.self.bytes.now l.from l.taken

abbrev pub decreases-loop-taken : goal.decreases-loop-taken
decreases-loop-taken l = length l.self.bytes.now - l.taken.end
