-- The loop's invariant: what is behind the byte, and the word that goes on at it, are the word at `from` (`WordTo`). Assumes nothing.
use Prim.Native.Nat.{◌+◌}
use Rattle.text.proofs.LineParts.{WordTo}
use Rattle.text.proofs.lines.Label.word.Given as goal

abbrev pub invariant-loop-i : goal.invariant-loop-i
invariant-loop-i l = WordTo l.self.bytes.now l.from l.width (l.from + l.i)
