-- The loop's invariant: the buffer with the starts from `at` on written from the place on is what it will be. Assumes nothing.
use mathlib.Core.Path.{◌≡◌}
use Prim.Native.Nat.{◌+◌}
use lib.ListN.{length}
use Rattle.text.specs.LineStarts.{starts_from}
use Rattle.text.specs.Support.LineParts.{lines_from}
use Rattle.text.proofs.LineParts.{over_at}
use Rattle.text.proofs.lines.Label.write_starts.Given as goal

abbrev pub invariant-loop-place : goal.invariant-loop-place
invariant-loop-place l =
    (l.place-index + length (lines_from l.self.width l.at l.self.bytes.now) ≡ length (lines_from l.self.width 0 l.self.bytes.now))
    × (over_at l.place-index (starts_from l.at (lines_from l.self.width l.at l.self.bytes.now)) l.starts ≡ over_at 0 (starts_from 0 (lines_from l.self.width 0 l.self.bytes.now)) l.initial.starts)
