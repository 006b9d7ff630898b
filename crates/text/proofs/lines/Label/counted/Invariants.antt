-- The loop's invariant: what is counted, and the lines from `at` on, are all lines. The measure is what is left of the bytes, and one more, since the
-- last line may be empty. Assumes nothing.
use mathlib.Core.Path.{◌≡◌}
use Prim.Native.Nat.{◌+◌, ◌-◌, ◌≤◌, max}
use lib.ListN.{length}
use Rattle.text.specs.Lines.{widest_in}
use Rattle.text.specs.Support.LineParts.{weight_of, lines_from}
use Rattle.text.proofs.lines.Label.counted.Given as goal

abbrev pub invariant-loop-at : goal.invariant-loop-at
invariant-loop-at l =
    (l.lines + length (lines_from l.self.width l.at l.self.bytes.now) ≡ length (lines_from l.self.width 0 l.self.bytes.now)) × (max l.widest (widest_in weight_of (lines_from l.self.width l.at l.self.bytes.now)) ≡ widest_in weight_of (lines_from l.self.width 0 l.self.bytes.now))
    × (l.at ≤ length l.self.bytes.now + 1) × (l.lines ≤ l.at)

abbrev pub decreases-loop-at : goal.decreases-loop-at
decreases-loop-at l = length l.self.bytes.now + 1 - l.at
