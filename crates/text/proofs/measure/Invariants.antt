-- The reader and the sum so far, taken over the bytes that are left, give what they give over all. Assumes nothing.
use mathlib.Core.List.{map}
use mathlib.Core.Path.{◌≡◌}
use Prim.Native.Nat.{◌<◌, ◌^◌}
use lib.ListN.{drop}
use Rattle.text.specs.Advance.{advance_of, stop_sum}
use Rattle.text.specs.Reader.{run_from, start, scalars_from}
use Rattle.text.proofs.Runs.{Small}
use Rattle.text.proofs.measure.Given as goal

abbrev pub invariant-loop-b : goal.invariant-loop-b
invariant-loop-b l = Small l.p × (run_from l.p (drop l.b-index l.s) ≡ run_from start l.s)
    × (l.total < 2 ^ 31) × (stop_sum l.total (map advance_of (scalars_from l.p (drop l.b-index l.s))) ≡ stop_sum 0 (map advance_of (scalars_from start l.s)))
