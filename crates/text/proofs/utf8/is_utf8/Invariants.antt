-- The reader so far, run over the bytes that are left, ends where it ends over all. Assumes nothing.
use mathlib.Core.Path.{◌≡◌}
use lib.ListN.{drop}
use Rattle.text.specs.Reader.{run_from, start}
use Rattle.text.proofs.Runs.{Small}
use Rattle.text.proofs.utf8.is_utf8.Given as goal

abbrev pub invariant-loop-b : goal.invariant-loop-b
invariant-loop-b l = Small l.p × (run_from l.p (drop l.b-index l.s) ≡ run_from start l.s)
