-- The entries passed are all in the pool or not. Assumes nothing.
use Rattle.std.proofs.Common.{◌≡◌, take}
use Rattle.arithmetic.specs.Tests.{all}
use Rattle.boxes.specs.States.{in_pool}
use Rattle.boxes.proofs.state.table_in_pool.Given as goal

abbrev pub invariant-loop-k : goal.invariant-loop-k
invariant-loop-k l = l.all ≡ all (in_pool l.count) (take l.k-index l.fn.table)
