-- The slots before here are tested. Assumes nothing.
use mathlib.Core.Path.{◌≡◌}
use lib.ListN.{take}
use Rattle.std.specs.Prelude.{zip}
use Rattle.arithmetic.specs.Tests.{all}
use Rattle.arena.specs.Support.Lists.{once_by}
use Rattle.arena.proofs.rules.all_once.Given as goal

abbrev pub invariant-loop-k : goal.invariant-loop-k
invariant-loop-k l = l.well ≡ all (λ x. once_by x.0 x.1.0 x.1.1) (take l.k (zip l.slots (zip l.reached l.free)))
