-- What is left below the limit makes the rest bare. Assumes nothing.
use mathlib.Core.Path.{◌≡◌}
use Prim.Native.Nat.{◌-◌}
use Rattle.arithmetic.specs.Tests.{from_to}
use Rattle.boxes.specs.States.{bare_all}
use Rattle.tree.specs.Trees.{limit_of}
use Rattle.tree.specs.Wearing.{appearance_of, with_appearance}
use Rattle.tree.proofs.wearing.bare_all.Given as goal

abbrev pub invariant-loop-k : goal.invariant-loop-k
invariant-loop-k l =
    let n = limit_of l.initial.u in
    with_appearance l.u (bare_all (appearance_of l.u) (from_to l.k (n - l.k))) ≡ with_appearance l.initial.u (bare_all (appearance_of l.initial.u) (from_to 0 n))
