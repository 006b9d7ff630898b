-- The looks after those that have had their turn. Assumes nothing.
use mathlib.Core.Path.{◌≡◌}
use Rattle.tree.specs.Wearing.{with_appearance}
use Rattle.tree.proofs.Wearings.{look_after}
use Rattle.desk.proofs.wearing.refresh_states.Given as goal

abbrev pub invariant-loop-i : goal.invariant-loop-i
invariant-loop-i l = l.u ≡ with_appearance l.initial.u (look_after l.initial.u l.fn.hover l.i-items l.i-index)
