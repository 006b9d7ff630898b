-- What is left of the list resets the rest. Assumes nothing.
use Rattle.std.proofs.Common.{◌≡◌, length, drop}
use Rattle.boxes.specs.States.{reset_states}
use Rattle.boxes.proofs.nodes.reset_states.Given as goal

abbrev pub invariant-loop-i : goal.invariant-loop-i
invariant-loop-i l = (length l.states ≡ 128) × (reset_states l.states (drop l.i-index l.i-items) ≡ reset_states l.initial.states l.i-items)
