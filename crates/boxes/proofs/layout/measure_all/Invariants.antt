-- What is left of the order, measured from here, gives the whole. Along a node's children what is left of the sum gives the whole. Assumes nothing.
use Prim.Native.Nat.{◌-◌}
use mathlib.Core.Path.{◌≡◌}
use Rattle.arena.specs.Support.Lists.{Small}
use Rattle.boxes.proofs.Layouts.PassSteps.{Summing}
use Rattle.boxes.specs.Layout.{measure_all}
use Rattle.boxes.proofs.layout.measure_all.Given as goal

abbrev pub invariant-loop-child : goal.invariant-loop-child
invariant-loop-child l = Summing l.slots l.layout l.d l.initial.child l.sum l.child l.n

abbrev pub decreases-loop-child : goal.decreases-loop-child
decreases-loop-child l = 128 - l.n

abbrev pub invariant-loop-id : goal.invariant-loop-id
invariant-loop-id l = (measure_all l.slots l.layout l.id-iterator.iter.rest.now ≡ measure_all l.slots l.initial.layout l.fn.ids) × Small l.id-iterator.iter.rest.now
