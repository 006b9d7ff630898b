-- What is left of the way down gives the whole way. Assumes nothing.
use mathlib.Core.Path.{◌≡◌}
use Prim.Native.Nat.{◌-◌, ◌<◌}
use Rattle.boxes.specs.Hit.{descend, holds_at}
use Rattle.boxes.proofs.input.descend.Given as goal

abbrev pub invariant-loop : goal.invariant-loop
invariant-loop l = (l.at < 128) × (descend (holds_at l.layout l.pixel) (128 - l.counter) l.slots l.at ≡ descend (holds_at l.layout l.pixel) 128 l.slots 0)
