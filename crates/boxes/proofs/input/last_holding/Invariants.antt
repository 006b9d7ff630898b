-- What is left of the children gives the last of them. Assumes nothing.
use mathlib.Core.Path.{◌≡◌}
use Prim.Native.Nat.{◌-◌, ◌<◌}
use Rattle.arena.specs.Slots.{chain, kids_at}
use Rattle.boxes.specs.Hit.{last_of, holds_at}
use Rattle.boxes.proofs.input.last_holding.Given as goal

abbrev pub invariant-loop : goal.invariant-loop
invariant-loop l = (l.found < 128) × (last_of (holds_at l.layout l.pixel) l.found (chain (128 - l.counter) l.slots l.child) ≡ last_of (holds_at l.layout l.pixel) l.at (kids_at l.slots l.at))
