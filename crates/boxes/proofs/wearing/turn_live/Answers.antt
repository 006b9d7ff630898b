-- The slot of an id that is live, or none. Assumes nothing.
use mathlib.Core.Path.{refl}
use Rattle.arena.specs.Support.Lists.{added_all}
use Rattle.boxes.specs.States.{live_slot}
use Rattle.boxes.proofs.wearing.turn_live.Goals as goal

pub returns-then-is_live : goal.returns-then-is_live
unfolding live_slot added_all
returns-then-is_live c = rw (c.in-Some.is, ← c.is_live.ensures, c.if-is_live.true) c.push.ensures

pub returns-else-is_live : goal.returns-else-is_live
unfolding live_slot added_all
returns-else-is_live c = rw (c.in-Some.is, ← c.is_live.ensures, c.if-is_live.false) refl

pub returns-in_default : goal.returns-in_default
unfolding live_slot added_all
returns-in_default c = rw c.in_default.is refl
