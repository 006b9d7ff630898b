-- A case for each form of the id. Assumes nothing.
use mathlib.Core.Path.{refl}
use Rattle.boxes.specs.States.{live_slot}
use Rattle.arithmetic.specs.Tests.{same}
use Rattle.boxes.specs.Support.Wearing.{kept_live}
use Rattle.boxes.proofs.wearing.keep_live.Goals as goal

pub returns-then-is_live : goal.returns-then-is_live
unfolding live_slot kept_live same
returns-then-is_live c =
    rw (c.in-Some.is, ← c.is_live.ensures, c.if-is_live.true, ← c.slot_at-s.ensures, ← c.bits_in-bits.ensures) c.keep.ensures

pub returns-else-is_live : goal.returns-else-is_live
unfolding live_slot kept_live
returns-else-is_live c = rw (c.in-Some.is, ← c.is_live.ensures, c.if-is_live.false) refl

pub returns-in_default : goal.returns-in_default
unfolding live_slot kept_live
returns-in_default c = rw c.in_default.is refl
