-- By the start. Assumes nothing.
use mathlib.Core.Path.{refl}
use Rattle.boxes.specs.Pointers.{first_pointer}
use Rattle.boxes.proofs.start.first_pointer.Goals as goal

pub returns-in-New : goal.returns-in-New
unfolding first_pointer
returns-in-New c = rw c.in-New.is refl

pub returns-in-AtOrigin : goal.returns-in-AtOrigin
unfolding first_pointer
returns-in-AtOrigin c = rw c.in-AtOrigin.is refl
