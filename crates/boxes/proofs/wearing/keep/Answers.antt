-- Assumes nothing.
use mathlib.Core.Path.{refl}
use Rattle.boxes.specs.Support.Wearing.{kept_more}
use Rattle.boxes.proofs.Styles.Keeps.{not_among}
use Rattle.boxes.proofs.wearing.keep.Goals as goal

pub returns-then-new : goal.returns-then-new
unfolding kept_more
returns-then-new c = rw (← not_among c.args.i _, ← c.as_slice.ensures, ← c.contains.ensures.value, c.if-new.true) c.push.ensures

pub returns-else-new : goal.returns-else-new
unfolding kept_more
returns-else-new c = rw (← not_among c.args.i _, ← c.as_slice.ensures, ← c.contains.ensures.value, c.if-new.false) refl
