-- A field that keeps the rules is read by its text. Assumes nothing.
use Rattle.std.proofs.Common.{sym, ap, ◌∙◌}
use Rattle.field.specs.Metres.{metres_of}
use Rattle.field.specs.Fields.{field_metres}
use Rattle.field.proofs.Field.metres.Goals as goal

pub returns-then-not-sound : goal.returns-then-not-sound
unfolding field_metres
returns-then-not-sound c = rw (sym c.sound.ensures ∙ c.if-not-sound.true)

pub returns : goal.returns
unfolding field_metres
returns c = rw (sym c.sound.ensures ∙ c.if-not-sound.false) (c.metres_of.ensures ∙ ap metres_of c.held.ensures)
