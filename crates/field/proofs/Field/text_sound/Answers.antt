-- In range, the two parts of the bytes that are read are inside the 64. Assumes nothing.
use Rattle.std.proofs.Common.{◌&&◌, sym, ap, ◌∙◌, arith}
use mathlib.Core.Path.{ap₂}
use Rattle.text.specs.Reader.{is_utf8}
use Rattle.field.specs.Fields.{text_ok}
use Rattle.field.proofs.Ranges.{length_in_range, caret_in_range}
use Rattle.field.proofs.Field.text_sound.Goals as goal

pub returns-then-not-in_range : goal.returns-then-not-in_range
unfolding text_ok
returns-then-not-in_range c = rw (sym c.in_range.ensures ∙ c.if-not-in_range.true)

pub shared_ref_as_front-is_utf8 : goal.shared_ref_as_front-is_utf8
shared_ref_as_front-is_utf8 c =
    let h = sym c.in_range.ensures ∙ c.if-not-in_range.false in omega (arith, length_in_range c.args.self h, caret_in_range c.args.self h)

pub returns : goal.returns
unfolding text_ok
returns c = rw (sym c.in_range.ensures ∙ c.if-not-in_range.false) (ap₂ ◌&&◌ (c.is_utf8-whole.ensures ∙ ap is_utf8 c.held.ensures) c.is_utf8-before.ensures)
