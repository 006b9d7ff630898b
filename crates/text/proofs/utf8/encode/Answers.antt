-- A character's length is that of its bytes. Assumes nothing.
use mathlib.Core.Path.{sym, ◌∙◌}
use Rattle.text.specs.Utf8.{encoded_as}
use Rattle.text.proofs.Lengths.{a_character}
use Rattle.text.proofs.utf8.encode.Goals as goal

pub returns : goal.returns
unfolding encoded_as
returns c =
    let s = sym c.is_scalar.ensures ∙ c.if-not-is_scalar.false in
    rw (s, c.bytes_of.ensures, c.length_of-len.ensures ∙ a_character _ s)
