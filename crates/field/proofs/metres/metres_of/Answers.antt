-- The text without its spaces before, and of that the part without its spaces behind. Assumes nothing.
use Rattle.std.proofs.Common.{List, ℕ, ap, ◌∙◌}
use Rattle.field.specs.Metres.{skipped_back, trimmed, pointed, plain_metres, metres_of}
use Rattle.field.proofs.metres.metres_of.Goals as goal

pub returns : goal.returns
unfolding metres_of trimmed
returns c = c.number.ensures ∙ ap (λ (l : List ℕ). plain_metres (pointed l)) (c.skipped_back.ensures ∙ ap skipped_back c.skipped.ensures)
