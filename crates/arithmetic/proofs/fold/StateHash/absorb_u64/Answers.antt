-- The library's bytes are the definition's. Assumes nothing.
use mathlib.Core.Path.{ap, ◌∙◌}
use Rattle.arithmetic.specs.Fold.{absorbed}
use Rattle.arithmetic.proofs.FoldLaws.{le_bytes_are_low_bytes}
use Rattle.arithmetic.proofs.fold.StateHash.absorb_u64.Goals as goal

pub returns : goal.returns
returns c = c.absorb_bytes.ensures ∙ ap (absorbed c.args.self) (c.to_le_bytes.ensures ∙ le_bytes_are_low_bytes 8 c.args.x)
