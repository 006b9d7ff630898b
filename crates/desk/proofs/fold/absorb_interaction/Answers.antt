-- One run of bytes after the other. Assumes nothing.
use Rattle.desk.proofs.FoldSteps.{and_then}
use Rattle.desk.proofs.fold.absorb_interaction.Goals as goal

pub returns : goal.returns
returns c = and_then _ _ _ (and_then _ _ _ (and_then _ _ _ (and_then _ _ _ (and_then _ _ _ (and_then _ _ _ c.absorb_pointer-pointer.ensures c.absorb_maybe-pressed.ensures) c.absorb_maybe.ensures) c.absorb_u64.ensures) c.absorb_u64-2.ensures) c.absorb_u64-3.ensures) c.absorb_u64-4.ensures
