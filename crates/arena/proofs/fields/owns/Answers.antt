-- Two ids are compared by their parts. Assumes nothing.
use Rattle.std.proofs.Common.{◌∙◌, rules}
use Rattle.arithmetic.specs.Tests.{same}
use Rattle.arena.proofs.Owners.Places.{is_id_by}
use Rattle.arena.proofs.fields.owns.Goals as goal

pub returns : goal.returns
unfolding same
returns c = c.eq.ensures ∙ is_id_by _ c.args.f.now.owner c.args.d (λ a b. search rules)
