-- The gap goes into the other style by its bits. Assumes nothing.
use Rattle.std.proofs.Common.{rules, ◌∙◌}
use mir.Syntax.{w64}
use mir.ValLaws.{to_z-of_z}
use Rattle.boxes.proofs.Styles.Equality.{differ_in_geometry}
use Rattle.boxes.proofs.state.moves_geometry.Goals as goal

pub returns : goal.returns
returns c = c.ne.ensures ∙ differ_in_geometry c.args.base c.args.resolved (to_z-of_z w64 c.args.base.gap (search rules))
