-- Equality as derived is that of both lengths. Assumes nothing.
use mathlib.Core.Path.{◌∙◌}
use Rattle.boxes.proofs.Styles.Equality.{equal_views}
use Rattle.boxes.proofs.layout.same_view.Goals as goal

pub returns : goal.returns
returns c = c.eq.ensures ∙ equal_views c.args.v c.args.w
