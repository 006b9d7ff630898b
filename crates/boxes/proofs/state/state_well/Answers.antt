-- The code's three tests are the definition's. Assumes nothing.
use mathlib.Core.Path.{ap₂, ap}
use mathlib.Core.Bool.{Bool, ◌&&◌}
use lib.Dec.{leb}
use Rattle.boxes.specs.States.{state_well}
use Rattle.boxes.proofs.state.state_well.Goals as goal

pub returns : goal.returns
unfolding state_well
returns c = ap₂ ◌&&◌ c.in_pool-worn.ensures (ap (λ (t : Bool). t && leb c.args.s.now.bits 7) c.table_in_pool-entries.ensures)
