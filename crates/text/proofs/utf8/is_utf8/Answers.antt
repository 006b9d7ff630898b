use mathlib.Core.Path.{sym, ap, ◌∙◌}
use native.Mathlib.Omega.{arith}
use lib.Dec.{eqb}
use Rattle.text.specs.declared.utf8.Place.{Place}
use Rattle.text.specs.Reader.{is_utf8}
use Rattle.text.proofs.Runs.{room, small_code, small_step, run_more, run_done}
use Rattle.text.proofs.utf8.is_utf8.Goals as goal

pub loop-b-init : goal.loop-b-init
unfolding room
loop-b-init c = (rw c.start-p.ensures (omega arith), rw c.start-p.ensures)

pub step-p-requires : goal.step-p-requires
step-p-requires c = small_code c.loop-b.p c.loop-b.invariant.0

pub loop-b-preserved : goal.loop-b-preserved
loop-b-preserved c = (
  rw c.step-p.ensures (small_step _ _ c.loop-b.invariant.0),
  rw c.step-p.ensures (sym (run_more _ _ _ c.loop-b-test.true) ∙ c.loop-b.invariant.1),
)

pub returns : goal.returns
unfolding is_utf8
returns c = ap (λ (p : Place). eqb p.left 0) (sym (run_done c.loop-b.p c.args.s.now c.loop-b.b-index (omega arith)) ∙ c.loop-b.invariant.1)
