use mathlib.Core.Path.{sym, ap, ◌∙◌}
use native.Mathlib.Omega.{arith}
use borrow.Author.Rules.{rules}
use borrow.Author.Tests.{eq-eqb, ne_eqb}
use mir.Facts.{to_z_pos}
use mir.Syntax.{w32}
use Rattle.arithmetic.proofs.Signs.{back}
use Rattle.arithmetic.specs.Scalar.{from_int}
use Rattle.text.specs.Refusal.{accepted}
use Rattle.text.specs.Advance.{measure_of}
use Rattle.text.specs.Reader.{is_utf8, scalars}
use Rattle.text.proofs.Runs.{room, small_code, small_step, run_more, run_done, width_more, width_done, counted_top}
use Rattle.text.proofs.measure.Goals as goal

pub loop-b-init : goal.loop-b-init
unfolding room
loop-b-init c = (rw c.start-p.ensures (omega arith), rw c.start-p.ensures, omega arith, rw c.start-p.ensures)

pub step-p-requires : goal.step-p-requires
step-p-requires c = small_code c.loop-b.p c.loop-b.invariant.0

pub loop-b-preserved : goal.loop-b-preserved
loop-b-preserved c = (
  rw c.step-p.ensures (small_step _ _ c.loop-b.invariant.0),
  rw c.step-p.ensures (sym (run_more _ _ _ c.loop-b-test.true) ∙ c.loop-b.invariant.1),
  rw c.counted-total.ensures (counted_top _ _ c.loop-b.invariant.2),
  rw (c.counted-total.ensures, c.step-p.ensures) (sym (width_more _ _ _ _ c.loop-b-test.true) ∙ c.loop-b.invariant.3),
)

pub returns-then-p-eq0 : goal.returns-then-p-eq0
unfolding measure_of is_utf8 scalars
returns-then-p-eq0 c = rw (← c.loop-b.invariant.1, run_done c.loop-b.p c.args.s.now c.loop-b.b-index (omega arith), eq-eqb _ _ c.if-p-eq0.true, ← c.loop-b.invariant.3, width_done _ _ c.args.s.now c.loop-b.b-index (omega arith)) (ap accepted (back c.from_int.result (search rules) ∙ c.from_int.ensures ∙ ap from_int (to_z_pos w32 (omega (arith, c.loop-b.invariant.2)))))

pub returns-else-p-eq0 : goal.returns-else-p-eq0
unfolding measure_of is_utf8 scalars
returns-else-p-eq0 c = rw (← c.loop-b.invariant.1, run_done c.loop-b.p c.args.s.now c.loop-b.b-index (omega arith), ne_eqb _ _ c.if-p-eq0.false)
