use native.Mathlib.Omega.{arith}
use Rattle.text.proofs.LineParts.{line_start, line_small, line_step, line_full, line_done}
use Rattle.text.proofs.lines.Label.line.Goals as goal

pub loop-taken-init : goal.loop-taken-init
loop-taken-init c = line_start _ _ _ _ c.word-taken.ensures

pub overflow_add-width : goal.overflow_add-width
overflow_add-width c =
    omega (arith, line_small _ _ _ _ c.loop-taken.invariant c.args.self.now.short, c.advance_of.ensures.1)

pub overflow_add-width-in-loop-taken : goal.overflow_add-width-in-loop-taken
overflow_add-width-in-loop-taken c =
    omega (arith, line_small _ _ _ _ c.loop-taken.invariant c.args.self.now.short, c.advance_of.ensures.1, c.word-next.ensures.small)

pub returns-then-self-width : goal.returns-then-self-width
returns-then-self-width c =
    line_full _ _ _ _ c.loop-taken.invariant c.loop-taken-test.true _ c.word-next.ensures (rw c.advance_of.ensures.0 at c.if-self-width.true) c.args.self.now.short

pub loop-taken-preserved : goal.loop-taken-preserved
loop-taken-preserved c =
    rw c.advance_of.ensures.0
    (line_step _ _ _ _ c.loop-taken.invariant c.loop-taken-test.true _ c.word-next.ensures (rw c.advance_of.ensures.0 at c.if-self-width.false))

pub returns : goal.returns
returns c = line_done _ _ _ _ c.loop-taken.invariant c.loop-taken-test.false c.args.self.now.short
