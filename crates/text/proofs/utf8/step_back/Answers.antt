use mathlib.Core.Path.{◌≡◌, sym, ap, ◌∙◌}
use Prim.Native.Nat.{◌-◌}
use native.Mathlib.Omega.{arith}
use Rattle.text.specs.Steps.{back_of, step_back}
use Rattle.text.proofs.Walks.{back_ends_at_no_tail, back_goes_on}
use Rattle.text.proofs.utf8.step_back.Goals as goal

pub returns-then-not-tail_at : goal.returns-then-not-tail_at
unfolding step_back
returns-then-not-tail_at c = sym (back_ends_at_no_tail c.args.s.now (c.loop-i.i - 1) (sym c.tail_at.ensures ∙ c.if-not-tail_at.true)) ∙ c.loop-i.invariant

pub loop-i-preserved : goal.loop-i-preserved
loop-i-preserved c = sym (back_goes_on c.args.s.now (c.loop-i.i - 1) (omega arith) (sym c.tail_at.ensures ∙ c.if-not-tail_at.false)) ∙ c.loop-i.invariant

pub returns : goal.returns
unfolding step_back back_of
returns c = let e : c.loop-i.i - 1 ≡ 0 = omega arith in sym (ap (back_of c.args.s.now) e) ∙ c.loop-i.invariant
