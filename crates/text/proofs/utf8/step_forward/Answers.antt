use mathlib.Core.Path.{◌≡◌, sym, ap, ◌∙◌}
use mathlib.Core.List.{List}
use Prim.Native.Nat.{ℕ, ◌+◌}
use native.Mathlib.Omega.{arith}
use lib.ListN.{drop}
use borrow.Author.Tests.{lt-ltb, le-ltb}
use Rattle.text.specs.Steps.{is_tail, front, step_forward}
use Rattle.text.proofs.Walks.{front_ends, front_goes_on, front_of_none, lent_at}
use Rattle.text.proofs.utf8.step_forward.Goals as goal

pub returns-then-s-at : goal.returns-then-s-at
unfolding step_forward
returns-then-s-at c = rw (le-ltb _ _ c.if-s-at.true)

pub returns-then-not-is_tail : goal.returns-then-not-is_tail
unfolding step_forward
returns-then-not-is_tail c = rw (lt-ltb _ _ c.if-s-at.false) (omega (arith, c.loop-i.invariant, front_ends is_tail c.args.s.now (c.args.at + 1 + c.loop-i.i) (omega arith) (sym (ap is_tail (lent_at (c.args.at + 1) c.args.s.now c.loop-i.i)) ∙ sym c.is_tail.ensures ∙ c.if-not-is_tail.true)))

pub loop-i-preserved : goal.loop-i-preserved
loop-i-preserved c =
    let s : List ℕ = c.args.s.now in
    let k : ℕ = c.args.at + 1 + c.loop-i.i in
    let e : k + 1 ≡ c.args.at + 1 + (c.loop-i.i + 1) = omega arith in
    omega (arith, c.loop-i.invariant, ap (λ (n : ℕ). front is_tail (drop n s)) e, front_goes_on is_tail s k (omega arith) (sym (ap is_tail (lent_at (c.args.at + 1) s c.loop-i.i)) ∙ sym c.is_tail.ensures ∙ c.if-not-is_tail.false))

pub returns : goal.returns
unfolding step_forward
returns c = rw (lt-ltb _ _ c.if-s-at.false) (omega (arith, c.loop-i.invariant, front_of_none is_tail c.args.s.now (c.args.at + 1 + c.loop-i.i) (omega arith)))
