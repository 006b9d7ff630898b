-- One slot more, and in the end all below the limit. Assumes nothing.
use Rattle.std.proofs.Common.{ap, ◌∙◌, arith}
use Rattle.arithmetic.specs.Tests.{all}
use Rattle.arena.specs.Support.Lists.{once_by}
use Rattle.arena.proofs.Checks.CheckLaws.{one_more_tested, all_tested}
use Rattle.arena.proofs.rules.all_once.Goals as goal

pub loop-k-preserved : goal.loop-k-preserved
loop-k-preserved c =
    let a = c.args in
    one_more_tested a.slots.now a.reached.now a.free.now c.told-slots c.told-reached c.told-free c.loop-k.k (omega (arith, c.min-k-end.ensures, c.loop-k-test.true)) c.once_well-well.ensures c.loop-k.invariant

pub returns : goal.returns
returns c =
    let a = c.args in
    let k = c.loop-k.k in
    c.loop-k.invariant ∙ ap (all (λ x. once_by x.0 x.1.0 x.1.1)) (all_tested a.slots.now a.reached.now a.free.now c.told-slots c.told-reached c.told-free a.limit k (omega (arith, c.min-k-end.ensures, c.loop-k-test.false, c.loop-k.auto)))
