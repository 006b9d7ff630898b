use Rattle.std.proofs.Common.{◌≡◌, ◌+◌, ◌-◌, [], length, arith, rules}
use Rattle.arena.specs.Slots.{no_slot, at, chain}
use Rattle.arithmetic.specs.Tests.{same}
use Rattle.arena.proofs.Forests.ChainLaws.{chain_none, chain_spent}
use Rattle.arena.proofs.Checks.WalkLaws.{chained_more, chained_done}
use Rattle.arena.proofs.rules.free_chain.Goals as goal
use Rattle.arena.proofs.rules.free_chain.Goals.{else-loop-test, then-loop-test+in_default}

pub loop-preserved : goal.loop-preserved
unfolding at
loop-preserved c =
    let l = c.loop in
    let e : length c.args.slots.now ≡ 128 = search rules in
    let h = c.in-Some.ensures.lookup.3 in
    let d : 128 - (l.counter + 1) ≡ 128 - l.counter - 1 = omega arith in
    rw d (chained_more c.args.slots.now c.args.free l.order l.i (128 - l.counter) l.invariant (λ z. absurd (omega arith)) (omega arith) (h.1 no_slot) c.push.ensures)

pub returns : goal.returns
unfolding same
returns c =
    let l = c.loop in
    let e : length c.args.slots.now ≡ 128 = search rules in
    let d : chain (128 - l.counter) c.args.slots.now l.i ≡ [] = elim c.loop-test.branch [ else-loop-test w ↦ chain_spent _ _ _ (omega arith) | then-loop-test+in_default w ↦ chain_none _ _ _ (omega (arith, w.in_default.ensures.lookup.3)) ] in
    chained_done c.args.slots.now c.args.free l.order l.i (128 - l.counter) l.invariant d
