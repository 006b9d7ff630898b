use Rattle.std.proofs.Common.{◌≡◌, ◌+◌, ◌-◌, [], length, arith, rules}
use Rattle.arena.specs.Slots.{no_slot, at, chain}
use Rattle.arithmetic.specs.Tests.{same}
use Rattle.arena.proofs.Forests.ChainLaws.{chain_none, chain_spent}
use Rattle.arena.proofs.Checks.WalkLaws.{passing_start, passing_more, passing_done}
use Rattle.arena.proofs.rules.list_children.Goals as goal
use Rattle.arena.proofs.rules.list_children.Goals.{else-loop-test, then-loop-test+in_default}

pub loop-init : goal.loop-init
loop-init c = rw c.slot_at-s.ensures (passing_start c.args.slots.now c.args.node c.args.order.now)

pub loop-preserved : goal.loop-preserved
unfolding at same
loop-preserved c =
    let l = c.loop in
    let s = c.args.slots.now in
    let e : length s ≡ 128 = search rules in
    let h = c.in-Some.ensures.lookup.3 in
    let d : 128 - (l.counter + 1) ≡ 128 - l.counter - 1 = omega arith in
    rw d (passing_more s c.args.node c.args.order.now l.order l.child l.prev (128 - l.counter) l.well l.invariant (λ z. absurd (omega arith)) (omega arith) (h.1 no_slot) c.push.ensures)

pub returns : goal.returns
unfolding same
returns c =
    let l = c.loop in
    let s = c.args.slots.now in
    let e : length s ≡ 128 = search rules in
    let d : chain (128 - l.counter) s l.child ≡ [] = elim c.loop-test.branch [ else-loop-test w ↦ chain_spent _ _ _ (omega arith) | then-loop-test+in_default w ↦ chain_none _ _ _ (omega (arith, w.in_default.ensures.lookup.3)) ] in
    rw c.slot_at-s.ensures (passing_done s c.args.node c.args.order.now l.order l.child l.prev (128 - l.counter) l.well l.invariant d)
