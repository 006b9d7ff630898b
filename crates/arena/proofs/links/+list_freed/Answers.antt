use Rattle.std.proofs.Common.{◌≡◌, ◌+◌, ◌-◌, length, sym, ap, ◌∙◌, arith, rules}
use Rattle.arena.specs.declared.Slot.{Slot}
use Rattle.arena.specs.Slots.{no_slot, at}
use Rattle.arena.proofs.Checks.ListLaws.{added_full, children_more, children_end, children_done, back_order_none, back_order_whole}
use Rattle.arena.proofs.links.+list_freed.Goals as goal
use Rattle.arena.proofs.links.+list_freed.Goals.{then-depth-eq0-via-then-depth-eq0, then-depth-eq0-via-else-depth-eq0+then-order-ge128}

pub returns-then-depth-eq0 : goal.returns-then-depth-eq0
returns-then-depth-eq0 t c =
    elim c.then-depth-eq0.branch [
      | then-depth-eq0-via-then-depth-eq0 w ↦ back_order_none _ c.args.slots.now _ _ w.if-depth-eq0.true
      | then-depth-eq0-via-else-depth-eq0+then-order-ge128 w ↦ sym (added_full _ _ w.if-order-ge128.true)
    ]

pub returns-in_default : goal.returns-in_default
returns-in_default t c =
    let l = c.loop in
    let s = c.args.slots.now in
    let e : length s ≡ 128 = search rules in
    sym (children_end s _ (128 - l.counter) _ l.child (omega (arith, c.in_default.ensures.lookup.3))) ∙ l.invariant
    ∙ back_order_whole _ s _ _ c.if-depth-eq0.false c.push.ensures (ap (λ (x : Slot). x.last_child) c.slot_at-child.ensures)

pub loop-preserved : goal.loop-preserved
unfolding at
loop-preserved t c =
    let l = c.loop in
    let s = c.args.slots.now in
    let e : length s ≡ 128 = search rules in
    let h = c.in-Some.ensures.lookup.3 in
    let d : 128 - (l.counter + 1) ≡ 128 - l.counter - 1 = omega arith in
    rw (c.list_freed.ensures, h.1 no_slot, d) (children_more s _ (128 - l.counter) _ l.child (omega arith) (omega arith) ∙ l.invariant)

pub returns : goal.returns
returns t c =
    let l = c.loop in
    let s = c.args.slots.now in
    sym (children_done s _ (128 - l.counter) _ l.child (omega arith)) ∙ l.invariant
    ∙ back_order_whole _ s _ _ c.if-depth-eq0.false c.push.ensures (ap (λ (x : Slot). x.last_child) c.slot_at-child.ensures)
