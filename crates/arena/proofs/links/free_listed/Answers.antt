use Rattle.std.proofs.Common.{get_or, refl, ap, ◌∙◌}
use Rattle.arena.specs.Slots.{put, idle, next_generation}
use Rattle.arena.specs.declared.Slot.{Slot}
use Rattle.arena.proofs.Checks.ListLaws.{freed_more, freed_done}
use Rattle.arena.proofs.links.free_listed.Goals as goal

pub loop-i-preserved : goal.loop-i-preserved
loop-i-preserved c =
    let l = c.loop-i in
    let x = get_or c.as_slice-i-items.result.now l.i-index 0 in
    let e = c.set_slot.ensures ∙ ap (put l.slots x) (c.freed_slot-gone.ensures ∙ ap (λ (s : Slot). idle (next_generation s.generation) l.head) c.slot_at.ensures) in
    let m = freed_more _ _ c.as_slice-i-items.result.now l.i-index c.loop-i-test.true refl e refl in
    (m.0 ∙ l.invariant.0, m.1 ∙ l.invariant.1)

pub returns : goal.returns
returns c =
    let l = c.loop-i in
    let m = freed_done _ _ c.as_slice-i-items.result.now l.i-index c.loop-i-test.false in
    rw (← c.as_slice-i-items.ensures) (m.0 ∙ l.invariant.0, m.1 ∙ l.invariant.1)
