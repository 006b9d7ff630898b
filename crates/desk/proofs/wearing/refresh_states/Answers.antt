-- Each in turn by its contract. Assumes nothing.
use mathlib.Core.Path.{◌∙◌}
use native.Mathlib.Omega.{arith}
use Rattle.arena.specs.Slots.{at}
use Rattle.tree.proofs.Wearings.{look_first, look_last, look_more, look_slots, bits_there, refreshed_whole}
use Rattle.desk.proofs.wearing.refresh_states.Goals as goal

pub loop-i-init : goal.loop-i-init
loop-i-init c = look_first c.args.u.now c.args.hover _

pub loop-i-preserved : goal.loop-i-preserved
unfolding at
loop-i-preserved c =
    let u = c.args.u.now in
    let l = c.loop-i in
    let bits = rw c.slot_at.ensures at c.bits_in-bits.ensures ∙ bits_there u l.u c.args.hover _ (look_slots u _ l.u l.invariant) in
    look_more u c.args.hover c.as_slice-i-items.result.now l.u c.wear.new.u l.i-index c.bits_in-bits.result (omega (arith, c.loop-i-test.true)) l.invariant bits c.wear.ensures

pub returns : goal.returns
returns c =
    let u = c.args.u.now in
    let l = c.loop-i in
    let w = look_last u c.args.hover c.as_slice-i-items.result.now l.u l.i-index (omega (arith, c.loop-i-test.false)) l.invariant in
    refreshed_whole u l.u c.args.hover w (c.as_slice-i-items.ensures ∙ c.in_turn-turns.ensures.1) c.restated-count.ensures
