-- Assumes nothing.
use Rattle.std.proofs.Common.{◌≡◌, ◌<◌, ◌≢◌, length, sym, ◌∙◌, arith, get_or-set_other, get_or-set_same, length-set, below_more}
use lib.Seq.{ext_get_or}
use Rattle.arena.specs.Slots.{at, no_slot, new_slots}
use Rattle.arena.proofs.Forests.Starts.{new_length, slot_at}
use Rattle.boxes.proofs.start.new_slots.Goals as goal

pub loop-i-preserved : goal.loop-i-preserved
loop-i-preserved c =
    let l = c.loop-i in
    let n : length l.s-items ≡ 128 = l.invariant.0 in (
      length-set l.s-items l.i c.new_slot.result ∙ n,
      below_more _ _
          (λ k h. let ne : k ≢ l.i = omega arith in rw get_or-set_other (l.invariant.1 k h))
          (let lt : l.i < length l.s-items = omega arith in rw get_or-set_same c.new_slot.ensures),
    )

pub returns : goal.returns
unfolding at
returns c =
    let l = c.loop-i in
    let n = c.args.n in
    ext_get_or no_slot l.s-items (new_slots n 0 128) (l.invariant.0 ∙ sym (new_length n 0 128))
    (λ k h. l.invariant.1 k (omega arith) ∙ sym (slot_at n k (omega arith)))
