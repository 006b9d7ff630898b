-- The places passed hold their slots. Assumes nothing.
use Rattle.std.proofs.Common.{◌≡◌, ℕ, ◌<◌, length, get_or}
use Rattle.arena.specs.Slots.{no_slot, new_slot}
use Rattle.boxes.proofs.start.new_slots.Given as goal

abbrev pub invariant-loop-i : goal.invariant-loop-i
invariant-loop-i l = (length l.s-items ≡ 128) × ((k : ℕ) → k < l.i → get_or l.s-items k no_slot ≡ new_slot l.n k)
