-- What is left of the stated slots goes behind the turns, from the last. Assumes nothing.
use Rattle.std.proofs.Common.{◌≡◌, take}
use Rattle.arena.specs.Slots.{backwards}
use Rattle.arena.specs.Support.Lists.{none_listed, added_all}
use Rattle.boxes.proofs.wearing.in_turn.Given as goal

abbrev pub invariant-loop-i : goal.invariant-loop-i
invariant-loop-i l = added_all l.turns (backwards l.i-iterator.iter.rest.now) ≡ added_all none_listed (backwards (take l.fn.count l.fn.stated))
