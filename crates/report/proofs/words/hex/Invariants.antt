-- Each pair of digits is a byte, so that what is read and what is left are the word.
use Rattle.std.proofs.Common.{◌≡◌, ◌≤◌, ◌*◌, ◌+◌, length}
use Rattle.arrayvec.specs.ArrayVec.{array_vec_len}
use Rattle.report.proofs.words.hex.Given as goal

abbrev pub invariant-loop-pair : goal.invariant-loop-pair
invariant-loop-pair l =
    (l.pair-iterator.size ≡ 2) × (array_vec_len l.bytes * 2 + length l.pair-iterator.rest.now ≤ length l.fn.w)
