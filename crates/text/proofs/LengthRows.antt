-- The lengths at the ends of each length: each side computes. Assumes nothing, and cites no other proof, so that a row tells by itself.
use mathlib.Core.Path.{◌≡◌, refl}
use mathlib.Core.List.{[], ◌∷◌, map}
use Prim.Native.Nat.{◌-◌, ◌^◌}
use lib.Count.{count_leading_zeros}
use Rattle.text.specs.Lengths.{length_by, length_of}

pub at_the_ends : map length_of (0 ∷ 65 ∷ 0x7F ∷ 0x80 ∷ 0x7FF ∷ 0x800 ∷ 0xD800 ∷ 0xFFFF ∷ 0x10000 ∷ 0x10FFFF ∷ (2 ^ 32 - 1) ∷ []) ≡ 1 ∷ 1 ∷ 1 ∷ 2 ∷ 2 ∷ 3 ∷ 3 ∷ 3 ∷ 4 ∷ 4 ∷ 4 ∷ []
unfolding length_of length_by count_leading_zeros
at_the_ends = refl
