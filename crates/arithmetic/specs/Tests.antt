-- Tests of numbers and of lists, and lists of numbers: what every crate above speaks in. A choice by a test is the kit's `cond`.
use Rattle.std.specs.Prelude.{ℕ, zero, suc, ◌+◌, Bool, false, cond, ◌&&◌, List, [], ◌∷◌, ◌++◌, eqb, leb, ℤ, pos, negsuc, length, drop}
-- A test holds of all.
pub use Rattle.std.specs.List.{list_all as all}

-- Two numbers are equal.
unfoldable pub same : ℕ → ℕ → Bool
same i j = eqb i j

-- 1 where they are, else 0.
unfoldable pub δ : ℕ → ℕ → ℕ
δ i j = cond (same i j) 1 0

-- How often j occurs.
abbrev pub occ : ℕ → List ℕ → ℕ
occ j [] = 0
occ j (i ∷ is) = δ i j + occ j is

-- The first and the last of a list, or d.
abbrev pub head_or : ℕ → List ℕ → ℕ
head_or d [] = d
head_or d (i ∷ is) = i

abbrev pub final_or : ℕ → List ℕ → ℕ
final_or d [] = d
final_or d (i ∷ is) = final_or i is

-- The numbers from i on, n of them.
abbrev pub from_to : ℕ → ℕ → List ℕ
from_to i zero = []
from_to i (suc n) = i ∷ from_to (suc i) n

-- A list written over the front of an array: places past the count keep what they held.
abbrev pub over : {A : Type 0} → List A → List A → List A
over s old = s ++ drop (length s) old

-- Two whole numbers are equal.
abbrev pub same_z : ℤ → ℤ → Bool
same_z (pos m) (pos n) = same m n
same_z (pos m) (negsuc n) = false
same_z (negsuc m) (pos n) = false
same_z (negsuc m) (negsuc n) = same m n

-- A number lies between two ends: it is one of lo, lo + 1, .., hi.
unfoldable pub within : ℕ → ℕ → ℕ → Bool
within lo hi x = leb lo x && leb x hi
