-- Slots stated, in a list of 3.
use Rattle.std.specs.Prelude.{ℕ, Bool, ◌&&◌, not, cond, List, [], ◌∷◌, length}
use Rattle.arithmetic.specs.Tests.{same, occ, over}
use Rattle.arena.specs.Support.Lists.{list_of, listed, added}
use Rattle.arena.specs.declared.listed.Listed.{Listed}

-- One slot more, where it is asked for and not yet there.
unfoldable pub kept_more : Listed 3 → Bool → ℕ → Listed 3
kept_more k asked i = cond (asked && same (occ i (listed k)) 0) (added k i) k

-- Each slot of a list, where it has bits.
unfoldable pub kept_live : (ℕ → ℕ) → Listed 3 → List ℕ → Listed 3
kept_live bits' k [] = k
kept_live bits' k (i ∷ is) = kept_live bits' (kept_more k (not (same (bits' i) 0)) i) is

-- A list kept over the front of an array.
abbrev pub kept_as : List ℕ → List ℕ → Listed 3
kept_as l old = list_of (over l old) (length l)
