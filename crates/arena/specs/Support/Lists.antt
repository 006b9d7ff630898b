-- A list of slots kept in an array with a count.
use Rattle.arena.specs.declared.Slot.{Slot}
use Rattle.arena.specs.Slots.{Slots, at, joined}
use Rattle.std.specs.Prelude.{◌≡◌, ℕ, zero, suc, ◌+◌, ◌<◌, Bool, cond, ◌&&◌, List, [], ◌∷◌, take, replicate, nat_lt, slice_index, slice_set}
use Rattle.arithmetic.specs.Tests.{same, occ}
use Rattle.arena.specs.Rules.{aliveness}
use Rattle.arena.specs.declared.listed.Listed.{Listed}

-- An array and a count.
abbrev pub list_of : {n : ℕ} → List ℕ → ℕ → Listed n
list_of l k = record { items = l; count = k }

-- The slots listed.
unfoldable pub listed : {n : ℕ} → Listed n → List ℕ
listed o = take o.count o.items

-- None.
unfoldable pub none_listed : {n : ℕ} → Listed n
none_listed {n} = record { items = replicate n 0; count = 0 }

-- One more after them, where there is room.
unfoldable pub added : {n : ℕ} → Listed n → ℕ → Listed n
added {n} o i = cond (nat_lt o.count n) (record { items = slice_set o.items o.count i; count = o.count + 1 }) o

-- More after them, as far as there is room.
unfoldable pub added_all : {n : ℕ} → Listed n → List ℕ → Listed n
added_all o [] = o
added_all o (i ∷ is) = added_all (added o i) is

-- Every item is a slot's index.
abbrev pub Small : List ℕ → Type 0
Small l = (i : ℕ) → slice_index l i < 128

-- The array has for each slot how often it occurs in the list.
abbrev pub Tallied : List ℕ → List ℕ → Type 0
Tallied times l = (j : ℕ) → j < 128 → slice_index times j ≡ occ j l

-- The test of one slot by how often it is reached and how often it is free: once in all, and reached just where it is live.
abbrev pub once_by : Slot → ℕ → ℕ → Bool
once_by s reached free = same reached (aliveness s) && same (reached + free) 1

-- The slots from c on by previous links: at most k, up to an index that is no slot.
unfoldable pub chain_back : ℕ → Slots → ℕ → List ℕ
chain_back zero s c = []
chain_back (suc k) s c = cond (nat_lt c 128) (c ∷ chain_back k s (at s c).prev_sibling) []

-- The order of freeing as the code walks it: from the last child on by previous links.
unfoldable pub back_order : ℕ → Slots → ℕ → List ℕ
back_order zero s i = []
back_order (suc d) s i = i ∷ joined (back_order d s) (chain_back 128 s (at s i).last_child)

-- As much of it as the array holds.
unfoldable pub walked : Slots → ℕ → List ℕ
walked s i = take 128 (back_order 128 s i)
