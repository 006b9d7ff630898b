-- Document 01, **Tree**: slots, their links, and the ids that name them.
use Rattle.std.specs.Prelude.{ℕ, zero, suc, ◌+◌, ◌%◌, ◌^◌, Bool, true, false, cond, ◌&&◌, List, [], ◌∷◌, ◌++◌, nat_lt, slice_index_or, slice_set, None, Option, Some}
use Rattle.field.specs.declared.NodeId.{NodeId}
use Rattle.arithmetic.specs.Tests.{same}
use Rattle.arena.specs.declared.Slot.{Slot}

-- No neighbour.
abbrev pub NIL : ℕ
NIL = 4294967295

abbrev pub Slots : Type 0
Slots = List Slot

-- What a read past the array gives.
abbrev pub no_slot : Slot
no_slot = record { generation = 0; live = false; parent = 0; first_child = 0; last_child = 0; prev_sibling = 0; next_sibling = 0 }

unfoldable pub at : Slots → ℕ → Slot
at s i = slice_index_or s i no_slot

unfoldable pub put : Slots → ℕ → Slot → Slots
put s i x = slice_set s i x

-- A live slot: generation, parent, first and last child, previous and next sibling. A dead one: generation, and the next of the free chain.
abbrev pub used : ℕ → ℕ → ℕ → ℕ → ℕ → ℕ → Slot
used g par f l p n = record { generation = g; live = true; parent = par; first_child = f; last_child = l; prev_sibling = p; next_sibling = n }

abbrev pub idle : ℕ → ℕ → Slot
idle g n = record { generation = g; live = false; parent = NIL; first_child = NIL; last_child = NIL; prev_sibling = NIL; next_sibling = n }

-- A slot with one link changed.
abbrev pub set_first : ℕ → Slot → Slot
set_first v s = record { generation = s.generation; live = s.live; parent = s.parent; first_child = v; last_child = s.last_child; prev_sibling = s.prev_sibling; next_sibling = s.next_sibling }

abbrev pub set_last : ℕ → Slot → Slot
set_last v s = record { generation = s.generation; live = s.live; parent = s.parent; first_child = s.first_child; last_child = v; prev_sibling = s.prev_sibling; next_sibling = s.next_sibling }

abbrev pub set_prev : ℕ → Slot → Slot
set_prev v s = record { generation = s.generation; live = s.live; parent = s.parent; first_child = s.first_child; last_child = s.last_child; prev_sibling = v; next_sibling = s.next_sibling }

abbrev pub set_next : ℕ → Slot → Slot
set_next v s = record { generation = s.generation; live = s.live; parent = s.parent; first_child = s.first_child; last_child = s.last_child; prev_sibling = s.prev_sibling; next_sibling = v }

unfoldable pub change : Slots → ℕ → (Slot → Slot) → Slots
change s i f = put s i (f (at s i))

-- The id is live: a slot below the limit, live, and of this generation.
unfoldable pub is_live : ℕ → Slots → NodeId → Bool
is_live limit s d = nat_lt d.index limit && ((at s d.index).live && same (at s d.index).generation d.generation)

-- The id that names slot i.
abbrev pub id_at : Slots → ℕ → NodeId
id_at s i = record { index = i; generation = (at s i).generation }

-- The id is the one there.
abbrev pub same_id : NodeId → NodeId → Bool
same_id d e = same d.index e.index && same d.generation e.generation

abbrev pub is_id : Option NodeId → NodeId → Bool
is_id None d = false
is_id (Some e) d = same_id e d

-- The id that stands where there is none.
abbrev pub nobody : NodeId
nobody = record { index = 0; generation = 0 }

-- The slots from c on by next links: at most k, up to an index that is no slot.
unfoldable pub chain : ℕ → Slots → ℕ → List ℕ
chain zero s c = []
chain (suc k) s c = cond (nat_lt c 128) (c ∷ chain k s (at s c).next_sibling) []

-- The children of slot i in order.
unfoldable pub kids_at : Slots → ℕ → List ℕ
kids_at s i = chain 128 s (at s i).first_child

-- Parents before children, a level at a time: what is waiting, and then the children of the first of it.
unfoldable pub order : ℕ → Slots → List ℕ → List ℕ
order zero s q = []
order (suc k) s [] = []
order (suc k) s (i ∷ q) = i ∷ order k s (q ++ kids_at s i)

-- Slot i becomes the last child of p.
unfoldable pub link_after : Slots → ℕ → ℕ → ℕ → Slots
link_after s p i l = change (cond (same l NIL) (change s p (set_first i)) (change (change s l (set_next i)) i (set_prev l))) p (set_last i)

unfoldable pub link_last : Slots → ℕ → ℕ → Slots
link_last s p i = link_after s p i (at s p).last_child

-- Slot i leaves its parent's children.
unfoldable pub unlink_from : Slots → ℕ → ℕ → ℕ → Slots
unlink_from s par pv nx =
    let s1 = cond (same pv NIL) (change s par (set_first nx)) (change s pv (set_next nx)) in
    cond (same nx NIL) (change s1 par (set_last pv)) (change s1 nx (set_prev pv))

unfoldable pub unlink : Slots → ℕ → Slots
unlink s i = unlink_from s (at s i).parent (at s i).prev_sibling (at s i).next_sibling

-- The lists that f gives, joined.
abbrev pub joined : (ℕ → List ℕ) → List ℕ → List ℕ
joined f [] = []
joined f (c ∷ cs) = f c ++ joined f cs

-- The list from its last to its first.
abbrev pub backwards : List ℕ → List ℕ
backwards [] = []
backwards (i ∷ is) = backwards is ++ i ∷ []

-- The order of freeing: the node, then each child's subtree, last child first; d levels of it.
unfoldable pub free_order : ℕ → Slots → ℕ → List ℕ
free_order zero s i = []
free_order (suc d) s i = i ∷ joined (free_order d s) (backwards (kids_at s i))

-- All of it: no tree that keeps the link rules is deeper than 128.
unfoldable pub freeing : Slots → ℕ → List ℕ
freeing s i = free_order 128 s i

-- Plus 1, modulo 2^64.
unfoldable pub next_generation : ℕ → ℕ
next_generation g = (g + 1) % 2 ^ 64

-- The slots freed in an order, each put before the free chain, which starts at `head`.
unfoldable pub freed : Slots → ℕ → List ℕ → Slots
freed s head [] = s
freed s head (i ∷ is) = freed (put s i (idle (next_generation (at s i).generation) head)) i is

-- The slots of a new tree: the root alone; the other slots below the limit in the free chain, in index order.
unfoldable pub new_slot : ℕ → ℕ → Slot
new_slot n zero = used 1 NIL NIL NIL NIL NIL
new_slot n (suc i) = cond (nat_lt (suc i) n) (idle 1 (cond (nat_lt (suc (suc i)) n) (suc (suc i)) NIL)) no_slot

unfoldable pub new_slots : ℕ → ℕ → ℕ → Slots
new_slots n i zero = []
new_slots n i (suc k) = new_slot n i ∷ new_slots n (suc i) k
