-- Document 01, "Link rules": those on slots, on the slots stated and on fields.
use Rattle.field.specs.declared.NodeId.{NodeId}
use Rattle.std.specs.Prelude.{ℕ, ◌+◌, Bool, true, cond, not, ◌&&◌, ltb, List, [], ◌∷◌, length, nat_lt, None, Option, Some}
use Rattle.field.specs.declared.Field.{Field}
use Rattle.arithmetic.specs.Tests.{same, occ, head_or, final_or, from_to, all}
use Rattle.arena.specs.Slots.{NIL, Slots, at, chain, kids_at, order, is_id}
use Rattle.arena.specs.declared.Slot.{Slot}

-- 1 where the slot is live, else 0.
abbrev pub aliveness : Slot → ℕ
aliveness s = cond s.live 1 0

-- The children of p, of which the one before was `pv`: parent and both siblings are right, and the last one's next is none.
unfoldable pub kids_well : Slots → ℕ → ℕ → List ℕ → Bool
kids_well s p pv [] = true
kids_well s p pv (c ∷ cs) =
    (same (at s c).parent p && (same (at s c).prev_sibling pv && same (at s c).next_sibling (head_or NIL cs))) && kids_well s p c cs

-- The slot's links to its children: the first and the last are those of its chain, or none.
unfoldable pub node_well : Slots → ℕ → Bool
node_well s i =
    let cs = kids_at s i in
    same (at s i).first_child (head_or NIL cs) && (same (at s i).last_child (final_or NIL cs) && kids_well s i NIL cs)

-- The free chain: each slot's next is the one after it, and the last one's is none.
unfoldable pub free_well : Slots → List ℕ → Bool
free_well s [] = true
free_well s (i ∷ is) = same (at s i).next_sibling (head_or NIL is) && free_well s is

-- Slot i is in one of two lists once, and in the first just where it is live.
abbrev pub once : Slots → List ℕ → List ℕ → ℕ → Bool
once s reached free i = same (occ i reached) (aliveness (at s i)) && same (occ i reached + occ i free) 1

-- Live nodes are just those reached from the root, each once; the free chain holds each dead slot once; nothing else is in either.
unfoldable pub each_once : ℕ → Slots → List ℕ → List ℕ → Bool
each_once n s reached free =
    all (once s reached free) (from_to 0 n)
    && (all (λ (i : ℕ). ltb i n) reached && all (λ (i : ℕ). ltb i n) free)

-- Slot 0 is live and alone on top.
abbrev pub root_well : Slots → Bool
root_well s = (at s 0).live && (same (at s 0).parent NIL && (same (at s 0).prev_sibling NIL && same (at s 0).next_sibling NIL))

-- The links of a tree: its limit, its slots, the head of its free chain and its count of live nodes.
unfoldable pub linked : ℕ → Slots → ℕ → ℕ → Bool
linked n s head live =
    let reached = order 128 s (0 ∷ []) in
    let free = chain 128 s head in
    root_well s
    && (each_once n s reached free
    && (all (node_well s) reached
    && (same head (head_or NIL free) && (free_well s free && same live (length reached)))))

-- No number twice, and all below n.
unfoldable pub distinct : ℕ → List ℕ → Bool
distinct n [] = true
distinct n (i ∷ is) = nat_lt i n && (same (occ i is) 0 && distinct n is)

-- None of the fields has this owner.
abbrev pub lone : Option NodeId → List Field → Bool
lone None fs = true
lone (Some d) fs = all (λ (g : Field). not (is_id g.owner d)) fs

-- No two fields with one owner.
unfoldable pub owners_well : List Field → Bool
owners_well [] = true
owners_well (f ∷ fs) = lone f.owner fs && owners_well fs
