-- The relation of slots and free chain to a forest and a list of free slots: the forest says each live slot, and every index below the
-- limit is in just one of the two. Assumes nothing.
use Rattle.std.proofs.Common.{◌≡◌, ℕ, ◌+◌, ◌<◌, ◌≤◌, false, List, [], ◌∷◌, length, arith}
use native.Mathlib.Decide.{dec_lt}
use Rattle.arithmetic.specs.Tests.{δ, occ, head_or}
use Rattle.arena.specs.Forest.{Forest, size}
use Rattle.arena.specs.Slots.{NIL, Slots, at}
use Rattle.arithmetic.proofs.TestLaws.{δ-refl}
use Rattle.arena.proofs.Forests.ForestLaws.{cnt, top}
use Rattle.arena.proofs.Forests.Segments.{SegR}

-- the free chain, as the rules ask it: its slots are dead, and each one's next is the one after it
abbrev pub FreeR : Slots → List ℕ → Type 0
FreeR a [] = Unit {0}
FreeR a (i ∷ is) = ((at a i).live ≡ false) × ((at a i).next_sibling ≡ head_or NIL is) × FreeR a is

pub free_frame : (a b : Slots) (l : List ℕ) → ((j : ℕ) → 0 < occ j l → at b j ≡ at a j) → FreeR a l → FreeR b l
free_frame a b [] h r = tt
free_frame a b (i ∷ is) h r =
    let d = δ-refl i in
    let e = h i (omega arith) in
    (rw e r.0, rw e r.1, free_frame a b is (λ j c. h j (omega arith)) r.2)

-- ---- the relation

module _ {X : Type 0} where
  pub record Rel (n : ℕ) (s : Slots) (free : ℕ) (t : Forest X) (fl : List ℕ) : Type 0 where
    pub len : length s ≡ 128
    pub small : n ≤ 128
    pub links : SegR s NIL NIL t NIL
    pub frees : FreeR s fl
    pub head : free ≡ head_or NIL fl
    pub cover : (j : ℕ) → j < n → cnt j t + occ j fl ≡ 1
    pub inside : (j : ℕ) → n ≤ j → cnt j t + occ j fl ≡ 0
    pub root : (j : ℕ) → top j t ≡ δ 0 j
    pub total : size t + length fl ≡ n

  pub once : {n : ℕ} {s : Slots} {free : ℕ} {t : Forest X} {fl : List ℕ} → Rel n s free t fl → (j : ℕ) → cnt j t + occ j fl ≤ 1
  once {n} {s} {free} {t} {fl} r j = go (dec_lt j n)
    where
      go : Dec (j < n) → cnt j t + occ j fl ≤ 1
      go (yes p) = let h = r.cover j p in omega arith
      go (no q) = let h = r.inside j (omega arith) in omega arith

  pub below : {n : ℕ} {s : Slots} {free : ℕ} {t : Forest X} {fl : List ℕ} → Rel n s free t fl → (j : ℕ) → 0 < cnt j t + occ j fl → j < n
  below {n} r j z = go (dec_lt j n)
    where
      go : Dec (j < n) → j < n
      go (yes p) = p
      go (no q) = let h = r.inside j (omega arith) in absurd (omega arith)
