-- The new tree: slot 0 holds the root alone, and slots 1 to n - 1 are the free chain in index order. Assumes nothing.
use Rattle.std.proofs.Common.{◌≡◌, ℕ, zero, suc, ◌+◌, ◌-◌, ◌<◌, ◌≤◌, cond, ltb, length, get_or, refl, ap, ◌∙◌, arith, le-ltb, lt-ltb}
use native.Mathlib.Decide.{dec_lt}
use lib.ListN.{get_or-eq_default}
use Rattle.arithmetic.specs.Tests.{occ, head_or, from_to}
use Rattle.arena.specs.Forest.{nil, node}
use Rattle.arena.specs.Slots.{NIL, no_slot, at, used, idle, new_slot, new_slots}
use Rattle.arena.specs.declared.Slot.{Slot}
use Rattle.arithmetic.proofs.TestLaws.{δ-other, eq_cases, bool_cases}
use Rattle.arena.proofs.Forests.Relations.{Rel, FreeR}

-- ---- numbers in a row

pub length_from_to : (i k : ℕ) → length (from_to i k) ≡ k
length_from_to i zero = refl
length_from_to i (suc k) = ap suc (length_from_to (suc i) k)

pub occ_before : (i k j : ℕ) → j < i → occ j (from_to i k) ≡ 0
occ_before i zero j h = refl
occ_before i (suc k) j h = let d = δ-other i j (λ e. omega arith) in let r = occ_before (suc i) k j (omega arith) in omega arith

pub occ_after : (i k j : ℕ) → i + k ≤ j → occ j (from_to i k) ≡ 0
occ_after i zero j h = refl
occ_after i (suc k) j h = let d = δ-other i j (λ e. omega arith) in let r = occ_after (suc i) k j (omega arith) in omega arith

pub occ_within : (i k j : ℕ) → i ≤ j → j < i + k → occ j (from_to i k) ≡ 1
occ_within i zero j h h' = absurd (omega arith)
occ_within i (suc k) j h h' =
    eq_cases i j
    (λ e s d. let r = occ_before (suc i) k j (omega arith) in omega arith)
    (λ e s d. let r = occ_within (suc i) k j (omega arith) (omega arith) in omega arith)

-- ---- the slots of a new tree

pub new_length : (n i k : ℕ) → length (new_slots n i k) ≡ k
unfolding new_slots
new_length n i zero = refl
new_length n i (suc k) = ap suc (new_length n (suc i) k)

new_at : (n i k j : ℕ) → j < k → get_or (new_slots n i k) j no_slot ≡ new_slot n (i + j)
unfolding new_slots
new_at n i zero j h = absurd (omega arith)
new_at n i (suc k) zero h = ap (new_slot n) (omega arith)
new_at n i (suc k) (suc j) h = new_at n (suc i) k j (omega arith) ∙ ap (new_slot n) (omega arith)

pub slot_at : (n j : ℕ) → j < 128 → at (new_slots n 0 128) j ≡ new_slot n j
unfolding at
slot_at n j h = new_at n 0 128 j h ∙ ap (new_slot n) (omega arith)

-- a free slot: the next is the one after it, up to the limit
new_idle : (n i k : ℕ) → suc i + suc k ≡ n → new_slot n (suc i) ≡ idle 1 (head_or NIL (from_to (suc (suc i)) k))
unfolding new_slot
new_idle n i zero e = rw (lt-ltb (suc i) n (omega arith), le-ltb (suc (suc i)) n (omega arith))
new_idle n i (suc k) e = rw (lt-ltb (suc i) n (omega arith), lt-ltb (suc (suc i)) n (omega arith))

new_chain : (n i k : ℕ) → n ≤ 128 → suc i + k ≡ n → FreeR (new_slots n 0 128) (from_to (suc i) k)
new_chain n i zero h e = tt
new_chain n i (suc k) h e =
    let q : at (new_slots n 0 128) (suc i) ≡ idle 1 (head_or NIL (from_to (suc (suc i)) k)) = slot_at n (suc i) (omega arith) ∙ new_idle n i k e in
    (rw q, rw q, new_chain n (suc i) k h (omega arith))

new_root : (n : ℕ) → at (new_slots n 0 128) 0 ≡ used 1 NIL NIL NIL NIL NIL
unfolding new_slot
new_root n = slot_at n 0 (omega arith)

slot_generation : (n j : ℕ) → (new_slot n j).generation ≤ 1
unfolding new_slot
slot_generation n zero = omega arith
slot_generation n (suc j) = bool_cases (ltb (suc j) n) (λ b. rw b (omega arith)) (λ b. rw b (omega arith))

slot_out : (n j : ℕ) → 128 ≤ j → at (new_slots n 0 128) j ≡ no_slot
unfolding at
slot_out n j h = let l = new_length n 0 128 in get_or-eq_default (new_slots n 0 128) no_slot (omega arith)

pub start_generations : (n j : ℕ) → (at (new_slots n 0 128) j).generation ≤ 1
start_generations n j = go (dec_lt j 128)
  where
    go : Dec (j < 128) → (at (new_slots n 0 128) j).generation ≤ 1
    go (yes h) = rw (slot_at n j h) (slot_generation n j)
    go (no h) = rw (slot_out n j (omega arith)) (omega arith)

pub start_root_generation : (n : ℕ) → (at (new_slots n 0 128) 0).generation ≡ 1
start_root_generation n = ap (λ (s : Slot). s.generation) (new_root n)

module _ {X : Type 0} where
  start : (n k : ℕ) (x : X) → suc k ≡ n → n ≤ 128 → Rel n (new_slots n 0 128) (cond (ltb 1 n) 1 NIL) (node 0 1 x nil nil) (from_to 1 k)
  start n k x e h = record {
    len = new_length n 0 128;
    small = h;
    links = (new_root n, tt, tt);
    frees = new_chain n 0 k h (omega arith);
    head = first k e;
    cover = λ j l. eq_cases 0 j
        (λ q s d. let o = occ_before 1 k j (omega arith) in omega arith)
        (λ q s d. let o = occ_within 1 k j (omega arith) (omega arith) in omega arith);
    inside = λ j l. let d = δ-other 0 j (λ q. omega arith) in let o = occ_after 1 k j (omega arith) in omega arith;
    root = λ j. omega arith;
    total = let l = length_from_to 1 k in omega arith;
  }
    where
      first : (m : ℕ) → suc m ≡ n → cond (ltb 1 n) 1 NIL ≡ head_or NIL (from_to 1 m)
      first zero q = rw (le-ltb 1 n (omega arith))
      first (suc m) q = rw (lt-ltb 1 n (omega arith))

  pub start_rel : (n : ℕ) (x : X) → 1 ≤ n → n ≤ 128 → Rel n (new_slots n 0 128) (cond (ltb 1 n) 1 NIL) (node 0 1 x nil nil) (from_to 1 (n - 1))
  start_rel n x l h = start n (n - 1) x (omega arith) h
