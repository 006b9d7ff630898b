-- The slots that are stated after a refresh: an array written from its front holds the list that is asked for. Assumes nothing.
use Rattle.field.specs.declared.NodeId.{NodeId}
use Rattle.std.specs.Prelude.{None, Option, Some}
use lib.Seq.{take-append_seam}
use mathlib.Core.Path.{◌≡◌, refl, sym, ap, ap₂, ◌∙◌}
use mathlib.Core.Bool.{Bool, true, false, ◌&&◌, ◌||◌, not, cond}
use mathlib.Core.List.{List, [], ◌∷◌, ◌++◌}
use Prim.Native.Nat.{ℕ, ◌+◌, ◌≤◌, ◌<◌}
use native.Mathlib.Omega.{arith}
use lib.ListN.{length, set, drop, length-append}
use Rattle.arithmetic.specs.Tests.{same, δ, occ, over}
use Rattle.arena.specs.Slots.{Slots, is_live}
use Rattle.boxes.specs.States.{live_slot, bearing}
use Rattle.boxes.specs.Support.Wearing.{kept_more, kept_live, kept_as}
use Rattle.arena.specs.declared.listed.Listed.{Listed}
use Rattle.arena.specs.Support.Lists.{listed, added}
use borrow.Author.Tests.{lt-ltb, eq-eqb, ne_eqb}
use lib.Dec.{eqb, ltb}
use Rattle.std.specs.List.{list_any}
use Rattle.arithmetic.proofs.TestLaws.{eq_cases, same_no, same_refl}

-- a slot is not in a list just where it occurs there not once
pub not_among : (i : ℕ) (l : List ℕ) → not (list_any (λ (y : ℕ). eqb y i) l) ≡ same (occ i l) 0
not_among i [] = sym (same_refl 0)
not_among i (x ∷ l) =
    eq_cases x i
    (λ e s d.
    ap (λ (b : Bool). not (b || list_any (λ (y : ℕ). eqb y i) l)) (eq-eqb x i e)
    ∙ sym (ap (λ (n : ℕ). same (n + occ i l) 0) d ∙ same_no (1 + occ i l) 0 (λ q. absurd (omega arith))))
    (λ n s d.
    let z : occ i l ≡ δ x i + occ i l = omega (arith, d) in
    ap (λ (b : Bool). not (b || list_any (λ (y : ℕ). eqb y i) l)) (ne_eqb x i n)
    ∙ not_among i l
    ∙ ap (λ (n : ℕ). same n 0) z)

set_over : (l old : List ℕ) (i : ℕ) → length l < length old → set (over l old) (length l) i ≡ over (l ++ i ∷ []) old
set_over l [] i h = absurd (omega arith)
set_over [] (x ∷ old) i h = refl
set_over (y ∷ l) (x ∷ old) i h = ap (λ (t : List ℕ). y ∷ t) (set_over l old i (omega arith))

-- one more is kept as it is listed
one_kept : (l old : List ℕ) (i : ℕ) (z o : Bool) → length l < length old → length old ≡ 3
    → cond {A = Listed 3} (not z && o) (added (kept_as l old) i) (kept_as l old) ≡ kept_as (cond (z || not o) l (l ++ i ∷ [])) old
unfolding added
one_kept l old i true true h q = refl
one_kept l old i true false h q = refl
one_kept l old i false false h q = refl
one_kept l old i false true h q =
    let lt : ltb (length l) 3 ≡ true = lt-ltb (length l) 3 (omega arith) in
    rw lt (ap₂ {C = Listed 3} (λ (a : List ℕ) (n : ℕ). record { items = a; count = n }) (set_over l old i h) (sym (length-append l (i ∷ []))))

more_kept : (l old : List ℕ) (i : ℕ) (z : Bool) → length l < length old → length old ≡ 3
    → kept_more (kept_as l old) (not z) i ≡ kept_as (cond (z || not (same (occ i l) 0)) l (l ++ i ∷ [])) old
unfolding kept_more listed
more_kept l old i z h q =
    ap (λ (t : List ℕ). cond {A = Listed 3} (not z && same (occ i t) 0) (added (kept_as l old) i) (kept_as l old)) (take-append_seam l (drop (length l) old))
    ∙ one_kept l old i z (same (occ i l) 0) h q

at_most_one_longer : (l : List ℕ) (i : ℕ) (b : Bool) → length (cond b l (l ++ i ∷ [])) ≤ length l + 1
at_most_one_longer l i true = omega arith
at_most_one_longer l i false = let e = length-append l (i ∷ []) in omega arith

module _ (bits : ℕ → ℕ) where
  all_kept : (is l old : List ℕ) → length l + length is ≤ length old → length old ≡ 3 → kept_live bits (kept_as l old) is ≡ kept_as (bearing bits l is) old
  unfolding kept_live bearing
  all_kept [] l old h e = refl
  all_kept (i ∷ is) l old h e =
      let z = same (bits i) 0 in
      let b = z || not (same (occ i l) 0) in
      let q = at_most_one_longer l i b in
      ap (λ (k : Listed 3). kept_live bits k is) (more_kept l old i z (omega arith) e)
      ∙ all_kept is (cond b l (l ++ i ∷ [])) old (omega arith) e

  kept_join : (k : Listed 3) (a b : List ℕ) → kept_live bits k (a ++ b) ≡ kept_live bits (kept_live bits k a) b
  unfolding kept_live
  kept_join k [] b = refl
  kept_join k (i ∷ a) b = kept_join (kept_more k (not (same (bits i) 0)) i) a b

  pub three_kept : (k x y z : Listed 3) (a b c : List ℕ) → length k.items ≡ 3 → k.count ≡ 0 → length a ≤ 1 → length b ≤ 1 → length c ≤ 1
      → x ≡ kept_live bits k a → y ≡ kept_live bits x b → z ≡ kept_live bits y c → z ≡ kept_as (bearing bits [] (a ++ b ++ c)) k.items
  three_kept k x y z a b c h n qa qb qc e1 e2 e3 =
      let la = length-append a b in
      let lb = length-append (a ++ b) c in
      e3 ∙ ap (λ (t : Listed 3). kept_live bits t c) (e2 ∙ ap (λ (t : Listed 3). kept_live bits t b) e1 ∙ sym (kept_join k a b)) ∙ sym (kept_join k (a ++ b) c)
      ∙ ap (λ (m : ℕ). kept_live bits (record { items = k.items; count = m }) (a ++ b ++ c)) n
      ∙ all_kept (a ++ b ++ c) [] k.items (omega arith) h

-- a live id has one slot, any other none
pub at_most_one : (n : ℕ) (s : Slots) (m : Option NodeId) → length (live_slot n s m) ≤ 1
unfolding live_slot
at_most_one n s None = omega arith
at_most_one n s (Some d) = go (is_live n s d)
  where
    go : (b : Bool) → length (cond b (d.index ∷ []) []) ≤ 1
    go true = omega arith
    go false = omega arith
