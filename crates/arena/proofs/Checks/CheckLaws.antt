-- Checks over a list by its index: what is left to check from here gives the whole. Assumes nothing.
use Rattle.std.proofs.Common.{◌≡◌, ℕ, zero, suc, min, sym, ◌+◌, ◌<◌, ◌≤◌, Bool, ◌&&◌, eqb, List, [], ◌∷◌, length, get_or, take, refl, ap, ◌∙◌, arith}
use Rattle.std.specs.Prelude.{zip}
use Rattle.std.proofs.lemmas.Slice.Zip.{get_or-zip, length-zip}
use Rattle.std.proofs.lemmas.List.{take_min}
use Rattle.std.proofs.lemmas.List.Folds.{list_all_more}
use mathlib.Core.Bool.{and_assoc}
use Rattle.arithmetic.specs.Tests.{same, head_or, from_to, all}
use Rattle.arena.specs.Slots.{NIL, Slots, no_slot, at, chain, order}
use Rattle.arena.specs.declared.Slot.{Slot}
use Rattle.arena.specs.Rules.{once, node_well, free_well, each_once, root_well, linked}
use Rattle.arena.specs.Support.Lists.{once_by, Tallied}

-- ---- a test of every number below a limit, read off three lists beside each other
module _ (q : Slot → ℕ → ℕ → Bool) (p : ℕ → Bool) where
  side_by_side : (n i : ℕ) (s : Slots) (a b : List ℕ) → n ≤ length s → n ≤ length a → n ≤ length b
      → ((k : ℕ) → k < n → q (get_or s k no_slot) (get_or a k 0) (get_or b k 0) ≡ p (i + k))
      → all (λ x. q x.0 x.1.0 x.1.1) (take n (zip s (zip a b))) ≡ all p (from_to i n)
  side_by_side zero i s a b h j k e = refl
  side_by_side (suc n) i [] a b h j k e = absurd (omega arith)
  side_by_side (suc n) i (x ∷ s) [] b h j k e = absurd (omega arith)
  side_by_side (suc n) i (x ∷ s) (y ∷ a) [] h j k e = absurd (omega arith)
  side_by_side (suc n) i (x ∷ s) (y ∷ a) (z ∷ b) h j k e =
      let c : i + 0 ≡ i = omega arith in
      let d : q x y z ≡ p i = e 0 (omega arith) ∙ ap p c in
      rw (d, side_by_side n (suc i) s a b (omega arith) (omega arith) (omega arith) (λ m o. let v : i + suc m ≡ suc i + m = omega arith in e (suc m) (omega arith) ∙ ap p v))

-- the test of every slot, by how often it is in each list
pub each_counted : (n : ℕ) (s : Slots) (r f a b : List ℕ) → length s ≡ 128 → length a ≡ 128 → length b ≡ 128 → n ≤ 128 → Tallied a r → Tallied b f
    → all (λ x. once_by x.0 x.1.0 x.1.1) (take n (zip s (zip a b))) ≡ all (once s r f) (from_to 0 n)
unfolding at
each_counted n s r f a b h j k m p q =
    side_by_side once_by (once s r f) n 0 s a b (omega arith) (omega arith) (omega arith)
    (λ i l. let u : i < 128 = omega arith in let v : 0 + i ≡ i = omega arith in rw (v, p i u, q i u))

-- ---- the same test in a loop, slot after slot
abbrev tested : Slot × (ℕ × ℕ) → Bool
tested x = once_by x.0 x.1.0 x.1.1

module _ (s : Slots) (a b : List ℕ) (h : length s ≡ 128) (j : length a ≡ 128) (m : length b ≡ 128) where
  as_long : length (zip s (zip a b)) ≡ 128
  as_long = omega (arith, length-zip s (zip a b), length-zip a b, h, j, m)

  pub one_more_tested : (k : ℕ) {w e : Bool} → k < 128 → e ≡ once_by (get_or s k no_slot) (get_or a k 0) (get_or b k 0)
      → w ≡ all (λ x. once_by x.0 x.1.0 x.1.1) (take k (zip s (zip a b))) → (w && e) ≡ all (λ x. once_by x.0 x.1.0 x.1.1) (take (k + 1) (zip s (zip a b)))
  one_more_tested k {w} {e} n f g =
      let there = get_or-zip s (zip a b) k (no_slot, (0, 0)) (omega (arith, h)) (omega (arith, length-zip a b, j, m)) in
      let counts = get_or-zip a b k (0, 0) (omega (arith, j)) (omega (arith, m)) in
      rw (g, f) (sym (list_all_more tested (zip s (zip a b)) k (no_slot, (0, 0)) (omega (arith, as_long))
      ∙ ap (λ x. all tested (take k (zip s (zip a b))) && tested x) (there ∙ ap (λ (y : ℕ × ℕ). (get_or s k no_slot, y)) counts)))

  pub all_tested : (n k : ℕ) → k ≡ min n 128 → take k (zip s (zip a b)) ≡ take n (zip s (zip a b))
  all_tested n k e = ap (λ (i : ℕ). take i (zip s (zip a b))) (e ∙ ap (min n) (sym as_long)) ∙ take_min n (zip s (zip a b))

-- ---- all link rules
pub links_whole : (n : ℕ) (s : Slots) (head live : ℕ) {r f : List ℕ} {root each nodes chained : Bool} {c : ℕ}
    → r ≡ order 128 s (0 ∷ []) → f ≡ chain 128 s head
    → root ≡ root_well s
    → each ≡ each_once n s r f → nodes ≡ all (node_well s) (order 128 s (0 ∷ []))
    → chained ≡ (same head (head_or NIL (chain 128 s head)) && free_well s (chain 128 s head)) → c ≡ length r
    → (root && (each && (nodes && (chained && eqb live c)))) ≡ linked n s head live
unfolding linked same
links_whole n s head live r e root each nodes chained c =
    let l = order 128 s (0 ∷ []) in
    let m = chain 128 s head in
    rw (root, each, nodes, chained, c, r, e)
    (ap (λ (b : Bool). root_well s && (each_once n s l m && (all (node_well s) l && b)))
    (and_assoc (eqb head (head_or NIL m)) (free_well s m) (eqb live (length l))))
