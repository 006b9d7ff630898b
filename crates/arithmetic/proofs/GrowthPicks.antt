-- Units given by picking: after i picks of the first largest key, each marked by 0, the units lie at the places of rank below i.
-- One cond more goes to the place of rank i (proofs/GrowthRanks.antt), and no other rank is i. Assumes nothing.
use mathlib.Core.Path.{◌≡◌, refl, sym, ◌∙◌, ap}
use mathlib.Core.List.{List}
use Prim.Native.Nat.{ℕ, ◌+◌, ◌≤◌, ◌<◌}
use native.Mathlib.Decide.{dec_lt, ℕ_discrete}
use native.Mathlib.Omega.{arith}
use borrow.Author.Tests.{lt-ltb, le-ltb}
use lib.IntN.{ℤ, pos, ◌+ℤ◌, +ℤ_idr}
use lib.ListN.{get_or, length, set, length-set, take}
use lib.Seq.{get_or-set_same, get_or-set_other, get_or-take, length-take-le}
use Rattle.arithmetic.specs.Growth.{rank}
use Rattle.arithmetic.specs.Support.Steps.{FirstLargest, unit_at, with_unit}
use Rattle.arithmetic.proofs.GrowthRanks.{bit, bit_yes, bit_no, same_test_same_bit, ranks_differ, first_largest_has_rank}

-- The rank of a place by its key.
abbrev pub rank_of : List ℕ → ℕ → ℕ → ℕ
rank_of keys n k = rank (λ j. get_or keys j 0) n k

pub unit_below_count : (keys : List ℕ) (n s k : ℕ) → k < n → unit_at keys n s k ≡ bit (rank_of keys n k) s
unfolding unit_at
unit_below_count keys n s k h = simp (lt-ltb k n h)

pub no_unit_past_count : (keys : List ℕ) (n s k : ℕ) → n ≤ k → unit_at keys n s k ≡ 0
unfolding unit_at
no_unit_past_count keys n s k h = simp (le-ltb k n h)

-- The first of the largest among the front of the keys.
pub first_largest_of_front : (keys : List ℕ) (n b : ℕ) → n ≤ length keys → FirstLargest (take n keys) (length (take n keys)) b → FirstLargest keys n b
first_largest_of_front keys n b h f =
    let e : length (take n keys) ≡ n = length-take-le n keys h in
    let q : b < n = omega (arith, f.inside) in
    let at = get_or-take n keys b 0 q in
    record {
      inside = q;
      largest = λ k l. omega (arith, at, get_or-take n keys k 0 l, f.largest k (omega arith));
      first = λ k l. omega (arith, at, get_or-take n keys k 0 (omega arith), f.first k l);
    }

-- After i picks, with the shares so far and the keys that are left.
pub record Picked (n : ℕ) (shares : List ℤ) (keys : List ℕ) (out : List ℤ) (left : List ℕ) (i : ℕ) : Type 0 where
  pub out_full : length out ≡ 128
  pub left_full : length left ≡ 128
  pub units_given : (k : ℕ) → get_or out k (pos 0) ≡ with_unit shares keys n i k
  pub marked : (k : ℕ) → k < n → rank_of keys n k < i → get_or left k 0 ≡ 0
  pub kept : (k : ℕ) → k < n → i ≤ rank_of keys n k → get_or left k 0 ≡ get_or keys k 0

module _ (n : ℕ) (shares : List ℤ) (keys : List ℕ) where
  no_unit_at_first : (k : ℕ) → Dec (k < n) → unit_at keys n 0 k ≡ 0
  no_unit_at_first k (yes h) = unit_below_count keys n 0 k h ∙ bit_no (rank_of keys n k) 0 (omega arith)
  no_unit_at_first k (no h) = no_unit_past_count keys n 0 k (omega arith)

  pub picked_at_first : length shares ≡ 128 → length keys ≡ 128 → Picked n shares keys shares keys 0
  unfolding with_unit
  picked_at_first p q =
      record {
        out_full = p;
        left_full = q;
        units_given = λ k. sym (ap (λ (u : ℕ). get_or shares k (pos 0) +ℤ pos u) (no_unit_at_first k (dec_lt k n)) ∙ +ℤ_idr (get_or shares k (pos 0)));
        marked = λ k l h. absurd (omega arith);
        kept = λ k l h. refl;
      }

module _ (n : ℕ) (shares : List ℤ) (keys : List ℕ) (out : List ℤ) (left : List ℕ) (i b : ℕ) (v : Picked n shares keys out left i)
    (fits : n ≤ 128) (few : i < n) (some : (k : ℕ) → k < n → 0 < get_or keys k 0) (f : FirstLargest left n b) where
  pick_has_rank : rank_of keys n b ≡ i
  pick_has_rank =
      first_largest_has_rank (λ j. get_or keys j 0) n fits (λ j. get_or left j 0) i b few some v.marked v.kept f.inside f.largest f.first

  -- The place picked has had no unit before.
  pub pick_is_new : get_or out b (pos 0) ≡ get_or shares b (pos 0)
  unfolding with_unit
  pick_is_new =
      v.units_given b
      ∙ ap (λ (u : ℕ). get_or shares b (pos 0) +ℤ pos u) (unit_below_count keys n i b f.inside ∙ bit_no (rank_of keys n b) i (omega (arith, pick_has_rank)))
      ∙ +ℤ_idr (get_or shares b (pos 0))

  other_rank : (k : ℕ) → k < n → (k ≡ b → ⊥) → rank_of keys n k ≡ i → ⊥
  other_rank k l d e = ranks_differ (λ j. get_or keys j 0) n fits k b l f.inside d (e ∙ sym pick_has_rank)

  other_unit : (k : ℕ) → (k ≡ b → ⊥) → Dec (k < n) → unit_at keys n i k ≡ unit_at keys n (i + 1) k
  other_unit k d (yes l) =
      unit_below_count keys n i k l
      ∙ same_test_same_bit (rank_of keys n k) i (rank_of keys n k) (i + 1) (λ h. omega arith) (λ h. below h (ℕ_discrete (rank_of keys n k) i)) (dec_lt _ _)
      ∙ sym (unit_below_count keys n (i + 1) k l)
    where
      below : rank_of keys n k < i + 1 → Dec (rank_of keys n k ≡ i) → rank_of keys n k < i
      below h (yes e) = absurd (other_rank k l d e)
      below h (no e) = omega arith
  other_unit k d (no l) = no_unit_past_count keys n i k (omega arith) ∙ sym (no_unit_past_count keys n (i + 1) k (omega arith))

  module _ (x : ℤ) (is : x ≡ get_or shares b (pos 0) +ℤ pos 1) where
    given_by : (k : ℕ) → Dec (k ≡ b) → get_or (set out b x) k (pos 0) ≡ with_unit shares keys n (i + 1) k
    unfolding with_unit
    given_by k (yes e) =
        rw e
        (get_or-set_same out b x (pos 0) (omega (arith, v.out_full, f.inside)) ∙ is
        ∙ ap (λ (u : ℕ). get_or shares b (pos 0) +ℤ pos u) (sym (unit_below_count keys n (i + 1) b f.inside ∙ bit_yes (rank_of keys n b) (i + 1) (omega (arith, pick_has_rank)))))
    given_by k (no e) =
        get_or-set_other out b k x (pos 0) e ∙ v.units_given k
        ∙ ap (λ (u : ℕ). get_or shares k (pos 0) +ℤ pos u) (other_unit k e (dec_lt k n))

    marked_by : (k : ℕ) → k < n → rank_of keys n k < i + 1 → Dec (k ≡ b) → get_or (set left b 0) k 0 ≡ 0
    marked_by k l h (yes e) = rw e (get_or-set_same left b 0 0 (omega (arith, v.left_full, f.inside)))
    marked_by k l h (no e) = get_or-set_other left b k 0 0 e ∙ v.marked k l (below (ℕ_discrete (rank_of keys n k) i))
      where
        below : Dec (rank_of keys n k ≡ i) → rank_of keys n k < i
        below (yes r) = absurd (other_rank k l e r)
        below (no r) = omega arith

    kept_by : (k : ℕ) → k < n → i + 1 ≤ rank_of keys n k → Dec (k ≡ b) → get_or (set left b 0) k 0 ≡ get_or keys k 0
    kept_by k l h (yes e) = absurd (omega (arith, pick_has_rank, ap (rank_of keys n) e))
    kept_by k l h (no e) = get_or-set_other left b k 0 0 e ∙ v.kept k l (omega arith)

    pub picked_once_more : Picked n shares keys (set out b x) (set left b 0) (i + 1)
    picked_once_more =
        record {
          out_full = simp length-set v.out_full;
          left_full = simp length-set v.left_full;
          units_given = λ k. given_by k (ℕ_discrete k b);
          marked = λ k l h. marked_by k l h (ℕ_discrete k b);
          kept = λ k l h. kept_by k l h (ℕ_discrete k b);
        }
