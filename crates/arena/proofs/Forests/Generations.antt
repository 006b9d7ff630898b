-- A slot's epoch is its generation, and one more while it is live. An insertion keeps every generation and makes one slot live, so it
-- raises that slot's epoch by 1; a removal ages each slot that dies, so it keeps every epoch. Assumes nothing.
use Rattle.std.proofs.Common.{◌≡◌, ℕ, suc, ◌+◌, ◌<◌, ◌≤◌, ◌≢◌, List, arith}
use Rattle.arithmetic.specs.Tests.{δ}
use Rattle.arena.specs.Forest.{Forest, nil, node, app}
use Rattle.arena.specs.Slots.{NIL, Slots, at, put, used, link_last, unlink, free_order, freed}
use Rattle.arithmetic.proofs.TestLaws.{δ-refl}
use Rattle.arena.proofs.Forests.ForestLaws.{cnt, kids, set_kids, cut}
use Rattle.arena.proofs.Forests.Relations.{Rel, once}
use Rattle.arena.proofs.Forests.LinkInserts.{insert_keeps_generations, insert_count}
use Rattle.arena.proofs.Forests.LinkRemovals.{remove_rel}

module _ {X : Type 0} where
  pub insert_epochs : (s : Slots) (p i g : ℕ) (x : X) (t : Forest X) (j : ℕ) → cnt p t ≡ 1
      → (at (link_last (put s i (used (at s i).generation p NIL NIL NIL NIL)) p i) j).generation + cnt j (set_kids p (app (kids p t) (node i g x nil nil)) t)
      ≡ (at s j).generation + cnt j t + δ i j
  insert_epochs s p i g x t j c = let h = insert_keeps_generations s p i j in let k = insert_count j p i g x t c in omega arith

  -- no epoch falls
  pub insert_epochs_never_fall : (s : Slots) (p i g : ℕ) (x : X) (t : Forest X) (j : ℕ) → cnt p t ≡ 1
      → (at s j).generation + cnt j t
      ≤ (at (link_last (put s i (used (at s i).generation p NIL NIL NIL NIL)) p i) j).generation + cnt j (set_kids p (app (kids p t) (node i g x nil nil)) t)
  insert_epochs_never_fall s p i g x t j c = let h = insert_epochs s p i g x t j c in omega arith

  -- the slot taken
  pub insert_raises_one_epoch : (s : Slots) (p i g : ℕ) (x : X) (t : Forest X) → cnt p t ≡ 1
      → (at (link_last (put s i (used (at s i).generation p NIL NIL NIL NIL)) p i) i).generation + cnt i (set_kids p (app (kids p t) (node i g x nil nil)) t)
      ≡ suc ((at s i).generation + cnt i t)
  insert_raises_one_epoch s p i g x t c = let h = insert_epochs s p i g x t i c in let d = δ-refl i in omega arith

  module _ {n : ℕ} {s : Slots} {free : ℕ} {t : Forest X} {fl : List ℕ} (r : Rel n s free t fl) (i : ℕ) (c : cnt i t ≡ 1) (z : i ≢ 0) where
    pub remove_keeps_epochs : (j : ℕ) → (at s j).generation < 18446744073709551615
        → (at (freed (unlink s i) free (free_order 128 (unlink s i) i)) j).generation + cnt j (cut i t) ≡ (at s j).generation + cnt j t
    remove_keeps_epochs j m =
        let R = remove_rel n s free t fl i r c z in
        let h = R.generations j m in let k = R.order_counts j in omega arith

    -- no generation falls, and none rises by more than 1
    pub remove_generations : (j : ℕ) → (at s j).generation < 18446744073709551615
        → ((at s j).generation ≤ (at (freed (unlink s i) free (free_order 128 (unlink s i) i)) j).generation)
        × ((at (freed (unlink s i) free (free_order 128 (unlink s i) i)) j).generation ≤ suc (at s j).generation)
    remove_generations j m =
        let R = remove_rel n s free t fl i r c z in
        let h = R.generations j m in let k = R.order_counts j in let o = once r j in (omega arith, omega arith)

    pub remove_generation_bound : (m : ℕ) → m < 18446744073709551615 → ((j : ℕ) → (at s j).generation ≤ m)
        → (j : ℕ) → (at (freed (unlink s i) free (free_order 128 (unlink s i) i)) j).generation ≤ suc m
    remove_generation_bound m h b j = let q = b j in let w = remove_generations j (omega arith) in let w1 = w.1 in omega arith
