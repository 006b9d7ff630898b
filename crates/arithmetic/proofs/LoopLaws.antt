-- Loops over arrays, a turn at a time: what is left to do from here gives the whole. Assumes nothing.
use Prim.Native.Nat.{ℕ, zero, suc, ◌+◌, ◌<◌, ◌≤◌, ◌-◌}
use mathlib.Core.Path.{◌≡◌, refl, ap, ◌∙◌, sym}
use mathlib.Core.List.{List, [], ◌∷◌, ◌++◌, map, map-append, append_assoc, append-nil}
use lib.ListN.{length, get_or, set, take, drop, length-map, replicate}
use lib.Seq.{drop-cons, take-suc, set_at, get_or_at, length-take-le, take-length, drop-length, take-nil}
use native.Mathlib.Numerals.{add-one}
use native.Mathlib.Omega.{arith}

-- a list of one thing reads as it everywhere
pub read_alike : {A : Type 0} (n k : ℕ) (d : A) → get_or (replicate n d) k d ≡ d
read_alike zero k d = refl
read_alike (suc n) zero d = refl
read_alike (suc n) (suc k) d = read_alike n k d

-- the front of a list without its own front
pub drop_taken : (m n : ℕ) (l : List ℕ) → drop m (take n l) ≡ take (n - m) (drop m l)
drop_taken zero n l = let e : n - 0 ≡ n = omega arith in ap (λ (k : ℕ). take k l) (sym e)
drop_taken (suc m) zero l = let e : 0 - suc m ≡ 0 = omega arith in ap (λ (k : ℕ). take k (drop (suc m) l)) (sym e)
drop_taken (suc m) (suc n) [] = sym (take-nil (suc n - suc m))
drop_taken (suc m) (suc n) (x ∷ l) =
    let e : n - m ≡ suc n - suc m = omega arith in drop_taken m n l ∙ ap (λ (k : ℕ). take k (drop m l)) e

-- f of each element put in its place, from the front
module _ {A : Type 0} (f : A → A) (l : List A) where
  unfoldable pub map_to : ℕ → List A
  map_to i = map f (take i l) ++ drop i l

  front : (i : ℕ) → i ≤ length l → length (map f (take i l)) ≡ i
  front i h = length-map (take i l) f ∙ length-take-le i l h

  pub each_none : l ≡ map_to 0
  unfolding map_to
  each_none = refl

  each_at : (i : ℕ) (d : A) → i < length l → get_or (map_to i) i d ≡ get_or l i d
  unfolding map_to
  each_at i d h = rw (drop-cons l i d) (get_or_at (map f (take i l)) (get_or l i d) (drop (suc i) l) d i (front i (omega arith)))

  each_next : (i : ℕ) (d : A) → i < length l → set (map_to i) i (f (get_or l i d)) ≡ map_to (i + 1)
  unfolding map_to
  each_next i d h =
      rw (drop-cons l i d, set_at (map f (take i l)) (get_or l i d) (drop (suc i) l) (f (get_or l i d)) i (front i (omega arith)), add-one, take-suc l i d, map-append, append_assoc)

  each_all : map_to (length l) ≡ map f l
  unfolding map_to
  each_all = rw (take-length, drop-length, append-nil)

  pub each_turn : (d : A) {out : List A} {i : ℕ} {r : A} → i < length l → out ≡ map_to i → r ≡ f (get_or out i d) → set out i r ≡ map_to (i + 1)
  each_turn d {out} {i} {r} h e q = rw (q, e, each_at i d h) (each_next i d h)

  pub each_done : {out : List A} {i : ℕ} → i ≡ length l → out ≡ map_to i → out ≡ map f l
  each_done h e = e ∙ ap map_to h ∙ each_all
