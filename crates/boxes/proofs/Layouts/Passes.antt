-- The passes over an order, a slot at a time. Assumes nothing.
use mathlib.Core.Path.{◌≡◌, refl, sym, ap, ◌∙◌, subst}
use mathlib.Core.List.{List, [], ◌∷◌, ◌++◌}
use Prim.Native.Nat.{ℕ, suc, ◌+◌, ◌≤◌, ◌<◌}
use native.Mathlib.Omega.{arith}
use native.Mathlib.Decide.{dec_lt}
use lib.ListN.{length, get_or, take, length-take, drop, drop_of_length-le, get_or-append, get_or-eq_default}
use lib.Seq.{drop-cons, get_or-take}
use Rattle.arena.specs.Slots.{Slots}
use Rattle.arena.specs.Support.Lists.{Small, listed}
use Rattle.arena.specs.declared.listed.Listed.{Listed}
use Rattle.boxes.specs.Layout.{measure_at, measure_all, arrange_at, arrange_all}
use Rattle.boxes.specs.declared.LayoutSlot.{LayoutSlot}

-- ---- from the last to the first

pub measured_last : (s : Slots) (l : List LayoutSlot) (is : List ℕ) (i : ℕ) → measure_all s l (is ++ i ∷ []) ≡ measure_all s (measure_at s l i) is
unfolding measure_all
measured_last s l [] i = refl
measured_last s l (k ∷ is) i = ap (λ (m : List LayoutSlot). measure_at s m k) (measured_last s l is i)

pub measured_none : (s : Slots) (l : List LayoutSlot) (is : List ℕ) → length is ≡ 0 → l ≡ measure_all s l is
unfolding measure_all
measured_none s l [] e = refl
measured_none s l (i ∷ is) e = absurd (omega arith)

-- slots before the last one are slots
pub small_front : (is : List ℕ) (i : ℕ) → Small (is ++ i ∷ []) → Small is
small_front is i h k = go (dec_lt k (length is))
  where
    go : Dec (k < length is) → get_or is k 0 < 128
    go (yes q) = subst (λ (n : ℕ). n < 128) (get_or-append is (i ∷ []) 0 k q) (h k)
    go (no q) = let e : get_or is k 0 ≡ 0 = get_or-eq_default is 0 (let z : length is ≤ k = omega arith in z) in omega (arith, e)

-- so are those of the front of an array of slots
pub small_listed : {n : ℕ} (o : Listed n) → Small o.items → Small (listed o)
unfolding listed
small_listed o h k = go (dec_lt k o.count)
  where
    go : Dec (k < o.count) → get_or (take o.count o.items) k 0 < 128
    go (yes q) = subst (λ (m : ℕ). m < 128) (sym (get_or-take o.count o.items k 0 q)) (h k)
    go (no q) = let e : get_or (take o.count o.items) k 0 ≡ 0 = get_or-eq_default (take o.count o.items) 0 (let z = length-take o.count o.items in omega arith) in omega (arith, e)

-- ---- from the first to the last

pub arranged_none : (s : Slots) (l : List LayoutSlot) (j : ℕ) (ids : List ℕ) → length ids ≤ j → l ≡ arrange_all s l (drop j ids)
unfolding arrange_all
arranged_none s l j ids h = rw (drop_of_length-le ids h)

pub arranged_more : (s : Slots) (l : List LayoutSlot) (j : ℕ) (ids : List ℕ) → j < length ids → arrange_all s (arrange_at s l (get_or ids j 0)) (drop (j + 1) ids) ≡ arrange_all s l (drop j ids)
unfolding arrange_all
arranged_more s l j ids h =
    let next : j + 1 ≡ suc j = omega arith in
    ap (λ (k : ℕ). arrange_all s (arrange_at s l (get_or ids j 0)) (drop k ids)) next ∙ sym (ap (arrange_all s l) (drop-cons ids j 0 h))
