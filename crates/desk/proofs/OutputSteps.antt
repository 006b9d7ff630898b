-- The waiting outputs in their array: one more behind them, and the oldest gone. Assumes nothing.
use Prim.Native.Nat.{ℕ, zero, suc, ◌+◌, ◌-◌, ◌<◌, ◌≤◌}
use mathlib.Core.Path.{◌≡◌, refl, sym, ap, ◌∙◌}
use mathlib.Core.List.{List, [], ◌∷◌, ◌++◌, append_assoc}
use native.Mathlib.Numerals.{add-one}
use native.Mathlib.Omega.{arith}
use lib.ListN.{length, get_or, set, take, drop, length-append}
use lib.Seq.{set_split, length-take-le}
use Rattle.std.specs.List.{copy_within}
use Rattle.field.specs.declared.NodeId.{NodeId}
use Rattle.arithmetic.specs.Tests.{over}

-- ---- one more
pub one_more_waits : (l : List NodeId) (k : ℕ) → k ≤ length l → (d : NodeId) → length (take k l ++ d ∷ []) ≡ k + 1
one_more_waits l k h d = length-append (take k l) (d ∷ []) ∙ ap (λ (n : ℕ). n + 1) (length-take-le k l h)

pub queued_last : (l : List NodeId) (k : ℕ) (d : NodeId) → k < length l → set l k d ≡ over (take k l ++ d ∷ []) l
queued_last l k d h =
    set_split l k d h
    ∙ sym (append_assoc (take k l) (d ∷ []) (drop (suc k) l))
    ∙ ap (λ (n : ℕ). (take k l ++ d ∷ []) ++ drop n l) (sym (one_more_waits l k (omega arith) d ∙ add-one k))

-- ---- one less
pub moved_up : (ids : List NodeId) (count : ℕ) → 1 ≤ count → count ≤ length ids
    → (copy_within ids 1 count 0 ≡ over (drop 1 (take count ids)) ids) × (length (drop 1 (take count ids)) ≡ count - 1)
moved_up [] count h k = absurd (omega arith)
moved_up (x ∷ xs) zero h k = absurd (omega arith)
moved_up (x ∷ xs) (suc n) h k =
    let e : length (take n xs) ≡ n = length-take-le n xs (omega arith) in
    let m : suc n - 1 ≡ n = omega arith in
    (let z : 0 + n ≡ n = omega arith in rw (e, m, z), rw m e)

-- the oldest, where one waits
pub the_front : (ids : List NodeId) (count : ℕ) (e : NodeId) → 1 ≤ count → 1 ≤ length ids → take count ids ≡ get_or ids 0 e ∷ drop 1 (take count ids)
the_front ids zero e h k = absurd (omega arith)
the_front [] (suc n) e h k = absurd (omega arith)
the_front (x ∷ xs) (suc n) e h k = refl
