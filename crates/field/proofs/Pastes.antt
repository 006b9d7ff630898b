-- Bytes moved by the code's loops, as lists written over the front of the old bytes. Assumes nothing.
use Rattle.arithmetic.proofs.LoopLaws.{drop_taken}
use mathlib.Core.Path.{◌≡◌, sym, ap, ap₂, ◌∙◌}
use mathlib.Core.List.{List, ◌++◌, append_assoc}
use Prim.Native.Nat.{ℕ, ◌+◌, ◌-◌, ◌≤◌}
use native.Mathlib.Omega.{arith}
use lib.ListN.{length, take, drop, length-append, length-drop}
use lib.Seq.{length-take-le, take-take, drop_at, paste, take-append-le}
use Rattle.arithmetic.specs.Tests.{over}

-- the bytes from `from` to `to` taken out
pub cut : (d : List ℕ) (from to len : ℕ) → from ≤ to → to ≤ len → len ≤ length d
    → paste d from (drop to d) (len - to) ≡ over (take from d ++ drop to (take len d)) d
cut d from to len h k l =
    let t : drop to (take len d) ≡ take (len - to) (drop to d) = drop_taken to len d in
    let n : length (take from d ++ drop to (take len d)) ≡ from + (len - to) =
    omega (arith, length-append (take from d) (drop to (take len d)), length-take-le from d (omega arith), length-drop to (take len d), length-take-le len d l) in
    ap₂ (λ (x : List ℕ) (m : ℕ). take from d ++ x ++ drop m d) (sym t) (sym n)

-- room made, and bytes put there
pub put_in_lem : (d e : List ℕ) (at len m : ℕ) → at ≤ len → len + m ≤ length d → m ≤ length e
    → paste (paste d (at + m) (drop at d) (len - at)) at e m ≡ over ((take at d ++ take m e) ++ drop at (take len d)) d
put_in_lem d e at len m h k l =
    let t : drop at (take len d) ≡ take (len - at) (drop at d) = drop_taken at len d in
    let x : List ℕ = take (at + m) d in
    let q : List ℕ = take (len - at) (drop at d) in
    let r : List ℕ = drop (at + m + (len - at)) d in
    let n : length ((take at d ++ take m e) ++ drop at (take len d)) ≡ at + m + (len - at) =
    omega (
      arith,
      length-append (take at d ++ take m e) (drop at (take len d)),
      length-append (take at d) (take m e),
      length-take-le at d (omega arith),
      length-take-le m e l,
      length-drop at (take len d),
      length-take-le len d (omega arith),
    ) in
    let e1 : take at ((x ++ q) ++ r) ≡ take at d =
    ap (take at) (append_assoc x q r) ∙ take-append-le at x (q ++ r) (omega (arith, length-take-le (at + m) d (omega arith)))
    ∙ take-take at (at + m) d (omega arith) in
    let e2 : drop (at + m) ((x ++ q) ++ r) ≡ q ++ r =
    ap (drop (at + m)) (append_assoc x q r) ∙ drop_at x (q ++ r) (at + m) (length-take-le (at + m) d (omega arith)) in
    ap₂ (λ (a b : List ℕ). (a ++ take m e) ++ b) e1 e2
    ∙ sym (append_assoc (take at d ++ take m e) q r)
    ∙ ap₂ (λ (a : List ℕ) (i : ℕ). ((take at d ++ take m e) ++ a) ++ drop i d) (sym t) (sym n)
