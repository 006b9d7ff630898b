-- What `encode` gives: no bytes, or a character's one to four. Assumes nothing.
use mathlib.Core.Path.{◌≡◌, refl, ap, ap₂, ◌∙◌}
use mathlib.Core.Bool.{Bool, true, false}
use mathlib.Core.List.{List, [], ◌∷◌, ◌++◌}
use Prim.Native.Nat.{ℕ, ◌+◌, ◌≤◌, ◌<◌}
use native.Mathlib.Omega.{arith}
use lib.ListN.{length, take, length-append}
use lib.Seq.{take-take, take-append_seam, length-take-le}
use Rattle.text.specs.Utf8.{is_scalar, encoded, encoded_as, padded}
use Rattle.text.specs.declared.utf8.Encoded.{Encoded}
use Rattle.text.proofs.Shapes.{shape}

pub data Bytes (c : ℕ) (e : Encoded) : Type 0 where
  nothing : is_scalar c ≡ false → e.len ≡ 0 → Bytes c e
  some : is_scalar c ≡ true → e.len ≡ length (encoded c) → take e.len e.bytes ≡ encoded c → 0 < e.len → e.len ≤ 4 → length e.bytes ≡ 4 → Bytes c e

pub encoded_bytes : (c : ℕ) (e : Encoded) → e ≡ encoded_as c → Bytes c e
unfolding encoded_as
encoded_bytes c e h = go (is_scalar c) refl
  where
    go : (t : Bool) → is_scalar c ≡ t → Bytes c e
    go false k = let q : e ≡ padded [] = h ∙ rw k in nothing k (ap (λ (x : Encoded). x.len) q)
    go true k =
        let q : e ≡ padded (encoded c) = h ∙ rw k in
        let p = shape c k in
        let l : length (encoded c) ≡ 1 + length p.rest = ap length p.parts ∙ omega arith in
        let n : e.len ≡ length (encoded c) = ap (λ (x : Encoded). x.len) q in
        let z : List ℕ = 0 ∷ 0 ∷ 0 ∷ 0 ∷ [] in
        let w : take (length (encoded c)) (take 4 (encoded c ++ z)) ≡ encoded c =
        take-take (length (encoded c)) 4 (encoded c ++ z) (omega (arith, p.few)) ∙ take-append_seam (encoded c) z in
        some k n (ap₂ take n (ap (λ (x : Encoded). x.bytes) q) ∙ w) (omega arith) (omega (arith, p.few))
        (ap (λ (x : Encoded). length x.bytes) q ∙ length-take-le 4 (encoded c ++ z) (omega (arith, length-append (encoded c) z)))

pub at_most_four_bytes : (c : ℕ) (e : Encoded) → Bytes c e → e.len ≤ 4
at_most_four_bytes c e (nothing k z) = omega arith
at_most_four_bytes c e (some k a t l m b) = m
