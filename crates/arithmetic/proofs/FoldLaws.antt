-- Laws of the fold. Bytes are absorbed one after the other, so a run of them may be cut anywhere. Assumes nothing.
use mathlib.Core.Path.{◌≡◌, refl, sym, ap, ◌∙◌}
use mathlib.Core.List.{List, [], ◌∷◌, ◌++◌}
use Prim.Native.Nat.{ℕ, zero, suc, ◌+◌, ◌/◌, ◌%◌, ◌<◌, ◌^◌}
use native.Mathlib.Nat.{div-div-eq-div-mul, pow-suc}
use native.Mathlib.Omega.{arith}
use Rattle.std.specs.Int.{bytes_low_first}
use lib.ListN.{get_or, length, take}
use lib.Seq.{take-suc}
use native.Mathlib.Numerals.{add-one}
use Rattle.arithmetic.specs.declared.fold.StateHash.{StateHash}
use Rattle.arithmetic.specs.Fold.{fnv_byte, fold_bytes, low_bytes, absorbed}

folded_in_turn : (h : ℕ) (xs ys : List ℕ) → fold_bytes (fold_bytes h xs) ys ≡ fold_bytes h (xs ++ ys)
unfolding fold_bytes
folded_in_turn h [] ys = refl
folded_in_turn h (x ∷ xs) ys = folded_in_turn (fnv_byte h x) xs ys

-- Two runs of bytes, one after the other, are one run.
pub absorbed_in_turn : (h : StateHash) (xs ys : List ℕ) → absorbed (absorbed h xs) ys ≡ absorbed h (xs ++ ys)
unfolding absorbed
absorbed_in_turn h xs ys = ap (λ (s : ℕ). record { state = s }) (folded_in_turn h.state xs ys)

-- No bytes change nothing.
pub absorbed_none : (h : StateHash) → absorbed h [] ≡ h
unfolding absorbed fold_bytes
absorbed_none h = refl

-- One byte more of a run.
pub absorbed_more : (h : StateHash) (s : List ℕ) (i : ℕ) → i < length s → absorbed (absorbed h (take i s)) (get_or s i 0 ∷ []) ≡ absorbed h (take (i + 1) s)
absorbed_more h s i l = rw (add-one, take-suc s i 0 l) (absorbed_in_turn h (take i s) (get_or s i 0 ∷ []))

low_bytes_from : (i k x : ℕ) → bytes_low_first i k x ≡ low_bytes k (x / 256 ^ i)
unfolding low_bytes
low_bytes_from i zero x = refl
low_bytes_from zero (suc k) x = let e : x / 1 ≡ x = omega arith in rw e (ap (λ (s : List ℕ). (x % 256) ∷ s) (low_bytes_from 1 k x))
low_bytes_from (suc i) (suc k) x =
    ap (λ (s : List ℕ). (x / 256 ^ suc i % 256) ∷ s) (low_bytes_from (suc (suc i)) k x ∙ ap (low_bytes k) (ap (λ (p : ℕ). x / p) (pow-suc 256 (suc i)) ∙ sym (div-div-eq-div-mul x (256 ^ suc i) 256)))

-- The library's bytes of a number, lowest first.
pub le_bytes_are_low_bytes : (k x : ℕ) → bytes_low_first 0 k x ≡ low_bytes k x
le_bytes_are_low_bytes k x = low_bytes_from 0 k x ∙ ap (low_bytes k) (omega arith)
