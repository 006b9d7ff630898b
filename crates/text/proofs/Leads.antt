-- What a first byte asks for, by the lines of the grammar of RFC 3629, section 4, and that `lead_of` says so. Assumes nothing.
use mathlib.Core.Path.{◌≡◌}
use mathlib.Core.Bool.{false}
use Prim.Native.Nat.{ℕ, ◌%◌, ◌≤◌, ◌<◌}
use native.Mathlib.Omega.{arith}
use borrow.Author.Tests.{leb-true, leb-false, eqb-true, eqb-false}
use Rattle.arithmetic.specs.Tests.{within}
use Rattle.text.specs.Reader.{place, lost, lead_of}
use Rattle.text.specs.declared.utf8.Place.{Place}
use Rattle.arithmetic.proofs.BoolLaws.{pick_of, within_low, within_high, within_no}

pub data Lead (b : ℕ) : Place → Type 0 where
  one : b ≤ 0x7F → Lead b (place 0 0 0 b)
  two : 0xC2 ≤ b → b ≤ 0xDF → Lead b (place 1 0x80 0xBF (b % 32))
  three_e0 : b ≡ 0xE0 → Lead b (place 2 0xA0 0xBF (b % 16))
  three_e1 : 0xE1 ≤ b → b ≤ 0xEC → Lead b (place 2 0x80 0xBF (b % 16))
  three_ed : b ≡ 0xED → Lead b (place 2 0x80 0x9F (b % 16))
  three_ee : 0xEE ≤ b → b ≤ 0xEF → Lead b (place 2 0x80 0xBF (b % 16))
  four_f0 : b ≡ 0xF0 → Lead b (place 3 0x90 0xBF (b % 8))
  four_f1 : 0xF1 ≤ b → b ≤ 0xF3 → Lead b (place 3 0x80 0xBF (b % 8))
  four_f4 : b ≡ 0xF4 → Lead b (place 3 0x80 0x8F (b % 8))
  none : 0x7F < b → (0xC2 ≤ b → 0xF4 < b) → Lead b lost

outside : (b : ℕ) → within 0xC2 0xDF b ≡ false → (b ≡ 0xE0 → ⊥) → within 0xE1 0xEC b ≡ false → (b ≡ 0xED → ⊥) → within 0xEE 0xEF b ≡ false
    → (b ≡ 0xF0 → ⊥) → within 0xF1 0xF3 b ≡ false → (b ≡ 0xF4 → ⊥) → 0xC2 ≤ b → 0xF4 < b
outside b e2 n3 e4 n5 e6 n7 e8 n9 h =
    let h2 : 0xDF < b = within_no 0xC2 0xDF b e2 h in
    let h4 : 0xEC < b = within_no 0xE1 0xEC b e4 (omega arith) in
    let h6 : 0xEF < b = within_no 0xEE 0xEF b e6 (omega arith) in
    let h8 : 0xF3 < b = within_no 0xF1 0xF3 b e8 (omega arith) in
    omega arith

pub lead_case : (b : ℕ) → Lead b (lead_of b)
unfolding lead_of
lead_case b =
    pick_of (Lead b) _ (λ e. one (leb-true b 0x7F e))
    (λ e1. pick_of (Lead b) _ (λ e. two (within_low _ _ b e) (within_high _ _ b e))
    (λ e2. pick_of (Lead b) _ (λ e. three_e0 (eqb-true b _ e))
    (λ e3. pick_of (Lead b) _ (λ e. three_e1 (within_low _ _ b e) (within_high _ _ b e))
    (λ e4. pick_of (Lead b) _ (λ e. three_ed (eqb-true b _ e))
    (λ e5. pick_of (Lead b) _ (λ e. three_ee (within_low _ _ b e) (within_high _ _ b e))
    (λ e6. pick_of (Lead b) _ (λ e. four_f0 (eqb-true b _ e))
    (λ e7. pick_of (Lead b) _ (λ e. four_f1 (within_low _ _ b e) (within_high _ _ b e))
    (λ e8. pick_of (Lead b) _ (λ e. four_f4 (eqb-true b _ e))
    (λ e9. none (leb-false b 0x7F e1) (outside b e2 (eqb-false b 0xE0 e3) e4 (eqb-false b 0xED e5) e6 (eqb-false b 0xF0 e7) e8 (eqb-false b 0xF4 e9)))))))))))
