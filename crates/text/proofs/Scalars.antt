-- A character's bytes by its size. Assumes nothing.
use mathlib.Core.Path.{◌≡◌, refl}
use mathlib.Core.Bool.{Bool, true, false}
use mathlib.Core.Logic.{⊎_elim}
use mathlib.Core.List.{[], ◌∷◌}
use Prim.Native.Nat.{ℕ, ◌+◌, ◌/◌, ◌%◌, ◌≤◌, ◌<◌}
use native.Mathlib.Omega.{arith}
use borrow.Author.Tests.{leb-true, leb-false, le-leb, lt-leb}
use lib.Dec.{leb}
use Rattle.arithmetic.specs.Tests.{within}
use Rattle.text.specs.Utf8.{is_scalar, encoded}
use Rattle.arithmetic.proofs.BoolLaws.{within_low, within_high, within_yes, or_cases}

pub scalar_top : (c : ℕ) → is_scalar c ≡ true → c ≤ 0x10FFFF
unfolding is_scalar
scalar_top c e =
    ⊎_elim (λ h. omega (arith, leb-true c 0xD7FF h)) (λ h. within_high 0xE000 0x10FFFF c h)
    (or_cases (leb c 0xD7FF) (within 0xE000 0x10FFFF c) e)

pub scalar_gap : (c : ℕ) → is_scalar c ≡ true → 0xD800 ≤ c → 0xE000 ≤ c
unfolding is_scalar
scalar_gap c e k =
    ⊎_elim (λ h. absurd (omega (arith, leb-true c 0xD7FF h))) (λ h. within_low 0xE000 0x10FFFF c h)
    (or_cases (leb c 0xD7FF) (within 0xE000 0x10FFFF c) e)

pub scalar_low : (c : ℕ) → c ≤ 0xD7FF → is_scalar c ≡ true
unfolding is_scalar
scalar_low c h = rw (le-leb c 0xD7FF h)

pub scalar_high : (c : ℕ) → 0xE000 ≤ c → c ≤ 0x10FFFF → is_scalar c ≡ true
unfolding is_scalar
scalar_high c h k = rw (lt-leb c 0xD7FF (omega arith), within_yes 0xE000 0x10FFFF c h k)

module _ (c : ℕ) where
  pub encoded_one : c ≤ 0x7F → encoded c ≡ c ∷ []
  unfolding encoded
  encoded_one h = rw (le-leb c 0x7F h)

  pub encoded_two : 0x7F < c → c ≤ 0x7FF → encoded c ≡ (0xC0 + c / 64) ∷ (0x80 + c % 64) ∷ []
  unfolding encoded
  encoded_two l h = rw (lt-leb c 0x7F l, le-leb c 0x7FF h)

  pub encoded_three : 0x7FF < c → c ≤ 0xFFFF → encoded c ≡ (0xE0 + c / 4096) ∷ (0x80 + c / 64 % 64) ∷ (0x80 + c % 64) ∷ []
  unfolding encoded
  encoded_three l h = rw (lt-leb c 0x7F (omega arith), lt-leb c 0x7FF l, le-leb c 0xFFFF h)

  pub encoded_four : 0xFFFF < c → encoded c ≡ (0xF0 + c / 262144) ∷ (0x80 + c / 4096 % 64) ∷ (0x80 + c / 64 % 64) ∷ (0x80 + c % 64) ∷ []
  unfolding encoded
  encoded_four l = rw (lt-leb c 0x7F (omega arith), lt-leb c 0x7FF (omega arith), lt-leb c 0xFFFF l)

-- how many bytes a code takes
pub data Size (c : ℕ) : Type 0 where
  of_one : c ≤ 0x7F → Size c
  of_two : 0x7F < c → c ≤ 0x7FF → Size c
  of_three : 0x7FF < c → c ≤ 0xFFFF → Size c
  of_four : 0xFFFF < c → Size c

pub size_of : (c : ℕ) → Size c
size_of c = go (leb c 0x7F) (leb c 0x7FF) (leb c 0xFFFF) refl refl refl
  where
    go : (t u v : Bool) → leb c 0x7F ≡ t → leb c 0x7FF ≡ u → leb c 0xFFFF ≡ v → Size c
    go true u v et eu ev = of_one (leb-true c 0x7F et)
    go false true v et eu ev = of_two (leb-false c 0x7F et) (leb-true c 0x7FF eu)
    go false false true et eu ev = of_three (leb-false c 0x7FF eu) (leb-true c 0xFFFF ev)
    go false false false et eu ev = of_four (leb-false c 0xFFFF ev)
