-- A character's bytes are one alternative of the grammar of RFC 3629, found by the character's size. Assumes nothing.
use mathlib.Core.Path.{◌≡◌, refl}
use mathlib.Core.Bool.{Bool, true, false}
use mathlib.Core.List.{List, ◌∷◌, ◌++◌}
use Prim.Native.Nat.{ℕ, ◌+◌, ◌/◌, ◌%◌, ◌≤◌, ◌<◌}
use native.Mathlib.Omega.{arith}
use borrow.Author.Tests.{leb-true, leb-false}
use lib.Dec.{leb}
use Rattle.text.specs.Utf8.{is_scalar, encoded, Octets}
use Rattle.text.specs.Utf8.Octets.{utf8_1, utf8_2, utf8_3_e0, utf8_3_e1, utf8_3_ed, utf8_3_ee, utf8_4_f0, utf8_4_f1, utf8_4_f4}
use Rattle.text.proofs.Scalars.{scalar_top, scalar_gap, encoded_one, encoded_two, encoded_three, encoded_four, Size, size_of}
use Rattle.text.proofs.Scalars.Size.{of_one, of_two, of_three, of_four}

-- a character's bytes before a string of the grammar
module _ (c : ℕ) (h : is_scalar c ≡ true) (s : List ℕ) (o : Octets s) where
  three : (t u v : Bool) → leb 0x1000 c ≡ t → leb 0xD000 c ≡ u → leb 0xE000 c ≡ v → 0x7FF < c → c ≤ 0xFFFF
      → Octets ((0xE0 + c / 4096) ∷ (0x80 + c / 64 % 64) ∷ (0x80 + c % 64) ∷ s)
  three false u v et eu ev l k =
      let m = leb-false 0x1000 c et in utf8_3_e0 {a = 0xE0 + c / 4096} {b = 0x80 + c / 64 % 64} {c = 0x80 + c % 64} (omega arith) (omega arith) (omega arith) o
  three true false v et eu ev l k =
      let m = leb-true 0x1000 c et in let n = leb-false 0xD000 c eu in utf8_3_e1 {a = 0xE0 + c / 4096} {b = 0x80 + c / 64 % 64} {c = 0x80 + c % 64} (omega arith) (omega arith) (omega arith) o
  three true true false et eu ev l k =
      let m = leb-true 0xD000 c eu in
      let n = leb-false 0xE000 c ev in
      let low : c < 0xD800 = below (leb 0xD800 c) refl n in
      utf8_3_ed {a = 0xE0 + c / 4096} {b = 0x80 + c / 64 % 64} {c = 0x80 + c % 64} (omega arith) (omega arith) (omega arith) o
    where
      below : (t : Bool) → leb 0xD800 c ≡ t → c < 0xE000 → c < 0xD800
      below true e n = absurd (omega (arith, scalar_gap c h (leb-true 0xD800 c e)))
      below false e n = leb-false 0xD800 c e
  three true true true et eu ev l k =
      let m = leb-true 0xE000 c ev in utf8_3_ee {a = 0xE0 + c / 4096} {b = 0x80 + c / 64 % 64} {c = 0x80 + c % 64} (omega arith) (omega arith) (omega arith) o

  four : (t u : Bool) → leb 0x40000 c ≡ t → leb 0x100000 c ≡ u → 0xFFFF < c → c ≤ 0x10FFFF
      → Octets ((0xF0 + c / 262144) ∷ (0x80 + c / 4096 % 64) ∷ (0x80 + c / 64 % 64) ∷ (0x80 + c % 64) ∷ s)
  four false u et eu l k =
      let m = leb-false 0x40000 c et in utf8_4_f0 {a = 0xF0 + c / 262144} {b = 0x80 + c / 4096 % 64} {c = 0x80 + c / 64 % 64} {d = 0x80 + c % 64} (omega arith) (omega arith) (omega arith) (omega arith) o
  four true false et eu l k =
      let m = leb-true 0x40000 c et in let n = leb-false 0x100000 c eu in utf8_4_f1 {a = 0xF0 + c / 262144} {b = 0x80 + c / 4096 % 64} {c = 0x80 + c / 64 % 64} {d = 0x80 + c % 64} (omega arith) (omega arith) (omega arith) (omega arith) o
  four true true et eu l k =
      let m = leb-true 0x100000 c eu in utf8_4_f4 {a = 0xF0 + c / 262144} {b = 0x80 + c / 4096 % 64} {c = 0x80 + c / 64 % 64} {d = 0x80 + c % 64} (omega arith) (omega arith) (omega arith) (omega arith) o

  pub character_is_an_alternative : Octets (encoded c ++ s)
  character_is_an_alternative = by_size (size_of c)
    where
      by_size : Size c → Octets (encoded c ++ s)
      by_size (of_one m) = rw (encoded_one c m) (utf8_1 {a = c} (omega arith) o)
      by_size (of_two l m) = rw (encoded_two c l m) (utf8_2 {a = 0xC0 + c / 64} {b = 0x80 + c % 64} (omega arith) (omega arith) o)
      by_size (of_three l m) = rw (encoded_three c l m) (three (leb 0x1000 c) (leb 0xD000 c) (leb 0xE000 c) refl refl refl l m)
      by_size (of_four l) = rw (encoded_four c l) (four (leb 0x40000 c) (leb 0x100000 c) refl refl l (scalar_top c h))
