-- With each comma made a point: a text without comma and space stays as it is, and a comma is no space and none is made of it. Assumes nothing.
use mathlib.Core.Path.{◌≡◌, refl, ap}
use mathlib.Core.Bool.{true, false}
use mathlib.Core.List.{List, [], ◌∷◌}
use Prim.Native.Nat.{ℕ}
use Rattle.arithmetic.specs.Tests.{all}
use Rattle.arithmetic.proofs.BoolLaws.{no_more, both}
use Rattle.arithmetic.proofs.TestLaws.{bool_cases}
use Rattle.field.specs.Metres.{is_space, is_comma, point_for, pointed}
use Rattle.field.specs.MetresLaws.{is_other}
use Rattle.field.proofs.Reading.{by_swap}

pub no_space : (b : ℕ) → is_other b ≡ true → is_space b ≡ false
no_space b e = bool_cases (is_space b) (λ q. no_more (rw q at e)) (λ q. q)

no_comma : (b : ℕ) → is_other b ≡ true → is_comma b ≡ false
no_comma b e = bool_cases (is_comma b) (λ q. no_more (rw (no_space b e, q) at e)) (λ q. q)

pub none_pointed : (s : List ℕ) → all is_other s ≡ true → pointed s ≡ s
unfolding point_for
none_pointed [] a = refl
none_pointed (b ∷ s) a = let k = both (is_other b) (all is_other s) a in rw (no_comma b k.0) (ap (λ (l : List ℕ). b ∷ l) (none_pointed s k.1))

pub space_still : (b : ℕ) → is_space (point_for b) ≡ is_space b
space_still b = by_swap b (λ c d. is_space c ≡ is_space d) refl (λ _. refl)
