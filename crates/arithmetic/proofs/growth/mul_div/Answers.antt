-- `mul_div` divides the product in three digits of l. With x the digits taken and r the remainder of x * g, one digit d more has the
-- quotient and the remainder of r * 2^24 + d * g, which fits 64 bits as r is below t. Assumes nothing.
use mathlib.Core.Path.{◌≡◌, sym, ◌∙◌, ap, subst}
use Prim.Native.Nat.{ℕ, ◌+◌, ◌*◌, ◌/◌, ◌%◌, ◌<◌, ◌≤◌, ◌^◌}
use native.Mathlib.Nat.{add-mul, mul_right_comm, mul_comm, mul-le-mul_right, mul-le-mul_left, mod-lt, div-add-mod', mul-add-div_right, mul-add-mod_self_right, div-le_of_le-mul}
use native.Mathlib.Omega.{arith}
use mir.Syntax.{w64}
use mir.Val.{Fits}
use Rattle.arithmetic.specs.Support.Steps.{Divisible}
use Rattle.arithmetic.proofs.growth.mul_div.Goals as goal

-- One digit more of the long division.
module _ (x d g t : ℕ) (p : 0 < t) where
  abbrev carried : ℕ
  carried = x * g % t * 16777216 + d * g

  product_by_digit : (x * 16777216 + d) * g ≡ x * g / t * 16777216 * t + carried
  product_by_digit = omega (arith, add-mul (x * 16777216) d g, mul_right_comm x 16777216 g, mul_right_comm (x * g / t) 16777216 t, div-add-mod' (x * g) t)

  quotient_by_digit : (x * 16777216 + d) * g / t ≡ x * g / t * 16777216 + carried / t
  quotient_by_digit = ap (λ (k : ℕ). k / t) product_by_digit ∙ mul-add-div_right p (x * g / t * 16777216) carried

  remainder_by_digit : (x * 16777216 + d) * g % t ≡ carried % t
  remainder_by_digit = ap (λ (k : ℕ). k % t) product_by_digit ∙ mul-add-mod_self_right (x * g / t * 16777216) t carried

module _ (l g t : ℕ) (p : Divisible l g t) (fg : g < 2 ^ 32) where
  abbrev high : ℕ
  high = l / 281474976710656 * g

  abbrev middle : ℕ
  middle = high % t * 16777216 + l / 16777216 % 16777216 * g

  abbrev low : ℕ
  low = middle % t * 16777216 + l % 16777216 * g

  upper_digits : l / 16777216 ≡ l / 281474976710656 * 16777216 + l / 16777216 % 16777216
  upper_digits = omega arith

  all_digits : l ≡ l / 16777216 * 16777216 + l % 16777216
  all_digits = omega arith

  upper_quotient : l / 16777216 * g / t ≡ high / t * 16777216 + middle / t
  upper_quotient = ap (λ (k : ℕ). k * g / t) upper_digits ∙ quotient_by_digit (l / 281474976710656) (l / 16777216 % 16777216) g t p.t_some

  upper_remainder : l / 16777216 * g % t ≡ middle % t
  upper_remainder = ap (λ (k : ℕ). k * g % t) upper_digits ∙ remainder_by_digit (l / 281474976710656) (l / 16777216 % 16777216) g t p.t_some

  low_is_carried : l / 16777216 * g % t * 16777216 + l % 16777216 * g ≡ low
  low_is_carried = ap (λ (k : ℕ). k * 16777216 + l % 16777216 * g) upper_remainder

  quotient_is : high / t * 281474976710656 + middle / t * 16777216 + low / t ≡ l * g / t
  quotient_is = omega (arith, upper_quotient, ap (λ (k : ℕ). k * g / t) all_digits, quotient_by_digit (l / 16777216) (l % 16777216) g t p.t_some, ap (λ (k : ℕ). k / t) low_is_carried)

  remainder_is : low % t ≡ l * g % t
  remainder_is = sym (ap (λ (k : ℕ). k * g % t) all_digits ∙ remainder_by_digit (l / 16777216) (l % 16777216) g t p.t_some ∙ ap (λ (k : ℕ). k % t) low_is_carried)

  quotient_at_most_l : l * g / t ≤ l
  quotient_at_most_l = div-le_of_le-mul t (subst (λ (k : ℕ). l * g ≤ k) (mul_comm l t) (mul-le-mul_left l p.g_part))

  digit_times_g : (d : ℕ) → d < 16777216 → d * g ≤ 16777215 * g
  digit_times_g d h = mul-le-mul_right g (omega arith)

  high_fits : Fits w64 high
  high_fits = omega (arith, digit_times_g (l / 281474976710656) (omega arith))

  high_rest_fits : Fits w64 (high % t * 16777216)
  high_rest_fits = omega (arith, mod-lt high p.t_some)

  middle_digit_fits : Fits w64 (l / 16777216 % 16777216 * g)
  middle_digit_fits = omega (arith, digit_times_g (l / 16777216 % 16777216) (omega arith))

  middle_fits : Fits w64 middle
  middle_fits = omega (arith, mod-lt high p.t_some, digit_times_g (l / 16777216 % 16777216) (omega arith))

  middle_rest_fits : Fits w64 (middle % t * 16777216)
  middle_rest_fits = omega (arith, mod-lt middle p.t_some)

  low_digit_fits : Fits w64 (l % 16777216 * g)
  low_digit_fits = omega (arith, digit_times_g (l % 16777216) (omega arith))

  low_fits : Fits w64 low
  low_fits = omega (arith, mod-lt middle p.t_some, digit_times_g (l % 16777216) (omega arith))

  high_quotient_fits : Fits w64 (high / t * 281474976710656)
  high_quotient_fits = omega (arith, quotient_is, quotient_at_most_l)

  middle_quotient_fits : Fits w64 (middle / t * 16777216)
  middle_quotient_fits = omega (arith, quotient_is, quotient_at_most_l)

  upper_quotient_fits : Fits w64 (high / t * 281474976710656 + middle / t * 16777216)
  upper_quotient_fits = omega (arith, quotient_is, quotient_at_most_l)

  quotient_fits : Fits w64 (high / t * 281474976710656 + middle / t * 16777216 + low / t)
  quotient_fits = omega (arith, quotient_is, quotient_at_most_l)

pub overflow_mul-high : goal.overflow_mul-high
overflow_mul-high c = high_fits _ _ _ c.requires c.ranges.g.fits

pub overflow_mul-middle : goal.overflow_mul-middle
overflow_mul-middle c = high_rest_fits _ _ _ c.requires c.ranges.g.fits

pub overflow_mul-middle-2 : goal.overflow_mul-middle-2
overflow_mul-middle-2 c = middle_digit_fits _ _ _ c.requires c.ranges.g.fits

pub overflow_add-middle : goal.overflow_add-middle
overflow_add-middle c = middle_fits _ _ _ c.requires c.ranges.g.fits

pub overflow_mul-low : goal.overflow_mul-low
overflow_mul-low c = middle_rest_fits _ _ _ c.requires c.ranges.g.fits

pub overflow_mul-low-2 : goal.overflow_mul-low-2
overflow_mul-low-2 c = low_digit_fits _ _ _ c.requires c.ranges.g.fits

pub overflow_add-low : goal.overflow_add-low
overflow_add-low c = low_fits _ _ _ c.requires c.ranges.g.fits

pub overflow_mul-result : goal.overflow_mul-result
overflow_mul-result c = high_quotient_fits _ _ _ c.requires c.ranges.g.fits

pub overflow_mul-result-2 : goal.overflow_mul-result-2
overflow_mul-result-2 c = middle_quotient_fits _ _ _ c.requires c.ranges.g.fits

pub overflow_add-result : goal.overflow_add-result
overflow_add-result c = upper_quotient_fits _ _ _ c.requires c.ranges.g.fits

pub overflow_add-result-2 : goal.overflow_add-result-2
overflow_add-result-2 c = quotient_fits _ _ _ c.requires c.ranges.g.fits

pub returns : goal.returns
returns c = (quotient_is _ _ _ c.requires c.ranges.g.fits, remainder_is _ _ _ c.requires c.ranges.g.fits)
