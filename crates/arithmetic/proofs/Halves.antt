-- What is said of a half to a whole pixel: each by division with a remainder. Assumes nothing.
use mathlib.Core.Path.{◌≡◌, refl, ap}
use Prim.Native.Nat.{ℕ, ◌+◌, ◌*◌, ◌/◌, ◌%◌, ◌<◌, ◌≤◌}
use native.Mathlib.Omega.{arith}
use lib.IntN.{ℤ, pos, negsuc, nat_abs}
use Rattle.arithmetic.specs.Scalar.{half_of, from_int}
use Rattle.arithmetic.specs.Halves.{before, behind, raw_half_of, pixels_of, HalfOnWholePixels}

abbrev halved : ℕ → ℤ
halved free = half_of (pos free)

inside : (free : ℕ) → before halved free ≤ free
inside free = omega arith

whole : (free : ℕ) → before halved free % 65536 ≡ 0
whole free = omega arith

no_less : (free : ℕ) → before halved free ≤ behind halved free
no_less free = omega arith

within_two : (free : ℕ) → behind halved free < before halved free + 131072
within_two free = omega arith

within_one : (free : ℕ) → free % 65536 ≡ 0 → behind halved free ≤ before halved free + 65536
within_one free h = omega (arith, h)

only : (free b : ℕ) → b % 65536 ≡ 0 → b + b ≤ free → free < b + b + 131072 → b ≡ before halved free
only free b h low high = omega (arith, h, low, high)

to_a_pixel : (a : ℤ) → half_of a ≡ from_int (pixels_of (raw_half_of a))
to_a_pixel (pos n) = let e : nat_abs (half_of (pos n)) ≡ n / 2 / 65536 * 65536 = omega arith in ap pos e
to_a_pixel (negsuc n) = let e : n / 131072 ≡ n / 2 / 65536 = omega arith in ap (λ (k : ℕ). from_int (negsuc k)) e

pub half_on_whole_pixels : HalfOnWholePixels
half_on_whole_pixels = record {
  centres = record {
    at_least_0 = λ free. refl;
    at_most_the_free_space = inside;
    a_whole_number_of_pixels = whole;
    no_less_behind = no_less;
    less_than_two_pixels_more_behind = within_two;
    one_pixel_more_behind = within_one;
    no_other = only;
  };
  document_01s_half_to_a_pixel = to_a_pixel;
}
