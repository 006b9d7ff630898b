-- Document 02, **Wish 5**: what a half to a whole pixel leaves on both sides of what is centred, and how document 01's half is related. This is
-- `HalfOnWholePixels`, which is proved in proofs/Halves.antt.
use Rattle.std.specs.Prelude.{◌≡◌, ℕ, ◌+◌, ◌-◌, ◌/◌, ◌%◌, ◌<◌, ◌≤◌, ℤ, pos, negsuc, nat_abs}
use Rattle.arithmetic.specs.Scalar.{half_of, from_int}

-- What an offset puts before a run in so much free space, and what is left behind it.
abbrev pub before : (ℕ → ℤ) → ℕ → ℕ
before offset free = nat_abs (offset free)

abbrev pub behind : (ℕ → ℤ) → ℕ → ℕ
behind offset free = free - before offset free

-- The offset centres a run, as nearly as that goes on whole pixels.
pub record CentresOnPixels (offset : ℕ → ℤ) : Type 0 where
  pub at_least_0 : (free : ℕ) → offset free ≡ pos (before offset free)
  pub at_most_the_free_space : (free : ℕ) → before offset free ≤ free
  pub a_whole_number_of_pixels : (free : ℕ) → before offset free % 65536 ≡ 0
  pub no_less_behind : (free : ℕ) → before offset free ≤ behind offset free
  pub less_than_two_pixels_more_behind : (free : ℕ) → behind offset free < before offset free + 131072
  -- at most one where the free space is a whole number of pixels
  pub one_pixel_more_behind : (free : ℕ) → free % 65536 ≡ 0 → behind offset free ≤ before offset free + 65536
  -- no other number of pixels would do
  pub no_other : (free b : ℕ) → b % 65536 ≡ 0 → b + b ≤ free → free < b + b + 131072 → b ≡ before offset free

-- Document 01's half, rounded down to a raw number, which `half_of` was before wish 5: 5 gives 2, 1 gives 0, -1 gives -1, -5 gives -3.
abbrev pub raw_half_of : ℤ → ℤ
raw_half_of (pos n) = pos (n / 2)
raw_half_of (negsuc n) = negsuc (n / 2)

-- The whole pixels of a raw number, rounded down.
abbrev pub pixels_of : ℤ → ℤ
pixels_of (pos n) = pos (n / 65536)
pixels_of (negsuc n) = negsuc (n / 65536)

pub record HalfOnWholePixels : Type 0 where
  pub centres : CentresOnPixels (λ (free : ℕ). half_of (pos free))
  pub document_01s_half_to_a_pixel : (a : ℤ) → half_of a ≡ from_int (pixels_of (raw_half_of a))
