-- Document 01, "Scalar", and its sentence on u64 counters. `max_of` is the source's `max`; `unsigned_of` is Rust's `cast_unsigned`, by
-- which a pointer enters the check sum.
use Rattle.std.specs.Prelude.{ℕ, suc, ◌+◌, ◌-◌, ◌/◌, ◌^◌, min, cond, ℤ, pos, negsuc, ◌+ℤ◌, ◌-ℤ◌, ◌*ℤ◌}
use Rattle.std.specs.Int.Signed.{lt_z}

-- An exact number, stopped at -2^63 and 2^63 - 1; `negsuc n` is -(n + 1).
unfoldable pub stop : ℤ → ℤ
stop (pos n) = pos (min n (2 ^ 63 - 1))
stop (negsuc n) = negsuc (min n (2 ^ 63 - 1))

-- The sum, stopped.
unfoldable pub add_sat : ℤ → ℤ → ℤ
add_sat a b = stop (a +ℤ b)

-- The difference, stopped.
unfoldable pub sub_sat : ℤ → ℤ → ℤ
sub_sat a b = stop (a -ℤ b)

-- A gap taken `count` times: the exact product, stopped.
unfoldable pub gap_times : ℤ → ℕ → ℤ
gap_times gap count = stop (gap *ℤ pos count)

-- A whole number of pixels as a raw number.
abbrev pub from_int : ℤ → ℤ
from_int x = x *ℤ pos 65536

-- Document 02, wish 5. Half, rounded down to a whole pixel, floor(a / 131,072) times 65,536: 5 gives 0, 196,608 gives 65,536, -1 gives -65,536.
abbrev pub half_of : ℤ → ℤ
half_of (pos n) = from_int (pos (n / 131072))
half_of (negsuc n) = from_int (negsuc (n / 131072))

-- The larger of two numbers.
unfoldable pub max_of : ℤ → ℤ → ℤ
max_of a b = cond (lt_z b a) a b

-- One more, staying at 2^64 - 1.
abbrev pub incremented : ℕ → ℕ
incremented x = min (x + 1) (2 ^ 64 - 1)

-- The 32 bits of a signed number, read without a sign: -1 gives 2^32 - 1.
unfoldable pub unsigned_of : ℤ → ℕ
unsigned_of (pos n) = n
unsigned_of (negsuc n) = 2 ^ 32 - suc n
