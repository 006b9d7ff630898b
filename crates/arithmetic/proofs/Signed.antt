-- What stopping at the ends of an i64 comes to, by how far a signed number lies above zero and how far below. Assumes nothing.
use mathlib.Core.Path.{◌≡◌, ap}
use Prim.Native.Nat.{◌+◌, ◌-◌, ◌^◌, ◌≤◌}
use native.Mathlib.Omega.{arith}
use borrow.Author.Differences.{up, down}
use lib.IntN.{ℤ, pos, negsuc}
use mir.Syntax.{w64}
use mir.Val.{SFits}
use Rattle.arithmetic.specs.Scalar.{stop}

-- The three cases of stopping.
pub stop_keeps_what_fits : (z : ℤ) → SFits w64 z → stop z ≡ z
unfolding stop
stop_keeps_what_fits (pos n) f = ap pos (omega arith)
stop_keeps_what_fits (negsuc n) f = ap negsuc (omega arith)

pub stop_gives_the_top : (z : ℤ) → 2 ^ 63 ≤ up z + 1 → stop z ≡ pos (2 ^ 63 - 1)
unfolding stop
stop_gives_the_top (pos n) h = ap pos (omega arith)
stop_gives_the_top (negsuc n) h = absurd (omega arith)

pub stop_gives_the_bottom : (z : ℤ) → 2 ^ 63 ≤ down z → stop z ≡ negsuc (2 ^ 63 - 1)
unfolding stop
stop_gives_the_bottom (pos n) h = absurd (omega arith)
stop_gives_the_bottom (negsuc n) h = ap negsuc (omega arith)
