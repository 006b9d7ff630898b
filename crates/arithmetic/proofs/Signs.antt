-- A signed number of 64 bits comes back from its bits. Assumes nothing.
use mathlib.Core.Path.{◌≡◌, ◌∙◌}
use Prim.Native.Nat.{◌<◌, ◌^◌}
use lib.IntN.{ℤ}
use lib.Signed.{mag}
use mir.Syntax.{w64}
use mir.Val.{to_z, of_z, hbits}
use mir.ValLaws.{to_z-of_z}

pub back : (z : ℤ) → mag z < 2 ^ hbits w64 → to_z w64 (of_z w64 z) ≡ z
back z h = to_z-of_z w64 z (record { sfits = h })

-- What a call gave, read again: by its result, its range and what it ensures.
pub said : (z : ℤ) → mag z < 2 ^ hbits w64 → {v : ℤ} → z ≡ v → to_z w64 (of_z w64 z) ≡ v
said z h e = back z h ∙ e
