-- One step of a hit test's walks. Assumes nothing.
use mathlib.Core.Path.{◌≡◌, refl}
use mathlib.Core.Bool.{Bool, true, false, cond}
use Prim.Native.Nat.{ℕ, zero, suc, ◌-◌, ◌<◌}
use mathlib.Core.List.{[], List}
use native.Mathlib.Omega.{arith}
use Rattle.arena.specs.Slots.{Slots, at, chain, kids_at}
use lib.ListN.{get_or}
use Rattle.boxes.specs.Styles.{no_layout, layout_at}
use Rattle.boxes.specs.Layout.{holds}
use Rattle.boxes.specs.Hit.{last_of, descend, holds_at}
use Rattle.boxes.specs.declared.LayoutSlot.{LayoutSlot}
use Rattle.boxes.specs.declared.Pixel.{Pixel}
use Rattle.arena.proofs.Forests.ChainLaws.{chain_more}

-- The children of a slot from its first on.
pub kids_whole : (l : List LayoutSlot) (pixel : Pixel) (s : Slots) (i : ℕ) → last_of (holds_at l pixel) i (chain 128 s (at s i).first_child) ≡ last_of (holds_at l pixel) i (kids_at s i)
unfolding kids_at
kids_whole l pixel s i = refl

-- One child further.
pub last_more : (p : ℕ → Bool) (s : Slots) (k c d : ℕ) {f : ℕ} → (k ≡ 0 → ⊥) → c < 128 → f ≡ cond (p c) c d
    → last_of p f (chain (k - 1) s (at s c).next_sibling) ≡ last_of p d (chain k s c)
unfolding last_of
last_more p s k c d h q e = rw (chain_more s k c h q, e)

pub last_end : (p : ℕ → Bool) (s : Slots) (k c d : ℕ) → chain k s c ≡ [] → d ≡ last_of p d (chain k s c)
unfolding last_of
last_end p s k c d e = rw e

pub picked_small : (b : Bool) (i d : ℕ) {r : ℕ} → r ≡ cond b i d → i < 128 → d < 128 → r < 128
picked_small true i d e h q = omega (arith, e)
picked_small false i d e h q = omega (arith, e)

-- Where no child holds the pixel, the walk stays.
pub descend_stays : (p : ℕ → Bool) (k : ℕ) (s : Slots) (i : ℕ) → last_of p i (kids_at s i) ≡ i → descend p k s i ≡ i
unfolding descend
descend_stays p zero s i e = refl
descend_stays p (suc k) s i e = rw e (descend_stays p k s i e)

pub descend_more : (p : ℕ → Bool) (k : ℕ) (s : Slots) (i : ℕ) → 0 < k → descend p k s i ≡ descend p (k - 1) s (last_of p i (kids_at s i))
unfolding descend
descend_more p zero s i h = absurd (omega arith)
descend_more p (suc k) s i h = let e : suc k - 1 ≡ k = omega arith in rw e

pub descend_ends : (p : ℕ → Bool) (k : ℕ) (s : Slots) (i : ℕ) → k ≡ 0 → descend p k s i ≡ i
unfolding descend
descend_ends p k s i h = rw h

-- The test of an element read from the array.
pub holds_at_lem : (l : List LayoutSlot) (pixel : Pixel) (i : ℕ) (r : Bool) → r ≡ holds pixel.x pixel.y (get_or l i no_layout).rect → r ≡ holds_at l pixel i
unfolding holds_at layout_at
holds_at_lem l pixel i r h = h
