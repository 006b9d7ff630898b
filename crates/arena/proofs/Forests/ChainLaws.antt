-- One step along a chain of siblings. Assumes nothing.
use Rattle.std.proofs.Common.{◌≡◌, ℕ, zero, suc, ◌-◌, ◌<◌, ◌≤◌, [], ◌∷◌, refl, arith, le-ltb, lt-ltb}
use Rattle.arena.specs.Slots.{Slots, at, chain}

pub chain_none : (s : Slots) (n p : ℕ) → 128 ≤ p → chain n s p ≡ []
unfolding chain
chain_none s zero p h = refl
chain_none s (suc n) p h = rw (le-ltb p 128 h)

pub chain_spent : (s : Slots) (n p : ℕ) → n ≡ 0 → chain n s p ≡ []
unfolding chain
chain_spent s n p h = rw h

pub chain_more : (s : Slots) (n p : ℕ) → (n ≡ 0 → ⊥) → p < 128 → chain n s p ≡ p ∷ chain (n - 1) s (at s p).next_sibling
unfolding chain
chain_more s zero p h i = absurd (h refl)
chain_more s (suc n) p h i = let e : suc n - 1 ≡ n = omega arith in rw (lt-ltb p 128 i, e)
