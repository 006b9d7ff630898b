-- Equality of numbers as a test, and as a count of 0 or 1. Assumes nothing.
use mathlib.Core.Path.{◌≡◌, refl, sym, subst, ◌∙◌}
use mathlib.Core.Logic.{◌≢◌, ◌⊎◌, inl, inr}
use mathlib.Core.Bool.{Bool, true, false, false≢true, cond}
use Prim.Native.Nat.{ℕ, zero, suc, ◌≤◌, ◌<◌}
use lib.Dec.{T, eqb, eqb→eq, eqb_refl}
use native.Mathlib.Omega.{arith}
use Rattle.arithmetic.specs.Tests.{same, δ}

pub same_cases : (i j : ℕ) → ((i ≡ j) × (same i j ≡ true)) ⊎ ((i ≢ j) × (same i j ≡ false))
unfolding same
same_cases i j = go (eqb i j) refl
  where
    go : (b : Bool) → eqb i j ≡ b → ((i ≡ j) × (eqb i j ≡ true)) ⊎ ((i ≢ j) × (eqb i j ≡ false))
    go true e = inl (eqb→eq i j (subst T (sym e) tt), e)
    go false e = inr ((λ q. subst T e (subst (λ (k : ℕ). T (eqb i k)) q (eqb_refl i))), e)

pub same_yes : (i j : ℕ) → i ≡ j → same i j ≡ true
same_yes i j e = go (same_cases i j)
  where
    go : ((i ≡ j) × (same i j ≡ true)) ⊎ ((i ≢ j) × (same i j ≡ false)) → same i j ≡ true
    go (inl p) = p.1
    go (inr p) = absurd (p.0 e)

pub same_refl : (i : ℕ) → same i i ≡ true
same_refl i = same_yes i i refl

pub same_no : (i j : ℕ) → i ≢ j → same i j ≡ false
same_no i j e = go (same_cases i j)
  where
    go : ((i ≡ j) × (same i j ≡ true)) ⊎ ((i ≢ j) × (same i j ≡ false)) → same i j ≡ false
    go (inl p) = absurd (e p.0)
    go (inr p) = p.1

pub δ-same : (i j : ℕ) → i ≡ j → δ i j ≡ 1
unfolding δ
δ-same i j e = rw (same_yes i j e)

pub δ-refl : (i : ℕ) → δ i i ≡ 1
δ-refl i = δ-same i i refl

pub δ-other : (i j : ℕ) → i ≢ j → δ i j ≡ 0
unfolding δ
δ-other i j e = rw (same_no i j e)

pub δ-ne : (i j : ℕ) → δ i j ≡ 0 → i ≢ j
δ-ne i j z e = let h : δ i j ≡ 1 = δ-same i j e in omega arith

pub δ-le : (i j : ℕ) → δ i j ≤ 1
unfolding δ
δ-le i j = go (same i j)
  where
    go : (b : Bool) → cond {A = ℕ} b 1 0 ≤ 1
    go true = omega arith
    go false = omega arith

-- cases on the equality of two numbers, for any goal
pub eq_cases {ℓ} : {G : Type ℓ} (i j : ℕ) → (i ≡ j → same i j ≡ true → δ i j ≡ 1 → G) → (i ≢ j → same i j ≡ false → δ i j ≡ 0 → G) → G
eq_cases {G = G} i j f g = go (same_cases i j)
  where
    go : ((i ≡ j) × (same i j ≡ true)) ⊎ ((i ≢ j) × (same i j ≡ false)) → G
    go (inl p) = f p.0 p.1 (δ-same i j p.0)
    go (inr p) = g p.0 p.1 (δ-other i j p.0)

pub same_is : (m n : ℕ) → same m n ≡ true → m ≡ n
same_is m n e = eq_cases m n (λ q _ _. q) (λ _ s _. absurd (false≢true (sym s ∙ e)))

pub zero_cases {ℓ} : {G : Type ℓ} (n : ℕ) → (n ≡ 0 → G) → (0 < n → G) → G
zero_cases {G = G} n f g = go n refl
  where
    go : (k : ℕ) → n ≡ k → G
    go zero e = f e
    go (suc k) e = g (omega arith)

pub bool_cases {ℓ} : {G : Type ℓ} (b : Bool) → (b ≡ true → G) → (b ≡ false → G) → G
bool_cases {G = G} b f g = go b refl
  where
    go : (c : Bool) → b ≡ c → G
    go true e = f e
    go false e = g e
