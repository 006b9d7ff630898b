-- A text read as metres, by its digits and by how long what stands behind them is, with each comma made a point. Assumes nothing.
use mathlib.Core.Path.{◌≡◌, refl}
use mathlib.Core.Bool.{Bool, false, ◌&&◌, ◌||◌, cond}
use mathlib.Core.List.{List, [], ◌∷◌}
use Prim.Native.Nat.{ℕ, zero, suc, ◌+◌, ◌-◌, ◌*◌, ◌≤◌}
use native.Mathlib.Omega.{arith}
use borrow.Author.Tests.{eqb-true}
use lib.Dec.{eqb}
use lib.ListN.{length, get_or, take, drop, length-map, get_or-map}
use lib.Seq.{get_or-take}
use Rattle.arithmetic.proofs.BoolLaws.{pick_of}
use Rattle.arithmetic.proofs.TestLaws.{bool_cases}
use Rattle.arithmetic.specs.Tests.{within}
use Rattle.text.specs.Steps.{front}
use Rattle.text.specs.Refusal.{Answer, accepted, refused}
use Rattle.text.specs.declared.refusal.Refusal.TheVariants.{Empty}
use Rattle.field.specs.Metres.{is_digit, is_point, is_comma, value_of, behind, unread, trimmed, point_for, pointed, plain_metres, metres_of}

-- what holds of a comma made a point, and of any other byte as it is
module _ (b : ℕ) where
  pub by_swap : (P : ℕ → ℕ → Type 0) → P 46 44 → (is_comma b ≡ false → P b b) → P (point_for b) b
  unfolding point_for
  by_swap P comma other = bool_cases (is_comma b) (λ e. let q = eqb-true b 44 e in rw (e, q) comma) (λ e. rw e (other e))

  digit_still : is_digit (point_for b) ≡ is_digit b
  unfolding within
  digit_still = by_swap (λ c d. is_digit c ≡ is_digit d) refl (λ _. refl)

  value_still : point_for b - 48 ≡ b - 48
  value_still = by_swap (λ c d. c - 48 ≡ d - 48) refl (λ _. refl)

  pub point_or_comma : is_point (point_for b) ≡ (eqb b 46 || eqb b 44)
  point_or_comma = by_swap (λ c d. is_point c ≡ (eqb d 46 || eqb d 44)) refl (λ e. bool_cases (is_point b) (λ p. rw (e, p)) (λ p. rw (e, p)))

-- so that the whole metres are those of the text itself
pub front_still : (p : ℕ → Bool) → ((b : ℕ) → p (point_for b) ≡ p b) → (s : List ℕ) → front p (pointed s) ≡ front p s
unfolding front
front_still p e [] = refl
front_still p e (b ∷ s) = rw (e b, front_still p e s)

place_pointed : (s : List ℕ) (n : ℕ) → get_or (pointed s) n 0 ≡ point_for (get_or s n 0)
unfolding point_for
place_pointed s n = get_or-map point_for s n 0

whole_still : (s : List ℕ) (n : ℕ) → value_of (pointed s) n ≡ value_of s n
unfolding value_of
whole_still s zero = refl
whole_still s (suc n) = rw (whole_still s n, place_pointed s n, value_still (get_or s n 0))

pub drop_pointed : (n : ℕ) (s : List ℕ) → drop n (pointed s) ≡ pointed (drop n s)
drop_pointed zero s = refl
drop_pointed (suc n) [] = refl
drop_pointed (suc n) (b ∷ s) = drop_pointed n s

pub read_pointed : (s : List ℕ) → plain_metres (pointed s)
    ≡ cond (eqb (length s) 0) (refused Empty 0)
    (cond (within 1 3 (front is_digit s)) (behind (value_of s (front is_digit s) * 100) (pointed (drop (front is_digit s) s))) unread)
unfolding plain_metres
read_pointed s = rw (length-map s point_for, front_still is_digit digit_still s, whole_still s (front is_digit s), drop_pointed (front is_digit s) s)

-- what stands behind the whole metres, by how long it is
module _ (v : ℕ) where
  pub nothing_behind : (s : List ℕ) → length s ≡ 0 → behind v (pointed s) ≡ accepted v
  unfolding behind
  nothing_behind [] k = refl
  nothing_behind (a ∷ s) k = absurd (omega arith)

  pub two_behind : (s : List ℕ) → length s ≡ 2 → (t : Bool) → is_point (point_for (get_or s 0 0)) && is_digit (get_or s 1 0) ≡ t
      → behind v (pointed s) ≡ cond t (accepted (v + (get_or s 1 0 - 48) * 10)) unread
  unfolding behind
  two_behind [] k t e = absurd (omega arith)
  two_behind (a ∷ []) k t e = absurd (omega arith)
  two_behind (a ∷ b ∷ []) k t e = rw (digit_still b, value_still b, e)
  two_behind (a ∷ b ∷ c ∷ s) k t e = absurd (omega arith)

  pub three_behind : (s : List ℕ) → length s ≡ 3 → (t : Bool) → is_point (point_for (get_or s 0 0)) && (is_digit (get_or s 1 0) && is_digit (get_or s 2 0)) ≡ t
      → behind v (pointed s) ≡ cond t (accepted (v + (get_or s 1 0 - 48) * 10 + (get_or s 2 0 - 48))) unread
  unfolding behind
  three_behind [] k t e = absurd (omega arith)
  three_behind (a ∷ []) k t e = absurd (omega arith)
  three_behind (a ∷ b ∷ []) k t e = absurd (omega arith)
  three_behind (a ∷ b ∷ c ∷ []) k t e = rw (digit_still b, digit_still c, value_still b, value_still c, e)
  three_behind (a ∷ b ∷ c ∷ d ∷ s) k t e = absurd (omega arith)

  pub another_behind : (s : List ℕ) → (length s ≡ 0 → ⊥) → (length s ≡ 2 → ⊥) → (length s ≡ 3 → ⊥) → behind v (pointed s) ≡ unread
  unfolding behind
  another_behind [] p q r = absurd (p refl)
  another_behind (a ∷ []) p q r = refl
  another_behind (a ∷ b ∷ []) p q r = absurd (q refl)
  another_behind (a ∷ b ∷ c ∷ []) p q r = absurd (r refl)
  another_behind (a ∷ b ∷ c ∷ d ∷ l) p q r = refl

-- the number that a front makes is that of the list
pub front_value : (s : List ℕ) (n m : ℕ) → n ≤ m → value_of (take m s) n ≡ value_of s n
unfolding value_of
front_value s zero m h = refl
front_value s (suc n) m h = rw (front_value s n m (omega arith), get_or-take m s n 0 (omega arith))

-- a text that is not empty is read by the digits at its front and by what stands behind them
pub read_by : (s : List ℕ) {w : ℕ} {digits rest : List ℕ} → eqb (length s) 0 ≡ false → w ≡ front is_digit s → digits ≡ take w s → rest ≡ drop w s → length digits ≡ w
    → plain_metres (pointed s) ≡ cond (within 1 3 (length digits)) (behind (value_of digits (length digits) * 100) (pointed rest)) unread
read_by s {w} n e d r l = rw (read_pointed s, n, l, d, r, front_value s w w (omega arith), e)

-- ---- what holds of each kind of answer holds of every reading

pub plain_of : (P : Answer ℕ → Type 0) (s : List ℕ) → (length s ≡ 0 → P (refused Empty 0)) → ((v : ℕ) → P (behind v (drop (front is_digit s) s))) → P unread → P (plain_metres s)
unfolding plain_metres
plain_of P s empty read other =
    pick_of P (eqb (length s) 0) (λ e. empty (eqb-true (length s) 0 e)) (λ _. pick_of P (within 1 3 (front is_digit s)) (λ _. read (value_of s (front is_digit s) * 100)) (λ _. other))

module _ (P : Answer ℕ → Type 0) (read : (v : ℕ) → P (accepted v)) (other : P unread) where
  pub behind_of : (v : ℕ) (s : List ℕ) → P (behind v s)
  unfolding behind
  behind_of v [] = read v
  behind_of v (p ∷ []) = other
  behind_of v (p ∷ d ∷ []) = pick_of P (is_point p && is_digit d) (λ _. read _) (λ _. other)
  behind_of v (p ∷ d ∷ e ∷ []) = pick_of P (is_point p && (is_digit d && is_digit e)) (λ _. read _) (λ _. other)
  behind_of v (p ∷ d ∷ e ∷ x ∷ s) = other

  pub reading_of : P (refused Empty 0) → (s : List ℕ) → P (metres_of s)
  unfolding metres_of
  reading_of empty s = let t = pointed (trimmed s) in plain_of P t (λ _. empty) (λ v. behind_of v (drop (front is_digit t) t)) other
