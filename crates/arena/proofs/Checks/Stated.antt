-- The stated slots, of which there are at most three, compared one by one. Assumes nothing.
use Rattle.std.proofs.Common.{◌≡◌, ℕ, ◌+◌, ◌<◌, Bool, true, false, cond, not, ◌&&◌, eqb, ltb, leb, List, [], ◌∷◌, length, get_or, take, refl, ap, ◌∙◌, ap₂, arith}
use borrow.Author.Tests.{lt-leb}
use Rattle.arithmetic.specs.Tests.{same, δ}
use Rattle.arena.specs.Rules.{distinct}

and_true : (b : Bool) → b ≡ (b && true)
and_true true = refl
and_true false = refl

-- a number stands nowhere in a list of one, and of two
pub not_in_one : (i j : ℕ) → not (eqb i j) ≡ same (δ i j + 0) 0
unfolding same δ
not_in_one i j = go (eqb i j)
  where
    go : (a : Bool) → not a ≡ eqb (cond a 1 0 + 0) 0
    go true = refl
    go false = refl

pub not_in_two : (i k j : ℕ) → (not (eqb i j) && not (eqb k j)) ≡ same (δ i j + (δ k j + 0)) 0
unfolding same δ
not_in_two i k j = go (eqb i j) (eqb k j)
  where
    go : (a b : Bool) → (not a && not b) ≡ eqb (cond a 1 0 + (cond b 1 0 + 0)) 0
    go true true = refl
    go true false = refl
    go false true = refl
    go false false = refl

one : (n a : ℕ) → ltb a n ≡ distinct n (a ∷ [])
unfolding distinct same
one n a = and_true (ltb a n)

two : (n a b : ℕ) → (ltb a n && (not (eqb b a) && ltb b n)) ≡ distinct n (a ∷ b ∷ [])
unfolding distinct
two n a b = ap (λ (q : Bool). ltb a n && q) (ap₂ ◌&&◌ (not_in_one b a) (one n b))

three : (n a b c : ℕ) → (ltb a n && ((not (eqb b a) && not (eqb c a)) && (ltb b n && (not (eqb c b) && ltb c n)))) ≡ distinct n (a ∷ b ∷ c ∷ [])
unfolding distinct
three n a b c = ap (λ (q : Bool). ltb a n && q) (ap₂ ◌&&◌ (not_in_two b c a) (two n b c))

pub spelt : (l : List ℕ) → length l ≡ 3 → get_or l 0 0 ∷ get_or l 1 0 ∷ get_or l 2 0 ∷ [] ≡ l
spelt [] h = absurd (omega arith)
spelt (a ∷ []) h = absurd (omega arith)
spelt (a ∷ b ∷ []) h = absurd (omega arith)
spelt (a ∷ b ∷ c ∷ []) h = refl
spelt (a ∷ b ∷ c ∷ d ∷ l) h = absurd (omega arith)

module _ (l : List ℕ) (n k : ℕ) where
  pub none_is_stated : k ≡ 0 → true ≡ (leb k 3 && distinct n (take k l))
  unfolding distinct
  none_is_stated e = rw e

  pub one_is_stated : length l ≡ 3 → k ≡ 1 → ltb (get_or l 0 0) n ≡ (leb k 3 && distinct n (take k l))
  one_is_stated h e = rw e (one n (get_or l 0 0) ∙ ap (λ (s : List ℕ). distinct n (take 1 s)) (spelt l h))

  pub two_are_stated : length l ≡ 3 → k ≡ 2
      → (ltb (get_or l 0 0) n && (not (eqb (get_or l 1 0) (get_or l 0 0)) && ltb (get_or l 1 0) n)) ≡ (leb k 3 && distinct n (take k l))
  two_are_stated h e = rw e (two n (get_or l 0 0) (get_or l 1 0) ∙ ap (λ (s : List ℕ). distinct n (take 2 s)) (spelt l h))

  pub three_are_stated : length l ≡ 3 → k ≡ 3
      → (ltb (get_or l 0 0) n && ((not (eqb (get_or l 1 0) (get_or l 0 0)) && not (eqb (get_or l 2 0) (get_or l 0 0)))
      && (ltb (get_or l 1 0) n && (not (eqb (get_or l 2 0) (get_or l 1 0)) && ltb (get_or l 2 0) n)))) ≡ (leb k 3 && distinct n (take k l))
  three_are_stated h e = rw e (three n (get_or l 0 0) (get_or l 1 0) (get_or l 2 0) ∙ ap (λ (s : List ℕ). distinct n (take 3 s)) (spelt l h))

  pub more_are_not : 3 < k → false ≡ (leb k 3 && distinct n (take k l))
  more_are_not h = rw (lt-leb k 3 h)
