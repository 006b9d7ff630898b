-- Spaces before and after a text. Assumes nothing.
use mathlib.Core.Path.{◌≡◌, refl, sym, ap, ◌∙◌}
use mathlib.Core.Bool.{Bool, true, false}
use mathlib.Core.List.{List, [], ◌∷◌, ◌++◌, reverse, reverse-append, reverse-cons, reverse-reverse}
use Prim.Native.Nat.{ℕ, zero, suc, ◌+◌, ◌-◌}
use native.Mathlib.Omega.{arith}
use borrow.Author.Tests.{eqb-true}
use lib.ListN.{length, take, replicate, length-append, length-replicate, replicate-append-replicate}
use Rattle.std.specs.List.{prefix_len, take_while}
use Rattle.std.proofs.lemmas.List.Folds.{length-prefix_len}
use Rattle.std.proofs.lemmas.List.{take_at}
use Rattle.arithmetic.proofs.TestLaws.{bool_cases}
use Rattle.text.specs.Steps.{front}
use Rattle.field.specs.Metres.{is_space, skipped, skipped_back, trimmed}
use Rattle.field.specs.MetresLaws.{Trims}

-- how many are taken from the front
pub front_taken : (p : ℕ → Bool) (s : List ℕ) → length (take_while p s) ≡ front p s
unfolding front
front_taken p s = length-prefix_len p s ∙ counted s
  where
    counted : (s : List ℕ) → prefix_len p s ≡ front p s
    counted [] = refl
    counted (b ∷ s) = let e : 1 + front p s ≡ suc (front p s) = omega arith in rw (counted s, e)

-- ---- skipping

module _ (b : ℕ) (s : List ℕ) where
  pub skips_it : is_space b ≡ true → skipped (b ∷ s) ≡ skipped s
  unfolding front
  skips_it e = rw e

  pub stops_there : is_space b ≡ false → skipped (b ∷ s) ≡ b ∷ s
  unfolding front
  stops_there e = rw e

-- ---- what is skipped is spaces, and all that there are

pub spaces_before : (s : List ℕ) → s ≡ replicate (front is_space s) 32 ++ skipped s
unfolding front
spaces_before [] = refl
spaces_before (b ∷ s) =
    bool_cases (is_space b)
    (λ e. let q = eqb-true b 32 e in rw e (ap (λ (l : List ℕ). b ∷ l) (spaces_before s) ∙ ap (λ (k : ℕ). k ∷ replicate (front is_space s) 32 ++ skipped s) q))
    (λ e. rw e)

turned_spaces : (n : ℕ) → reverse {A = ℕ} (replicate n 32) ≡ replicate n 32
turned_spaces zero = refl
turned_spaces (suc n) =
    let e : n + 1 ≡ suc n = omega arith in
    reverse-cons 32 (replicate n 32) ∙ ap (λ (l : List ℕ). l ++ 32 ∷ []) (turned_spaces n) ∙ replicate-append-replicate n 1 32 ∙ ap (λ (k : ℕ). replicate k 32) e

spaces_after : (s : List ℕ) → s ≡ skipped_back s ++ replicate (front is_space (reverse s)) 32
spaces_after s =
    let n = front is_space (reverse s) in
    sym (reverse-reverse s) ∙ ap reverse (spaces_before (reverse s)) ∙ reverse-append (replicate n 32) (skipped (reverse s))
    ∙ ap (λ (l : List ℕ). skipped_back s ++ l) (turned_spaces n)

-- so that what is left is a front of the text
pub kept_front : (s : List ℕ) {n : ℕ} → n ≡ front is_space (reverse s) → take (length s - n) s ≡ skipped_back s
kept_front s {n} e =
    let q = spaces_after s in
    let k : length (skipped_back s) ≡ length s - n = omega (arith, ap length q, length-append (skipped_back s) (replicate (front is_space (reverse s)) 32), length-replicate {A = ℕ} (front is_space (reverse s)) 32) in
    ap (take (length s - n)) q ∙ take_at (skipped_back s) _ (length s - n) k

none_in_front : (s : List ℕ) → front is_space (skipped s) ≡ 0
unfolding front
none_in_front [] = refl
none_in_front (b ∷ s) = bool_cases (is_space b) (λ e. rw (skips_it b s e) (none_in_front s)) (λ e. rw (stops_there b s e, e))

none_in_a_part : (s t : List ℕ) → front is_space (s ++ t) ≡ 0 → front is_space s ≡ 0
unfolding front
none_in_a_part [] t e = refl
none_in_a_part (b ∷ s) t e = bool_cases (is_space b) (λ q. let z : suc (front is_space (s ++ t)) ≡ 0 = rw q at e in absurd (omega arith)) (λ q. rw q)

pub trims : (s : List ℕ) → Trims s (trimmed s)
unfolding trimmed
trims s =
    let u = skipped s in
    let n = front is_space (reverse u) in
    record {
      before = front is_space s;
      after = n;
      parts = spaces_before s ∙ ap (λ (l : List ℕ). replicate (front is_space s) 32 ++ l) (spaces_after u);
      begins_with_none = none_in_a_part (skipped_back u) (replicate n 32) (ap (front is_space) (sym (spaces_after u)) ∙ none_in_front s);
      ends_with_none = ap (front is_space) (reverse-reverse (skipped (reverse u))) ∙ none_in_front (reverse u);
    }
