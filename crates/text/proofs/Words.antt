-- Over codes that hold no space: what stands behind them is broken as it is by itself, only later in its line. So lines go word by word. Assumes
-- nothing.
use mathlib.Core.Path.{◌≡◌, refl, sym, ap, ◌∙◌}
use mathlib.Core.Bool.{true, false}
use mathlib.Core.List.{List, [], ◌∷◌, ◌++◌, append-nil}
use Prim.Native.Nat.{ℕ, ◌+◌, ◌≤◌, ◌<◌}
use native.Mathlib.Omega.{arith}
use borrow.Author.Tests.{eqb-true, eqb-false, le-ltb, lt-ltb}
use lib.Dec.{eqb}
use lib.ListN.{length, drop}
use Rattle.arithmetic.specs.Tests.{δ, occ, all}
use Rattle.arithmetic.proofs.BoolLaws.{pick_of}
use Rattle.arithmetic.proofs.TestLaws.{bool_cases, δ-same, δ-other}
use Rattle.text.specs.Lines.{Lines, first_of, all_of, cut, onto, width_of, words_of, word_of, breaks, greedy_from, greedy}
use Rattle.text.specs.Lines.Lines.{lines}

abbrev pub Spaceless : List ℕ → Type 0
Spaceless [] = Unit
Spaceless (c ∷ cs) = (eqb c 32 ≡ false) × Spaceless cs

pub spaceless : (cs : List ℕ) → occ 32 cs ≡ 0 → Spaceless cs
spaceless [] h = tt
spaceless (c ∷ cs) h =
    bool_cases (eqb c 32)
    (λ e. absurd (omega (arith, δ-same c 32 (eqb-true c 32 e))))
    (λ e. (e, spaceless cs (omega arith)))

-- the words hold no space
abbrev Plain : Lines → Type 0
Plain b = all (λ (m : List ℕ). eqb (occ 32 m) 0) (all_of b) ≡ true

plain_cut : (b : Lines) → Plain b → Plain (cut b)
plain_cut (lines l ls) h = h

plain_onto : (c : ℕ) (b : Lines) → eqb c 32 ≡ false → Plain b → Plain (onto c b)
plain_onto c (lines l ls) e h = let z : δ c 32 + occ 32 l ≡ occ 32 l = omega (arith, δ-other c 32 (eqb-false c 32 e)) in rw z h

pub words_plain : (cs : List ℕ) → all (λ (m : List ℕ). eqb (occ 32 m) 0) (all_of (words_of cs)) ≡ true
unfolding words_of
words_plain [] = refl
words_plain (c ∷ cs) =
    pick_of Plain (eqb c 32) {x = cut (words_of cs)} {y = onto c (words_of cs)}
    (λ _. plain_cut (words_of cs) (words_plain cs)) (λ e. plain_onto c (words_of cs) e (words_plain cs))

-- codes in front of the first line
abbrev pub onto_all : List ℕ → Lines → Lines
onto_all e (lines l ls) = lines (e ++ l) ls

onto_all_lem : (c : ℕ) (e : List ℕ) (b : Lines) → onto c (onto_all e b) ≡ onto_all (c ∷ e) b
onto_all_lem c e (lines l ls) = refl

onto_nil : (b : Lines) → onto_all [] b ≡ b
onto_nil (lines l ls) = refl

onto_first : (e : List ℕ) (b : Lines) → first_of (onto_all e b) ≡ e ++ first_of b
onto_first e (lines l ls) = refl

pub word_run : (e s : List ℕ) → Spaceless e → word_of (e ++ s) ≡ e ++ word_of s
unfolding word_of
word_run [] s n = refl
word_run (b ∷ e) s n = rw (n.0, word_run e s n.1)

-- a word is such codes, and behind it stands a space or nothing
pub word_plain : (t : List ℕ) → Spaceless (word_of t)
unfolding word_of
word_plain [] = tt
word_plain (c ∷ t) = bool_cases (eqb c 32) (λ e. rw e tt) (λ e. rw e (e, word_plain t))

pub word_split : (t : List ℕ) → word_of t ++ drop (length (word_of t)) t ≡ t
unfolding word_of
word_split [] = refl
word_split (c ∷ t) = bool_cases (eqb c 32) (λ e. rw e) (λ e. rw e (ap (λ (l : List ℕ). c ∷ l) (word_split t)))

pub word_ends : (t : List ℕ) → word_of (drop (length (word_of t)) t) ≡ []
unfolding word_of
word_ends [] = refl
word_ends (c ∷ t) = bool_cases (eqb c 32) (λ e. rw e (rw e)) (λ e. rw e (word_ends t))

module _ (adv : ℕ → ℕ) where
  pub width_append : (l s : List ℕ) → width_of adv (l ++ s) ≡ width_of adv l + width_of adv s
  unfolding width_of
  width_append [] s = omega arith
  width_append (c ∷ l) s = let r = width_append l s in omega arith

  pub greedy_run : (w u : ℕ) (e s : List ℕ) → Spaceless e → greedy_from adv w u (e ++ s) ≡ onto_all e (greedy_from adv w (u + width_of adv e) s)
  unfolding greedy_from breaks width_of
  greedy_run w u [] s n =
      let z : u + 0 ≡ u = omega arith in
      rw z (sym (onto_nil (greedy_from adv w u s)))
  greedy_run w u (b ∷ e) s n =
      let z : u + (adv b + width_of adv e) ≡ u + adv b + width_of adv e = omega arith in
      rw (n.0, greedy_run w (u + adv b) e s n.1, z) (onto_all_lem b e (greedy_from adv w (u + adv b + width_of adv e) s))

  -- a text without a space is one line
  pub spaceless_one_line : (w : ℕ) (cs : List ℕ) → Spaceless cs → greedy adv w cs ≡ lines cs []
  spaceless_one_line w cs n =
      ap (greedy_from adv w 0) (sym (append-nil cs)) ∙ greedy_run w 0 cs [] n ∙ unfold greedy_from in ap (λ (l : List ℕ). lines l []) (append-nil cs)

  -- the first line, over its next word
  abbrev pub first : ℕ → ℕ → List ℕ → List ℕ
  first w u t = first_of (greedy_from adv w u t)

  pub first_over_word : (w u : ℕ) (t : List ℕ) → first w u t ≡ word_of t ++ first w (u + width_of adv (word_of t)) (drop (length (word_of t)) t)
  first_over_word w u t =
      ap (first w u) (sym (word_split t)) ∙ ap first_of (greedy_run w u (word_of t) (drop (length (word_of t)) t) (word_plain t))
      ∙ onto_first (word_of t) (greedy_from adv w (u + width_of adv (word_of t)) (drop (length (word_of t)) t))

  onto_one : (c : ℕ) (b : Lines) → first_of (onto c b) ≡ c ∷ first_of b
  onto_one c (lines l ls) = refl

  no_first : (b : Lines) → first_of (cut b) ≡ []
  no_first (lines l ls) = refl

  -- and at a space: it goes on where the next word fits, and else it ends
  pub first_goes_on : (w u : ℕ) (t : List ℕ) → u + adv 32 + width_of adv (word_of t) ≤ w → first w u (32 ∷ t) ≡ 32 ∷ first w (u + adv 32) t
  unfolding greedy_from breaks
  first_goes_on w u t h = rw (le-ltb w (u + adv 32 + width_of adv (word_of t)) h) (onto_one 32 (greedy_from adv w (u + adv 32) t))

  pub first_ends : (w u : ℕ) (t : List ℕ) → w < u + adv 32 + width_of adv (word_of t) → first w u (32 ∷ t) ≡ []
  unfolding greedy_from breaks
  first_ends w u t h = rw (lt-ltb w (u + adv 32 + width_of adv (word_of t)) h) (no_first (greedy_from adv w 0 t))
