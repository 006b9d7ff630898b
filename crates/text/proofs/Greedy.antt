-- Lines that take as many words as fit: they are lines of the text, they fit where the words do, each takes as many words as fit, and no other lines
-- that fit are fewer. Assumes nothing.
use mathlib.Core.Path.{◌≡◌, refl, sym, ap, ◌∙◌}
use mathlib.Core.Bool.{Bool, true, false, cond}
use mathlib.Core.Logic.{◌⊎◌, inl, inr, ⊎_elim}
use mathlib.Core.List.{List, [], ◌∷◌, ◌++◌, append-nil}
use Prim.Native.Nat.{ℕ, suc, ◌+◌, ◌-◌, ◌≤◌, ◌<◌, max}
use native.Mathlib.Omega.{arith}
use borrow.Author.Tests.{eqb-true, eq-eqb}
use lib.Dec.{eqb}
use lib.ListN.{length}
use Rattle.arithmetic.proofs.BoolLaws.{pick_of}
use Rattle.text.specs.Lines.{Lines, first_of, more_of, count_of, behind, text_of, width_of, widest_in, widest, cut, onto, words_of, word_of, breaks, greedy_from, greedy, FullIn, Full}
use Rattle.text.specs.Lines.Lines.{lines}
use Rattle.text.proofs.Breaks.{at_space, over_full, room}

module _ (adv : ℕ → ℕ) where
  -- the first word is no wider than the line that it begins
  word_width : (l t : List ℕ) → word_of t ≡ [] → width_of adv (word_of (l ++ t)) ≤ width_of adv l
  unfolding word_of width_of
  word_width [] t h = rw h (omega arith)
  word_width (c ∷ l) t h =
      let r = word_width l t h in
      pick_of (λ (x : List ℕ). width_of adv x ≤ adv c + width_of adv l) (eqb c 32) {x = []} {y = c ∷ word_of (l ++ t)} (λ _. omega arith) (λ _. omega arith)

  behind_word : (ls : List (List ℕ)) → word_of (behind ls) ≡ []
  unfolding word_of behind
  behind_word [] = refl
  behind_word (m ∷ ms) = refl

  cut_count : (b : Lines) → count_of (cut b) ≡ suc (count_of b)
  unfolding count_of
  cut_count (lines l ls) = refl

  onto_count : (c : ℕ) (b : Lines) → count_of (onto c b) ≡ count_of b
  unfolding count_of
  onto_count c (lines l ls) = refl

  -- Greedy stays ahead. Lines of width w stand at v where the greedy ones stand at u: as many lines are behind both and u ≤ v, or greedy is
  -- d lines ahead. With t to come after this line, k lines at most are greedy's from its start.
  abbrev Ahead : ℕ → ℕ → List ℕ → List ℕ → Type 0
  Ahead w k l t = (u v d : ℕ) → (u ≤ v) ⊎ (0 < d) → v + width_of adv l ≤ w → count_of (greedy_from adv w u (l ++ t)) ≤ d + k

  along : (w k : ℕ) (l t : List ℕ) → word_of t ≡ [] → Ahead w k [] t → Ahead w k l t
  unfolding greedy_from width_of
  along w k [] t n h u v d o f = h u v d o f
  along w k (c ∷ l) t n h u v d o f =
      pick_of (λ (b : Lines). count_of b ≤ d + k) (breaks adv w u c (l ++ t)) {x = cut (greedy_from adv w 0 (l ++ t))} {y = onto c (greedy_from adv w (u + adv c) (l ++ t))}
      (λ e. let s : 0 < d = ⊎_elim (λ q. absurd (omega (arith, over_full adv w u c (l ++ t) e, word_width l t n))) (λ q. q) o in
      let r = along w k l t n h 0 (v + adv c) (d - 1) (inl (omega arith)) (omega arith) in
      omega (arith, cut_count (greedy_from adv w 0 (l ++ t))))
      (λ e. let p : (u + adv c ≤ v + adv c) ⊎ (0 < d) = ⊎_elim (λ q. inl (omega arith)) (λ q. inr q) o in
      let r = along w k l t n h (u + adv c) (v + adv c) d p (omega arith) in
      omega (arith, onto_count c (greedy_from adv w (u + adv c) (l ++ t))))

  after : (w : ℕ) (ls : List (List ℕ)) → widest_in adv ls ≤ w → Ahead w (suc (length ls)) [] (behind ls)
  unfolding greedy_from width_of behind widest_in count_of
  after w [] h u v d o f = omega arith
  after w (m ∷ ms) h u v d o f =
      let a : Ahead w (suc (length ms)) m (behind ms) = along w (suc (length ms)) m (behind ms) (behind_word ms) (after w ms (omega arith)) in
      pick_of (λ (b : Lines). count_of b ≤ d + suc (suc (length ms))) (breaks adv w u 32 (m ++ behind ms)) {x = cut (greedy_from adv w 0 (m ++ behind ms))} {y = onto 32 (greedy_from adv w (u + adv 32) (m ++ behind ms))}
      (λ e. let r = a 0 0 d (inl (omega arith)) (omega arith) in omega (arith, cut_count (greedy_from adv w 0 (m ++ behind ms))))
      (λ e. let r = a (u + adv 32) 0 (d + 1) (inr (omega arith)) (omega arith) in omega (arith, onto_count 32 (greedy_from adv w (u + adv 32) (m ++ behind ms))))

  -- No choice of breaks whose lines all fit has fewer lines.
  pub fewest : (w : ℕ) (b : Lines) → widest adv b ≤ w → count_of (greedy adv w (text_of b)) ≤ count_of b
  unfolding text_of widest widest_in count_of
  fewest w (lines l ls) h =
      let r = along w (suc (length ls)) l (behind ls) (behind_word ls) (after w ls (omega arith)) 0 0 0 (inl (omega arith)) (omega arith) in
      omega arith

  -- Greedy lines are lines of the text.
  cut_text : (b : Lines) → text_of (cut b) ≡ 32 ∷ text_of b
  unfolding text_of behind
  cut_text (lines l ls) = refl

  onto_text : (c : ℕ) (b : Lines) → text_of (onto c b) ≡ c ∷ text_of b
  unfolding text_of
  onto_text c (lines l ls) = refl

  pub whole : (w u : ℕ) (cs : List ℕ) → text_of (greedy_from adv w u cs) ≡ cs
  unfolding greedy_from
  whole w u [] = unfold text_of behind in refl
  whole w u (c ∷ cs) =
      let p = whole w 0 cs in
      let q = whole w (u + adv c) cs in
      pick_of (λ (b : Lines). text_of b ≡ c ∷ cs) (breaks adv w u c cs) {x = cut (greedy_from adv w 0 cs)} {y = onto c (greedy_from adv w (u + adv c) cs)}
      (λ e. cut_text (greedy_from adv w 0 cs) ∙ cc (at_space adv w u c cs e))
      (λ e. onto_text c (greedy_from adv w (u + adv c) cs) ∙ ap (λ (l : List ℕ). c ∷ l) q)

  -- So are the words, none of which holds a space.
  pub words_whole : (cs : List ℕ) → text_of (words_of cs) ≡ cs
  unfolding words_of
  words_whole [] = unfold text_of behind in refl
  words_whole (c ∷ cs) =
      let q = words_whole cs in
      pick_of (λ (b : Lines). text_of b ≡ c ∷ cs) (eqb c 32) {x = cut (words_of cs)} {y = onto c (words_of cs)}
      (λ e. cut_text (words_of cs) ∙ cc (eqb-true c 32 e))
      (λ e. onto_text c (words_of cs) ∙ ap (λ (l : List ℕ). c ∷ l) q)

  -- the first word
  word_first : (cs : List ℕ) → first_of (words_of cs) ≡ word_of cs
  unfolding words_of word_of
  word_first [] = refl
  word_first (c ∷ cs) = go (words_of cs) (eqb c 32) (word_first cs)
    where
      go : (b : Lines) (t : Bool) → first_of b ≡ word_of cs → first_of (cond t (cut b) (onto c b)) ≡ cond t [] (c ∷ word_of cs)
      go (lines l ls) true e = refl
      go (lines l ls) false e = ap (λ (x : List ℕ). c ∷ x) e

  -- All lines fit, where every word does.
  abbrev Fits : ℕ → ℕ → Lines → Type 0
  Fits w u b = (u + width_of adv (first_of b) ≤ w) × (widest_in adv (more_of b) ≤ w)

  first_fits : (w : ℕ) (b : Lines) → widest adv b ≤ w → width_of adv (first_of b) ≤ w
  unfolding widest widest_in
  first_fits w (lines l ls) h = omega arith

  cut_fits : (w u : ℕ) (b : Lines) → u ≤ w → Fits w 0 b → Fits w u (cut b)
  unfolding widest_in width_of
  cut_fits w u (lines l ls) h f = (omega arith, omega arith)

  onto_fits : (w u c : ℕ) (b : Lines) → Fits w (u + adv c) b → Fits w u (onto c b)
  unfolding width_of
  onto_fits w u c (lines l ls) f = (omega arith, f.1)

  rest_fits : (w c : ℕ) (b : Lines) (t : Bool) → widest adv (cond t (cut b) (onto c b)) ≤ w → widest adv b ≤ w
  unfolding widest widest_in width_of
  rest_fits w c (lines l ls) true h = omega arith
  rest_fits w c (lines l ls) false h = omega arith

  fits_from : (w u : ℕ) (cs : List ℕ) → u + width_of adv (word_of cs) ≤ w → widest adv (words_of cs) ≤ w → Fits w u (greedy_from adv w u cs)
  unfolding greedy_from words_of
  fits_from w u [] h k = unfold widest_in width_of word_of in (omega arith, omega arith)
  fits_from w u (c ∷ cs) h k =
      let r = rest_fits w c (words_of cs) (eqb c 32) k in
      let f : width_of adv (word_of cs) ≤ w = rw (word_first cs) at (first_fits w (words_of cs) r) in
      pick_of (Fits w u) (breaks adv w u c cs) {x = cut (greedy_from adv w 0 cs)} {y = onto c (greedy_from adv w (u + adv c) cs)}
      (λ e. cut_fits w u (greedy_from adv w 0 cs) (omega arith) (fits_from w 0 cs (omega arith) r))
      (λ e. onto_fits w u c (greedy_from adv w (u + adv c) cs) (fits_from w (u + adv c) cs (room adv w u c cs (eqb c 32) refl e h) r))

  both : (w : ℕ) (b : Lines) → Fits w 0 b → widest adv b ≤ w
  unfolding widest widest_in
  both w (lines l ls) f = omega arith

  pub fit : (w : ℕ) (cs : List ℕ) → widest adv (words_of cs) ≤ w → widest adv (greedy adv w cs) ≤ w
  fit w cs h =
      let f : width_of adv (word_of cs) ≤ w = rw (word_first cs) at (first_fits w (words_of cs) h) in
      both w (greedy adv w cs) (fits_from w 0 cs (omega arith) h)

  -- Each line takes as many words as fit.
  word_kept : (w u : ℕ) (cs : List ℕ) → word_of (first_of (greedy_from adv w u cs)) ≡ word_of cs
  unfolding greedy_from word_of
  word_kept w u [] = refl
  word_kept w u (c ∷ cs) =
      pick_of (λ (b : Lines). word_of (first_of b) ≡ word_of (c ∷ cs)) (breaks adv w u c cs) {x = cut (greedy_from adv w 0 cs)} {y = onto c (greedy_from adv w (u + adv c) cs)}
      (λ e. none (greedy_from adv w 0 cs) (eq-eqb c 32 (at_space adv w u c cs e)))
      (λ e. one (greedy_from adv w (u + adv c) cs) (word_kept w (u + adv c) cs))
    where
      none : (b : Lines) → eqb c 32 ≡ true → word_of (first_of (cut b)) ≡ word_of (c ∷ cs)
      none (lines l ls) e = rw e

      one : (b : Lines) → word_of (first_of b) ≡ word_of cs → word_of (first_of (onto c b)) ≡ word_of (c ∷ cs)
      one (lines l ls) e = rw e

  abbrev FullFrom : ℕ → ℕ → List ℕ → List (List ℕ) → Type 0
  FullFrom w u l [] = Unit
  FullFrom w u l (m ∷ ms) = (w < u + width_of adv (l ++ 32 ∷ word_of m)) × FullIn adv w m ms

  abbrev FullAt : ℕ → ℕ → Lines → Type 0
  FullAt w u b = FullFrom w u (first_of b) (more_of b)

  from_none : (w : ℕ) (l : List ℕ) (ls : List (List ℕ)) → FullFrom w 0 l ls → FullIn adv w l ls
  unfolding FullIn
  from_none w l [] f = f
  from_none w l (m ∷ ms) f = (omega arith, f.1)

  cut_full : (w u : ℕ) (b : Lines) → w < u + adv 32 + width_of adv (word_of (first_of b)) → FullAt w 0 b → FullAt w u (cut b)
  unfolding width_of
  cut_full w u (lines l ls) h f = (omega arith, from_none w l ls f)

  longer : (w u c : ℕ) (l : List ℕ) (ls : List (List ℕ)) → FullFrom w (u + adv c) l ls → FullFrom w u (c ∷ l) ls
  unfolding width_of
  longer w u c l [] f = f
  longer w u c l (m ∷ ms) f = (omega arith, f.1)

  onto_full : (w u c : ℕ) (b : Lines) → FullAt w (u + adv c) b → FullAt w u (onto c b)
  onto_full w u c (lines l ls) f = longer w u c l ls f

  full_from : (w u : ℕ) (cs : List ℕ) → FullAt w u (greedy_from adv w u cs)
  unfolding greedy_from
  full_from w u [] = tt
  full_from w u (c ∷ cs) =
      pick_of (FullAt w u) (breaks adv w u c cs) {x = cut (greedy_from adv w 0 cs)} {y = onto c (greedy_from adv w (u + adv c) cs)}
      (λ e. let h : w < u + adv 32 + width_of adv (word_of cs) = rw (at_space adv w u c cs e) at (over_full adv w u c cs e) in
      cut_full w u (greedy_from adv w 0 cs) (rw (word_kept w 0 cs) h) (full_from w 0 cs))
      (λ e. onto_full w u c (greedy_from adv w (u + adv c) cs) (full_from w (u + adv c) cs))

  full_all : (w : ℕ) (b : Lines) → FullAt w 0 b → Full adv w b
  unfolding Full
  full_all w (lines l ls) f = from_none w l ls f

  pub full : (w : ℕ) (cs : List ℕ) → Full adv w (greedy adv w cs)
  full w cs = full_all w (greedy adv w cs) (full_from w 0 cs)

  -- A text that fits whole is one line, and so is the empty text.
  single : (b : Lines) (cs : List ℕ) → count_of b ≤ 1 → text_of b ≡ cs → b ≡ lines cs []
  unfolding count_of text_of behind
  single (lines l []) cs h e = ap (λ (x : List ℕ). lines x []) (sym (append-nil l) ∙ e)
  single (lines l (m ∷ ms)) cs h e = absurd (omega arith)

  pub one_line : (w : ℕ) (cs : List ℕ) → width_of adv cs ≤ w → greedy adv w cs ≡ lines cs []
  unfolding text_of behind widest widest_in count_of
  one_line w cs h =
      let f : count_of (greedy adv w (cs ++ [])) ≤ 1 = fewest w (lines cs []) (omega arith) in
      single (greedy adv w cs) cs (rw (append-nil cs) at f) (whole w 0 cs)

  pub no_text : (w : ℕ) → greedy adv w [] ≡ lines [] []
  unfolding greedy_from
  no_text w = refl

  -- A word lies inside a line, so that no lines of a text are narrower than its widest word. With l in front of t, whose words behind the first are
  -- at most m wide.
  abbrev Inside : ℕ → ℕ → Lines → Type 0
  Inside x m b = (width_of adv (first_of b) ≤ x) × (widest_in adv (more_of b) ≤ max x m)

  cut_inside : (x m c : ℕ) (b : Lines) → Inside x m b → Inside (adv c + x) m (cut b)
  unfolding width_of widest_in
  cut_inside x m c (lines l ls) h = (omega arith, omega arith)

  onto_inside : (x m c : ℕ) (b : Lines) → Inside x m b → Inside (adv c + x) m (onto c b)
  unfolding width_of
  onto_inside x m c (lines l ls) h = (omega arith, omega arith)

  words_along : (m : ℕ) (l t : List ℕ) → word_of t ≡ [] → widest_in adv (more_of (words_of t)) ≤ m → Inside (width_of adv l) m (words_of (l ++ t))
  unfolding words_of width_of
  words_along m [] t n h = (rw (word_first t, n) (omega arith), omega arith)
  words_along m (c ∷ l) t n h =
      let r = words_along m l t n h in
      pick_of (Inside (adv c + width_of adv l) m) (eqb c 32) {x = cut (words_of (l ++ t))} {y = onto c (words_of (l ++ t))}
      (λ _. cut_inside (width_of adv l) m c (words_of (l ++ t)) r)
      (λ _. onto_inside (width_of adv l) m c (words_of (l ++ t)) r)

  cut_more : (x m : ℕ) (b : Lines) → Inside x m b → widest_in adv (more_of (cut b)) ≤ max x m
  unfolding widest_in
  cut_more x m (lines l ls) h = omega arith

  words_behind : (ls : List (List ℕ)) → widest_in adv (more_of (words_of (behind ls))) ≤ widest_in adv ls
  unfolding behind words_of widest_in
  words_behind [] = omega arith
  words_behind (m ∷ ms) =
      cut_more (width_of adv m) (widest_in adv ms) (words_of (m ++ behind ms)) (words_along (widest_in adv ms) m (behind ms) (behind_word ms) (words_behind ms))

  inside_widest : (x m : ℕ) (b : Lines) → Inside x m b → widest adv b ≤ max x m
  unfolding widest widest_in
  inside_widest x m (lines l ls) h = omega arith

  pub words_inside : (b : Lines) → widest adv (words_of (text_of b)) ≤ widest adv b
  unfolding text_of
  words_inside (lines l ls) =
      unfold widest widest_in in
      inside_widest (width_of adv l) (widest_in adv ls) (words_of (l ++ behind ls)) (words_along (widest_in adv ls) l (behind ls) (behind_word ls) (words_behind ls))
