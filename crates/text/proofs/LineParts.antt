-- The code's walks: a word a byte further, a line a word further, the lines a line further, and where each ends. Assumes nothing.
use mathlib.Core.Path.{◌≡◌, refl, sym, ap, ◌∙◌}
use mathlib.Core.Bool.{true, false, cond}
use mathlib.Core.List.{List, [], ◌∷◌, ◌++◌, append-nil}
use Prim.Native.Nat.{ℕ, zero, suc, ◌+◌, ◌-◌, ◌*◌, ◌≤◌, ◌<◌}
use native.Mathlib.Numerals.{add-one}
use native.Mathlib.Decide.{dec_le}
use native.Mathlib.Omega.{arith}
use borrow.Author.Tests.{eqb-true, ne_eqb, le-leb, lt-leb, leb-true}
use lib.Dec.{eqb, leb}
use lib.ListN.{length, get_or, drop, set, drop_of_length-le, length-drop, length-append}
use lib.Seq.{drop-cons, drop-drop}
use Rattle.arithmetic.specs.Tests.{all, over, within}
use Rattle.arithmetic.proofs.BoolLaws.{pick_of, and_left, and_right}
use Rattle.arithmetic.proofs.TestLaws.{bool_cases}
use Rattle.text.specs.Advance.{advances, advance_of}
use Rattle.text.specs.Lines.{Lines, first_of, more_of, all_of, width_of, word_of, cut, onto, breaks, greedy_from, greedy}
use Rattle.text.specs.Lines.Lines.{lines}
use Rattle.text.specs.LineStarts.{starts_from}
use Rattle.text.specs.Steps.{is_tail}
use Rattle.text.specs.Support.LineParts.{weight_of, Spans, lines_from}
use Rattle.text.specs.declared.lines.Part.{Part}
use Rattle.text.proofs.LineBytes.{low_weight}
use Rattle.text.proofs.Words.{first, word_split, word_ends, width_append, first_over_word, first_goes_on, first_ends}

-- no character is wider than 13 pixels
small_at : (l : List ℕ) (i : ℕ) → all (λ x. leb x 13) l ≡ true → get_or l i 0 ≤ 13
small_at [] i h = omega arith
small_at (x ∷ l) zero h = leb-true x 13 (and_left (leb x 13) (all (λ y. leb y 13) l) h)
small_at (x ∷ l) (suc i) h = small_at l i (and_right (leb x 13) (all (λ y. leb y 13) l) h)

all_small : all (λ x. leb x 13) advances ≡ true
unfolding advances
all_small = refl

pub advance_small : (c : ℕ) → advance_of c ≤ 13
unfolding advance_of
advance_small c = small_at advances (cond (within 32 126 c) c 63 - 32) all_small

weight_small : (b : ℕ) → weight_of b ≤ 13
unfolding weight_of
weight_small b = pick_of (λ (x : ℕ). x ≤ 13) (is_tail b) {x = 0} {y = advance_of b} (λ _. omega arith) (λ _. advance_small b)

pub width_small : (adv : ℕ → ℕ) → ((c : ℕ) → adv c ≤ 13) → (l : List ℕ) → width_of adv l ≤ 13 * length l
unfolding width_of
width_small adv h [] = omega arith
width_small adv h (c ∷ l) = omega (arith, h c, width_small adv h l)

-- a word
module _ (s : List ℕ) (i : ℕ) where
  pub word_goes_on : i < length s → (get_or s i 0 ≡ 32 → ⊥) → word_of (drop i s) ≡ get_or s i 0 ∷ word_of (drop (i + 1) s)
  unfolding word_of
  word_goes_on h n = rw (add-one, drop-cons s i 0, ne_eqb (get_or s i 0) 32 n)

  pub word_at_space : i < length s → get_or s i 0 ≡ 32 → word_of (drop i s) ≡ []
  unfolding word_of
  word_at_space h e = rw (drop-cons s i 0, e)

  pub word_at_end : length s ≤ i → word_of (drop i s) ≡ []
  unfolding word_of
  word_at_end h = rw (drop_of_length-le s h)

  -- where no word goes on, a space stands
  at_space : i < length s → word_of (drop i s) ≡ [] → drop i s ≡ 32 ∷ drop (i + 1) s
  unfolding word_of
  at_space h e =
      bool_cases (eqb (get_or s i 0) 32) (λ y. rw (add-one, drop-cons s i 0) (ap (λ (x : ℕ). x ∷ drop (suc i) s) (eqb-true (get_or s i 0) 32 y)))
      (λ n. absurd (none (drop (suc i) s) n (rw (drop-cons s i 0) at e)))
    where
      none : (t : List ℕ) → eqb (get_or s i 0) 32 ≡ false → word_of (get_or s i 0 ∷ t) ≡ [] → ⊥
      none t n q = let z : length (get_or s i 0 ∷ word_of t) ≡ 0 = ap length (rw n at q) in omega arith

-- a line, with u of it taken up to a place i where a space stands
module _ (w u i : ℕ) (s : List ℕ) (h : i < length s) (e : word_of (drop i s) ≡ []) where
  pub line_goes_on : u + advance_of 32 + width_of weight_of (word_of (drop (i + 1) s)) ≤ w
      → first weight_of w u (drop i s)
      ≡ 32 ∷ (word_of (drop (i + 1) s) ++ first weight_of w (u + advance_of 32 + width_of weight_of (word_of (drop (i + 1) s))) (drop (i + 1 + length (word_of (drop (i + 1) s))) s))
  line_goes_on f =
      let a : weight_of 32 ≡ advance_of 32 = low_weight 32 (omega arith) in
      let d : List ℕ = drop (i + 1) s in
      ap (first weight_of w u) (at_space s i h e)
      ∙ first_goes_on weight_of w u d (rw a f)
      ∙ ap (λ (x : ℕ). 32 ∷ first weight_of w (u + x) d) a
      ∙ ap (λ (l : List ℕ). 32 ∷ l) (first_over_word weight_of w (u + advance_of 32) d)
      ∙ ap (λ (l : List ℕ). 32 ∷ (word_of d ++ first weight_of w (u + advance_of 32 + width_of weight_of (word_of d)) l)) (drop-drop (length (word_of d)) (i + 1) s)

  pub line_ends : w < u + advance_of 32 + width_of weight_of (word_of (drop (i + 1) s)) → first weight_of w u (drop i s) ≡ []
  line_ends f =
      let a : weight_of 32 ≡ advance_of 32 = low_weight 32 (omega arith) in
      ap (first weight_of w u) (at_space s i h e) ∙ first_ends weight_of w u (drop (i + 1) s) (rw a f)

pub line_at_end : (w u i : ℕ) (s : List ℕ) → length s ≤ i → first weight_of w u (drop i s) ≡ []
unfolding greedy_from
line_at_end w u i s h = rw (drop_of_length-le s h)

-- lines one at a time: where the first ends, and that the later ones are the lines of what is left
module _ (adv : ℕ → ℕ) (w : ℕ) where
  abbrev LaterIn : List ℕ → List ℕ → List (List ℕ) → Type 0
  LaterIn cs l [] = length l ≡ length cs
  LaterIn cs l (m ∷ ms) = (length l < length cs) × (greedy_from adv w 0 (drop (suc (length l)) cs) ≡ lines m ms)

  abbrev Later : List ℕ → Lines → Type 0
  Later cs b = LaterIn cs (first_of b) (more_of b)

  later_cut : (c : ℕ) (cs : List ℕ) (b : Lines) → greedy_from adv w 0 cs ≡ b → Later (c ∷ cs) (cut b)
  later_cut c cs (lines l ls) e = (omega arith, e)

  later_on : (c : ℕ) (cs l : List ℕ) (ls : List (List ℕ)) → LaterIn cs l ls → LaterIn (c ∷ cs) (c ∷ l) ls
  later_on c cs l [] h = ap suc h
  later_on c cs l (m ∷ ms) h = (omega arith, h.1)

  later_onto : (c : ℕ) (cs : List ℕ) (b : Lines) → Later cs b → Later (c ∷ cs) (onto c b)
  later_onto c cs (lines l ls) h = later_on c cs l ls h

  later : (u : ℕ) (cs : List ℕ) → Later cs (greedy_from adv w u cs)
  unfolding greedy_from
  later u [] = refl
  later u (c ∷ cs) =
      pick_of (Later (c ∷ cs)) (breaks adv w u c cs) {x = cut (greedy_from adv w 0 cs)} {y = onto c (greedy_from adv w (u + adv c) cs)}
      (λ e. later_cut c cs (greedy_from adv w 0 cs) refl)
      (λ e. later_onto c cs (greedy_from adv w (u + adv c) cs) (later (u + adv c) cs))

  first_not_longer : (cs l : List ℕ) (ls : List (List ℕ)) → LaterIn cs l ls → length l ≤ length cs
  first_not_longer cs l [] h = omega arith
  first_not_longer cs l (m ∷ ms) h = omega arith

  pub first_inside : (u : ℕ) (cs : List ℕ) → length (first adv w u cs) ≤ length cs
  first_inside u cs = first_not_longer cs (first_of (greedy_from adv w u cs)) (more_of (greedy_from adv w u cs)) (later u cs)

pub no_lines : (w n : ℕ) (s : List ℕ) → length s < n → lines_from w n s ≡ []
unfolding lines_from
no_lines w n s h = rw (lt-leb n (length s) h)

-- where lines are left, the place is inside
pub lines_left : (w n : ℕ) (s : List ℕ) → 0 < length (lines_from w n s) → n ≤ length s
lines_left w n s h = go (dec_le n (length s))
  where
    go : Dec (n ≤ length s) → n ≤ length s
    go (yes p) = p
    go (no p) = absurd (omega (arith, ap length (no_lines w n s (omega arith))))

some_lines : (w n : ℕ) (s : List ℕ) (b : Lines) → n ≤ length s → greedy weight_of w (drop n s) ≡ b → lines_from w n s ≡ all_of b
unfolding lines_from
some_lines w n s b h e = rw (le-leb n (length s) h, e)

module _ (w n : ℕ) (s : List ℕ) (h : n ≤ length s) where
  rest_of : (l : List ℕ) (ls : List (List ℕ)) → LaterIn weight_of w (drop n s) l ls → all_of (lines l ls) ≡ l ∷ lines_from w (n + length l + 1) s
  rest_of l [] e = rw (no_lines w (n + length l + 1) s (omega (arith, length-drop n s)))
  rest_of l (m ∷ ms) e =
      let z : n + suc (length l) ≡ n + length l + 1 = omega arith in
      let d : drop (suc (length l)) (drop n s) ≡ drop (n + length l + 1) s = drop-drop (suc (length l)) n s ∙ ap (λ (k : ℕ). drop k s) z in
      let g : greedy weight_of w (drop (n + length l + 1) s) ≡ lines m ms = rw d at e.1 in
      rw (some_lines w (n + length l + 1) s (lines m ms) (omega (arith, length-drop n s)) g)

  rest_of_lines : (b : Lines) → Later weight_of w (drop n s) b → all_of b ≡ first_of b ∷ lines_from w (n + length (first_of b) + 1) s
  rest_of_lines (lines l ls) e = rest_of l ls e

  pub one_line_more : lines_from w n s ≡ first weight_of w 0 (drop n s) ∷ lines_from w (n + length (first weight_of w 0 (drop n s)) + 1) s
  one_line_more = some_lines w n s (greedy weight_of w (drop n s)) h refl ∙ rest_of_lines (greedy weight_of w (drop n s)) (later weight_of w 0 (drop n s))

pub all_lines : (w : ℕ) (s : List ℕ) → lines_from w 0 s ≡ all_of (greedy weight_of w s)
all_lines w s = some_lines w 0 s (greedy weight_of w s) (omega arith) refl

-- a word, of which a walk that began at `from` has come to i, with `width` behind it
pub record WordTo (s : List ℕ) (from width i : ℕ) : Type 0 where
  pub ends : i + length (word_of (drop i s)) ≡ from + length (word_of (drop from s))
  pub wide : width + width_of weight_of (word_of (drop i s)) ≡ width_of weight_of (word_of (drop from s))
  pub inside : i ≤ length s

word_not_longer : (t : List ℕ) → length (word_of t) ≤ length t
word_not_longer t = omega (arith, ap length (word_split t), length-append (word_of t) (drop (length (word_of t)) t))

module _ (s : List ℕ) (from width i : ℕ) (t : WordTo s from width i) where
  pub word_small : length s ≤ 1024 → width ≤ 13 * 1024
  word_small f = omega (arith, width_small weight_of weight_small (word_of (drop from s)), word_not_longer (drop from s), length-drop from s)

  pub word_step : i < length s → (get_or s i 0 ≡ 32 → ⊥) → WordTo s from (width + weight_of (get_or s i 0)) (i + 1)
  unfolding width_of
  word_step h n =
      let e : word_of (drop i s) ≡ get_or s i 0 ∷ word_of (drop (i + 1) s) = word_goes_on s i h n in
      record { ends = omega (arith, ap length e); wide = omega (arith, ap (width_of weight_of) e); inside = omega arith }

  pub word_stop : word_of (drop i s) ≡ [] → length s ≤ 1024 → Spans s from (word_of (drop from s)) (record { end = i; width = width })
  unfolding width_of
  word_stop e f = record {
    ends = omega (arith, ap length e);
    wide = omega (arith, ap (width_of weight_of) e);
    inside = t.inside;
    small = word_small f;
  }

-- a line, taken up to the part p, behind which stands a space or nothing
pub record LineTo (w : ℕ) (s : List ℕ) (from : ℕ) (p : Part) : Type 0 where
  pub ends : p.end + length (first weight_of w p.width (drop p.end s)) ≡ from + length (first weight_of w 0 (drop from s))
  pub wide : p.width + width_of weight_of (first weight_of w p.width (drop p.end s)) ≡ width_of weight_of (first weight_of w 0 (drop from s))
  pub inside : p.end ≤ length s
  pub parted : word_of (drop p.end s) ≡ []

pub line_start : (w : ℕ) (s : List ℕ) (from : ℕ) (p : Part) → Spans s from (word_of (drop from s)) p → LineTo w s from p
line_start w s from p h =
    let t : List ℕ = drop from s in
    let d : drop (length (word_of t)) t ≡ drop p.end s = drop-drop (length (word_of t)) from s ∙ ap (λ (n : ℕ). drop n s) (sym h.ends) in
    let u : 0 + width_of weight_of (word_of t) ≡ p.width = omega (arith, h.wide) in
    let e : first weight_of w 0 t ≡ word_of t ++ first weight_of w p.width (drop p.end s) =
    first_over_word weight_of w 0 t ∙ ap (λ (x : ℕ). word_of t ++ first weight_of w x (drop (length (word_of t)) t)) u
    ∙ ap (λ (l : List ℕ). word_of t ++ first weight_of w p.width l) d in
    record {
      ends = omega (arith, h.ends, ap length e, length-append (word_of t) (first weight_of w p.width (drop p.end s)));
      wide = omega (arith, h.wide, ap (width_of weight_of) e, width_append weight_of (word_of t) (first weight_of w p.width (drop p.end s)));
      inside = h.inside;
      parted = sym (ap word_of d) ∙ word_ends t;
    }

module _ (w : ℕ) (s : List ℕ) (from : ℕ) (p : Part) (t : LineTo w s from p) where
  pub line_small : length s ≤ 1024 → p.width ≤ 13 * 1024
  line_small f =
      omega (arith, t.wide, width_small weight_of weight_small (first weight_of w 0 (drop from s)), first_inside weight_of w 0 (drop from s), length-drop from s)

  line_stop : first weight_of w p.width (drop p.end s) ≡ [] → length s ≤ 1024 → Spans s from (first weight_of w 0 (drop from s)) p
  unfolding width_of
  line_stop e f = record {
    ends = omega (arith, t.ends, ap length e);
    wide = omega (arith, t.wide, ap (width_of weight_of) e);
    inside = t.inside;
    small = line_small f;
  }

  pub line_done : length s ≤ p.end → length s ≤ 1024 → Spans s from (first weight_of w 0 (drop from s)) p
  line_done h f = line_stop (line_at_end w p.width p.end s h) f

  module _ (h : p.end < length s) (q : Part) (n : Spans s (p.end + 1) (word_of (drop (p.end + 1) s)) q) where
    pub line_full : w < p.width + advance_of 32 + q.width → length s ≤ 1024 → Spans s from (first weight_of w 0 (drop from s)) p
    line_full k f = line_stop (line_ends w p.width p.end s h t.parted (rw n.wide at k)) f

    pub line_step : p.width + advance_of 32 + q.width ≤ w → LineTo w s from (record { end = q.end; width = p.width + advance_of 32 + q.width })
    unfolding width_of
    line_step k =
        let d : List ℕ = drop (p.end + 1) s in
        let r : List ℕ = first weight_of w (p.width + advance_of 32 + q.width) (drop q.end s) in
        let e : first weight_of w p.width (drop p.end s) ≡ 32 ∷ (word_of d ++ r) =
        rw (n.wide, n.ends) (line_goes_on w p.width p.end s h t.parted (rw n.wide at k)) in
        record {
          ends = omega (arith, t.ends, n.ends, ap length e, length-append (word_of d) r);
          wide = omega (arith, t.wide, n.wide, ap (width_of weight_of) e, width_append weight_of (word_of d) r, low_weight 32 (omega arith));
          inside = n.inside;
          parted = rw n.ends (ap word_of (sym (drop-drop (length (word_of d)) (p.end + 1) s)) ∙ word_ends d);
        }

-- a list written over another from place n on
unfoldable pub over_at : ℕ → List ℕ → List ℕ → List ℕ
over_at zero r d = over r d
over_at (suc n) r [] = []
over_at (suc n) r (x ∷ d) = x ∷ over_at n r d

pub over_turn : (n a : ℕ) (r d : List ℕ) → n < length d → over_at (suc n) r (set d n a) ≡ over_at n (a ∷ r) d
unfolding over_at
over_turn n a r [] h = absurd (omega arith)
over_turn zero a r (x ∷ d) h = refl
over_turn (suc n) a r (x ∷ d) h = ap (λ (l : List ℕ). x ∷ l) (over_turn n a r d (omega arith))

over_done : (n : ℕ) (d : List ℕ) → over_at n [] d ≡ d
unfolding over_at
over_done zero d = refl
over_done (suc n) [] = refl
over_done (suc n) (x ∷ d) = ap (λ (l : List ℕ). x ∷ l) (over_done n d)

-- a list written over one as long is that list
pub over_whole : (r d : List ℕ) → length r ≡ length d → over_at 0 r d ≡ r
unfolding over_at
over_whole r d h = rw (drop_of_length-le d {i = length r} (omega arith), append-nil r)

-- each line has a start
pub starts_length : (ls : List (List ℕ)) (n : ℕ) → length (starts_from n ls) ≡ length ls
unfolding starts_from
starts_length [] n = refl
starts_length (m ∷ ms) n = ap suc (starts_length ms _)

pub over_nothing : (n : ℕ) (d r : List ℕ) → length r ≡ 0 → over_at n r d ≡ d
over_nothing n d [] h = over_done n d
over_nothing n d (x ∷ r) h = absurd (omega arith)
