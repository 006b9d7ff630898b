-- Wish 4 of document 02, of the call's own answer. That no choice makes fewer lines is `fewest`, by which the lines that take what fits stay ahead.
-- Assumes nothing.
use mathlib.Core.Path.{◌≡◌, refl, sym, ap, ◌∙◌, subst}
use mathlib.Core.Bool.{Bool, true, false, cond, not}
use mathlib.Core.List.{List, [], ◌∷◌, ◌++◌, map, append_assoc}
use Prim.Native.Nat.{ℕ, zero, suc, ◌+◌, ◌-◌, ◌*◌, ◌^◌, ◌≤◌, ◌<◌, min}
use native.Mathlib.Nat.{le_trans, lt_of_not-le}
use native.Mathlib.Omega.{arith}
use borrow.Author.Tests.{ltb-true, ltb-false, le-ltb, lt-ltb, ne_eqb}
use lib.Dec.{ltb}
use lib.ListN.{length, get_or, drop, length-append, get_or-append}
use lib.Seq.{drop-append_seam, get_or-append-add, get_or-drop}
use Rattle.arithmetic.specs.Tests.{over}
use Rattle.text.specs.Advance.{advance_of, stop_sum, measure_of}
use Rattle.text.specs.Lines.{Lines, all_of, behind, text_of, count_of, width_of, widest, words_of, greedy_from, greedy}
use Rattle.text.specs.Lines.Lines.{lines}
use Rattle.text.specs.LineStarts.{in_bytes, starts_from, starts_of, lines_of, line_count_of, starts_kept}
use Rattle.text.specs.LineLaws.{line_onward, from_line, AsAsked, NothingFits, LabelsInLines}
use Rattle.text.specs.Reader.{is_utf8, scalars_from, scalars}
use Rattle.text.specs.Refusal.{Answer, accepted, refused}
use Rattle.text.specs.Utf8.{encoded_all}
use Rattle.text.specs.declared.refusal.Refusal.TheVariants.{IllFormed, Wide, Short}
use Rattle.text.proofs.Complete.{written_well, written_reads}
use Rattle.text.proofs.Greedy.{full, fewest, one_line, words_whole}
use Rattle.text.proofs.LineBytes.{text_bytes}
use Rattle.text.proofs.LineRows.{the_rows_hold}
use Rattle.text.proofs.LineParts.{advance_small, width_small, starts_length}
use Rattle.text.proofs.LineStarts.{count_in_bytes, lines_fit, words_fit, of_the_text}
use Rattle.text.proofs.Sound.{read_writes}
use Rattle.text.proofs.Words.{spaceless, spaceless_one_line, words_plain}

-- the answer by its four tests
abbrev by_tests : Bool → Bool → Bool → Bool → ℕ → Answer ℕ
by_tests a b c d m = cond (not a) (refused IllFormed 0) (cond b (refused Short 0) (cond c (refused Wide 0) (cond d (refused Short 0) (accepted m))))

passed : (a b c d : Bool) (m n : ℕ) → by_tests a b c d m ≡ accepted n → (a ≡ true) × (c ≡ false) × (m ≡ n)
passed false b c d m n h = absurd (omega (arith, ap (λ (x : Answer ℕ). x.number) h))
passed true true c d m n h = absurd (omega (arith, ap (λ (x : Answer ℕ). x.number) h))
passed true false true d m n h = absurd (omega (arith, ap (λ (x : Answer ℕ). x.number) h))
passed true false false true m n h = absurd (omega (arith, ap (λ (x : Answer ℕ). x.number) h))
passed true false false false m n h = (refl, refl, ap (λ (x : Answer ℕ). x.value) h)

wide_test : (a b c d : Bool) (m : ℕ) → (by_tests a b c d m).number ≡ 12 → c ≡ true
wide_test false b c d m h = absurd (omega arith)
wide_test true true c d m h = absurd (omega arith)
wide_test true false true d m h = refl
wide_test true false false true m h = absurd (omega arith)
wide_test true false false false m h = absurd (omega arith)

-- where line k is said to start, it and those behind it stand
start_at : (k : ℕ) (s l : List ℕ) (ls : List (List ℕ)) → k ≤ length ls
    → drop (get_or (starts_from (length s) (l ∷ ls)) k 0) (s ++ (l ++ behind ls)) ≡ text_of (line_onward k l ls)
unfolding starts_from behind text_of line_onward
start_at zero s l ls h = drop-append_seam s (l ++ behind ls)
start_at (suc k) s l [] h = absurd (omega arith)
start_at (suc k) s l (m ∷ ms) h =
    let p : List ℕ = s ++ (l ++ (32 ∷ [])) in
    let n : length s + length l + 1 ≡ length p = simp length-append (omega arith) in
    let e : s ++ (l ++ (32 ∷ (m ++ behind ms))) ≡ p ++ (m ++ behind ms) = simp append_assoc in
    ap (λ (x : ℕ). drop (get_or (starts_from x (m ∷ ms)) k 0) (s ++ (l ++ (32 ∷ (m ++ behind ms))))) n
    ∙ ap (λ (y : List ℕ). drop (get_or (starts_from (length p) (m ∷ ms)) k 0) y) e ∙ start_at k p m ms (omega arith)

-- and no line starts past the end
start_inside : (k : ℕ) (l : List ℕ) (ls : List (List ℕ)) (n : ℕ) → k ≤ length ls → get_or (starts_from n (l ∷ ls)) k 0 ≤ n + length (l ++ behind ls)
unfolding starts_from behind
start_inside zero l ls n h = omega arith
start_inside (suc k) l [] n h = absurd (omega arith)
start_inside (suc k) l (m ∷ ms) n h = le_trans (start_inside k m ms _ (omega arith)) (omega (arith, length-append l (32 ∷ (m ++ behind ms))))

start : (k : ℕ) (b : Lines) → k < count_of b → drop (get_or (starts_of b) k 0) (text_of b) ≡ text_of (from_line k b)
unfolding count_of starts_of from_line text_of
start k (lines l ls) h = start_at k [] l ls (omega arith)

inside : (k : ℕ) (b : Lines) → k < count_of b → get_or (starts_of b) k 0 ≤ length (text_of b)
unfolding count_of starts_of text_of
inside k (lines l ls) h = omega (arith, start_inside k l ls 0 (omega arith))

as_many_starts : (b : Lines) → length (starts_of b) ≡ count_of b
unfolding count_of starts_of
as_many_starts (lines l ls) = starts_length (l ∷ ls) 0

module _ (s : List ℕ) (w : ℕ) where
  as_asked : (room n : ℕ) → line_count_of s w room ≡ accepted n → AsAsked s w n (lines_of s w)
  unfolding line_count_of
  as_asked room n h =
      let p = passed (is_utf8 s) (ltb 1024 (length s)) (ltb w (widest advance_of (words_of (scalars s)))) (ltb room (count_of (lines_of s w))) (count_of (lines_of s w)) n h in
      record {
        counted = p.2;
        of_the_text = of_the_text s w;
        every_line_fits = lines_fit s w (ltb-false w (widest advance_of (words_of (scalars s))) p.1);
        each_takes_what_fits = unfold lines_of in full advance_of w (scalars s);
        no_choice_makes_fewer = λ o e k.
            subst (λ (x : ℕ). x ≤ count_of o) p.2 (unfold lines_of in subst (λ (x : List ℕ). count_of (greedy advance_of w x) ≤ count_of o) e (fewest advance_of w o k));
      }

  well_formed : (room n : ℕ) → line_count_of s w room ≡ accepted n → is_utf8 s ≡ true
  unfolding line_count_of
  well_formed room n h =
      (passed (is_utf8 s) (ltb 1024 (length s)) (ltb w (widest advance_of (words_of (scalars s)))) (ltb room (count_of (lines_of s w))) (count_of (lines_of s w)) n h).0

  -- the buffer of a call that is accepted
  module _ (n : ℕ) (buf : List ℕ) (h : line_count_of s w (length buf) ≡ accepted n) where
    written : starts_kept s w buf ≡ over (starts_of (in_bytes (lines_of s w))) buf
    unfolding starts_kept
    written = rw h

    count : length (starts_of (in_bytes (lines_of s w))) ≡ n
    unfolding starts_of
    count = starts_length (all_of (in_bytes (lines_of s w))) 0 ∙ count_in_bytes (lines_of s w) ∙ (as_asked (length buf) n h).counted

    module _ (k : ℕ) (q : k < n) where
      place : get_or (starts_kept s w buf) k 0 ≡ get_or (starts_of (in_bytes (lines_of s w))) k 0
      place =
          let b : Lines = in_bytes (lines_of s w) in
          ap (λ (l : List ℕ). get_or l k 0) written ∙ get_or-append (starts_of b) (drop (length (starts_of b)) buf) 0 k (omega (arith, count))

      of_the_bytes : text_of (in_bytes (lines_of s w)) ≡ s
      of_the_bytes = text_bytes (lines_of s w) ∙ ap encoded_all (of_the_text s w) ∙ read_writes s (well_formed (length buf) n h)

      among : k < count_of (in_bytes (lines_of s w))
      among = omega (arith, count, as_many_starts (in_bytes (lines_of s w)))

      each_place : drop (get_or (starts_kept s w buf) k 0) s ≡ text_of (from_line k (in_bytes (lines_of s w)))
      each_place = rw place (ap (λ (x : List ℕ). drop (get_or (starts_of (in_bytes (lines_of s w))) k 0) x) (sym of_the_bytes) ∙ start k (in_bytes (lines_of s w)) among)

      not_past_the_end : get_or (starts_kept s w buf) k 0 ≤ length s
      not_past_the_end = omega (arith, place, ap length of_the_bytes, inside k (in_bytes (lines_of s w)) among)

    further_places : (k : ℕ) → n ≤ k → get_or (starts_kept s w buf) k 0 ≡ get_or buf k 0
    further_places k q =
        let b : Lines = in_bytes (lines_of s w) in
        let j : ℕ = k - length (starts_of b) in
        let i : length (starts_of b) + j ≡ k = omega (arith, count) in
        ap (λ (l : List ℕ). get_or l k 0) written ∙ ap (λ (x : ℕ). get_or (over (starts_of b) buf) x 0) (sym i)
        ∙ get_or-append-add (starts_of b) (drop (length (starts_of b)) buf) j 0 ∙ get_or-drop (length (starts_of b)) buf j 0 ∙ ap (λ (x : ℕ). get_or buf x 0) i

  writes_nothing : (buf : List ℕ) → ((line_count_of s w (length buf)).number ≡ 0 → ⊥) → starts_kept s w buf ≡ buf
  unfolding starts_kept
  writes_nothing buf h = rw (ne_eqb (line_count_of s w (length buf)).number 0 h)

  -- 12 and what fits
  nothing_fits : (room : ℕ) → (line_count_of s w room).number ≡ 12 → NothingFits s w
  unfolding line_count_of
  nothing_fits room h o e f =
      let c = wide_test (is_utf8 s) (ltb 1024 (length s)) (ltb w (widest advance_of (words_of (scalars s)))) (ltb room (count_of (lines_of s w))) (count_of (lines_of s w)) h in
      omega (arith, words_fit s w o e f, ltb-true w (widest advance_of (words_of (scalars s))) c)

  is_wide : (room : ℕ) → is_utf8 s ≡ true → length s ≤ 1024 → NothingFits s w → (line_count_of s w room).number ≡ 12
  unfolding line_count_of
  is_wide room h k n =
      let g : w < widest advance_of (words_of (scalars s)) =
      lt_of_not-le (λ (f : widest advance_of (words_of (scalars s)) ≤ w). n (lines_of s w) (of_the_text s w) (lines_fit s w f)) in
      rw (h, le-ltb 1024 (length s) k, lt-ltb w (widest advance_of (words_of (scalars s))) g)

-- a sum that does not come near its stop
summed : (t : ℕ) (cs : List ℕ) → t + width_of advance_of cs < 2 ^ 31 → stop_sum t (map advance_of cs) ≡ t + width_of advance_of cs
unfolding stop_sum width_of
summed t [] h = omega arith
summed t (c ∷ cs) h =
    let m : min (t + advance_of c) (2 ^ 31 - 1) ≡ t + advance_of c = omega arith in
    ap (λ (x : ℕ). stop_sum x (map advance_of cs)) m ∙ summed (t + advance_of c) cs (omega arith) ∙ omega arith

no_stop : (cs : List ℕ) → length cs ≤ 1024 → (width_of advance_of cs ≤ 13 * 1024) × (stop_sum 0 (map advance_of cs) ≡ width_of advance_of cs)
no_stop cs h =
    let f = width_small advance_of advance_small cs in
    (omega arith, summed 0 cs (omega arith) ∙ omega arith)

pub labels_in_lines : LabelsInLines
labels_in_lines = record {
  the_lines_are_as_asked = as_asked;
  each_place_is_a_start = each_place;
  no_place_is_past_the_end = not_past_the_end;
  further_places_are_kept = further_places;
  a_refusal_writes_nothing = writes_nothing;
  the_words_are_of_the_text = words_whole advance_of;
  no_word_holds_a_space = words_plain;
  nothing_fits_what_is_wide = nothing_fits;
  wide_where_nothing_fits = is_wide;
  no_space_is_one_line = λ s w h. unfold lines_of in spaceless_one_line advance_of w (scalars s) (spaceless (scalars s) h);
  what_fits_is_one_line = λ s w h. unfold lines_of in one_line advance_of w (scalars s) h;
  no_text_is_one_line = λ w. unfold lines_of scalars scalars_from greedy_from in refl;
  no_sum_stops = no_stop;
  a_line_is_as_measured = λ cs h k. unfold measure_of in rw (written_well cs h, written_reads cs h, (no_stop cs k).1);
  the_rows_hold = the_rows_hold;
}
