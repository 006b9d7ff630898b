-- What the code finds in the bytes is what the text has in characters, and so what it answers: each refusal by its test, and the count. Assumes
-- nothing.
use Rattle.std.specs.Prelude.{Err, Ok, Result}
use mathlib.Core.Path.{◌≡◌, refl, sym, ap, ◌∙◌}
use mathlib.Core.Bool.{true, false}
use mathlib.Core.List.{List}
use Prim.Native.Nat.{ℕ, suc, ◌≤◌, ◌<◌}
use native.Mathlib.Nat.{lt_of_not-le}
use native.Mathlib.Omega.{arith}
use borrow.Author.Tests.{le-ltb, lt-ltb}
use lib.Dec.{eqb}
use lib.ListN.{length, length-map}
use Rattle.arithmetic.specs.Tests.{over}
use Rattle.text.specs.Advance.{advance_of}
use Rattle.text.specs.Lines.{Lines, all_of, count_of, text_of, widest_in, widest, words_of, greedy_from}
use Rattle.text.specs.Lines.Lines.{lines}
use Rattle.text.specs.LineStarts.{in_bytes, starts_from, starts_of, lines_of, line_count_of, starts_kept}
use Rattle.text.specs.Reader.{is_utf8, scalars}
use Rattle.text.specs.Refusal.{answered, number_of, accepted, refused}
use Rattle.text.specs.Support.LineParts.{weight_of, lines_from}
use Rattle.text.specs.Utf8.{encoded_all}
use Rattle.text.specs.declared.refusal.Refusal.{Refusal}
use Rattle.text.specs.declared.refusal.Refusal.TheVariants.{IllFormed, Wide, Short}
use Rattle.text.proofs.Greedy.{whole, fit, words_inside}
use Rattle.text.proofs.LineBytes.{widest_bytes, greedy_bytes}
use Rattle.text.proofs.LineParts.{all_lines}
use Rattle.text.proofs.Sound.{read_writes}

pub count_in_bytes : (b : Lines) → length (all_of (in_bytes b)) ≡ count_of b
unfolding in_bytes count_of
count_in_bytes (lines l ls) = ap suc (length-map ls encoded_all)

-- all lines fit just where all words do
module _ (s : List ℕ) (w : ℕ) where
  pub lines_fit : widest advance_of (words_of (scalars s)) ≤ w → widest advance_of (lines_of s w) ≤ w
  unfolding lines_of
  lines_fit h = fit advance_of w (scalars s) h

  pub words_fit : (o : Lines) → text_of o ≡ scalars s → widest advance_of o ≤ w → widest advance_of (words_of (scalars s)) ≤ w
  words_fit o e h = omega (arith, words_inside advance_of o, ap (λ (t : List ℕ). widest advance_of (words_of t)) e)

  pub of_the_text : text_of (lines_of s w) ≡ scalars s
  unfolding lines_of
  of_the_text = whole advance_of w 0 (scalars s)

-- the lines of the bytes
module _ (s : List ℕ) (h : is_utf8 s ≡ true) (w : ℕ) where
  lines_found : lines_from w 0 s ≡ all_of (in_bytes (lines_of s w))
  unfolding lines_of
  lines_found = all_lines w s ∙ ap all_of (ap (greedy_from weight_of w 0) (sym (read_writes s h)) ∙ greedy_bytes w (scalars s) 0)

  count_found : length (lines_from w 0 s) ≡ count_of (lines_of s w)
  count_found = ap length lines_found ∙ count_in_bytes (lines_of s w)

  starts_found : starts_from 0 (lines_from w 0 s) ≡ starts_of (in_bytes (lines_of s w))
  unfolding starts_of
  starts_found = ap (starts_from 0) lines_found

  widest_found : widest_in weight_of (lines_from w 0 s) ≡ widest advance_of (lines_of s w)
  unfolding widest
  widest_found = ap (widest_in weight_of) lines_found ∙ widest_bytes (lines_of s w)

  wide_found : w < widest_in weight_of (lines_from w 0 s) → w < widest advance_of (words_of (scalars s))
  wide_found k = lt_of_not-le (λ (g : widest advance_of (words_of (scalars s)) ≤ w). omega (arith, lines_fit s w g, widest_found))

  fit_found : widest_in weight_of (lines_from w 0 s) ≤ w → widest advance_of (words_of (scalars s)) ≤ w
  fit_found k = words_fit s w (lines_of s w) (of_the_text s w) (omega (arith, widest_found))

-- the answers
abbrev Told : List ℕ → ℕ → List ℕ → Result ℕ Refusal → List ℕ → Type 0
Told s w old r new = (answered 0 r ≡ line_count_of s w (length old)) × (new ≡ starts_kept s w old)

module _ (s : List ℕ) (w : ℕ) (old : List ℕ) where
  unwritten : (word : Refusal) → eqb (number_of word) 0 ≡ false → line_count_of s w (length old) ≡ refused word 0 → Told s w old (Err word) old
  unfolding starts_kept
  unwritten word n e = (sym e, rw (e, n))

  pub ill_formed : is_utf8 s ≡ false → Told s w old (Err IllFormed) old
  unfolding line_count_of
  ill_formed h = unwritten IllFormed refl (rw h)

  module _ (h : is_utf8 s ≡ true) where
    pub too_long : 1024 < length s → Told s w old (Err Short) old
    unfolding line_count_of
    too_long k = unwritten Short refl (rw (h, lt-ltb 1024 (length s) k))

    module _ (k : length s ≤ 1024) where
      pub too_wide : w < widest_in weight_of (lines_from w 0 s) → Told s w old (Err Wide) old
      unfolding line_count_of
      too_wide f = unwritten Wide refl (rw (h, le-ltb 1024 (length s) k, lt-ltb w (widest advance_of (words_of (scalars s))) (wide_found s h w f)))

      module _ (f : widest_in weight_of (lines_from w 0 s) ≤ w) where
        pub too_small : length old < length (lines_from w 0 s) → Told s w old (Err Short) old
        unfolding line_count_of
        too_small j =
            let i : length old < count_of (lines_of s w) = omega (arith, count_found s h w) in
            unwritten Short refl
            (rw (h, le-ltb 1024 (length s) k, le-ltb w (widest advance_of (words_of (scalars s))) (fit_found s h w f), lt-ltb (length old) (count_of (lines_of s w)) i))

        module _ (j : length (lines_from w 0 s) ≤ length old) where
          counted : line_count_of s w (length old) ≡ accepted (count_of (lines_of s w))
          unfolding line_count_of
          counted =
              let i : count_of (lines_of s w) ≤ length old = omega (arith, count_found s h w) in
              rw (h, le-ltb 1024 (length s) k, le-ltb w (widest advance_of (words_of (scalars s))) (fit_found s h w f), le-ltb (length old) (count_of (lines_of s w)) i)

          pub served : Told s w old (Ok (length (lines_from w 0 s))) (over (starts_from 0 (lines_from w 0 s)) old)
          unfolding starts_kept
          served = (ap accepted (count_found s h w) ∙ sym counted, rw (counted, starts_found s h w))
