-- Each edit of the bytes is the edit of the text, character by character. Assumes nothing.
use mathlib.Core.Path.{◌≡◌, refl, sym, ap, ap₂, subst, ◌∙◌}
use mathlib.Core.Bool.{true, cond}
use lib.Dec.{ltb}
use mathlib.Core.List.{List, [], ◌∷◌, ◌++◌, reverse, reverse_aux, reverse_aux-eq, reverse_aux-reverse_aux-nil}
use Prim.Native.Nat.{ℕ, ◌+◌, ◌-◌, ◌≤◌, ◌<◌}
use native.Mathlib.Omega.{arith}
use borrow.Author.Tests.{le-ltb, lt-ltb}
use lib.ListN.{length, take, drop, length-append, length-drop}
use lib.Seq.{length-take-le, take-take, drop-drop, take-append_seam, drop-append_seam}
use Rattle.text.specs.Utf8.{is_scalar, all_scalars, encoded, encoded_all}
use Rattle.text.specs.Steps.{back_of, step_back, step_forward}
use Rattle.arithmetic.proofs.BoolLaws.{and_left, and_right}
use Rattle.text.proofs.Texts.{scalars_part}
use Rattle.text.proofs.Shapes.{shape, step_back_is_one_character, step_forward_is_one_character}
use Rattle.field.specs.Text.{Text, text, bytes_of, caret_of, keyed}
use Rattle.field.specs.Fields.{held, moved, cut_out, put_in, step_back_of, step_forward_of, edited_in, with_text}
use Rattle.arithmetic.specs.Tests.{over}
use Rattle.field.specs.declared.Field.{Field}
use Rattle.field.specs.Marks.{takes, mark_after}
use Rattle.field.specs.declared.EditOp.{EditOp}
use Rattle.field.specs.declared.Mark.{Mark}
use Rattle.field.specs.declared.Mark.TheVariants.{Typed}
use Rattle.field.specs.declared.EditOp.TheVariants.{Backspace, Delete, Left, Right, Home, End}
use Rattle.field.proofs.Ranges.{length_in_range, caret_in_range}
use Rattle.field.proofs.Parts.{Parts, bytes_of_text, one_more_before, parts_are_held, caret_is_after_front, text_is_held, same_bytes_move_the_caret, own_text_is_kept}

pub last_is_scalar : (c : ℕ) (b : List ℕ) → all_scalars (reverse (c ∷ b)) ≡ true → is_scalar c ≡ true
unfolding all_scalars
last_is_scalar c b h =
    and_left (is_scalar c) true (scalars_part (reverse b) (c ∷ []) (subst (λ (l : List ℕ). all_scalars l ≡ true) (reverse_aux-eq b (c ∷ [])) h)).1

-- a character has a byte at least
pub some_bytes : (c : ℕ) → is_scalar c ≡ true → 0 < length (encoded c)
some_bytes c k = let p = shape c k in omega (arith, ap length p.parts)

module _ (f : Field) (long : length f.bytes ≡ 64) (p : Parts f) where
  caret_in : f.cursor ≤ f.len
  caret_in = caret_in_range f p.ranged

  len_in : f.len ≤ length f.bytes
  len_in = omega (arith, length_in_range f p.ranged)

  held_long : length (held f) ≡ f.len
  held_long = length-take-le f.len f.bytes len_in

  -- a caret that stays
  moved_nowhere : (k : ℕ) → k ≡ f.cursor → moved f k ≡ f
  unfolding moved
  moved_nowhere k e = λ i. record { owner = f.owner; bytes = f.bytes; len = f.len; cursor = e i; mark = f.mark }

  -- a text with some bytes cut out, or put in
  cut_text : (t : Text) (m : Mark) (from to : ℕ) → from ≤ to → to ≤ f.len → bytes_of t ≡ take from f.bytes ++ drop to (held f) → caret_of t ≡ from
      → m ≡ cond (ltb from to) Typed f.mark → with_text f t m ≡ cut_out f from to
  unfolding with_text cut_out
  cut_text t m from to h k e g w =
      let n : length (take from f.bytes ++ drop to (held f)) ≡ f.len - (to - from) =
      omega (arith, length-append (take from f.bytes) (drop to (held f)), length-take-le from f.bytes (omega (arith, len_in)), length-drop to (held f), held_long) in
      λ i. record { owner = f.owner; bytes = ap (λ (s : List ℕ). over s f.bytes) e i; len = (ap length e ∙ n) i; cursor = g i; mark = w i }

  pub put_text : (c : ℕ) → with_text f (text (c ∷ p.front) p.back) Typed ≡ put_in f (encoded c)
  unfolding with_text put_in caret_of
  put_text c =
      let s : List ℕ = encoded c in
      let w : bytes_of (text (c ∷ p.front) p.back) ≡ (take f.cursor f.bytes ++ s) ++ drop f.cursor (held f) =
      bytes_of_text (c ∷ p.front) p.back
      ∙ ap₂ ◌++◌ (one_more_before c p.front ∙ ap (λ (l : List ℕ). l ++ s) (sym p.front_bytes)) (sym p.back_bytes) in
      let n : length ((take f.cursor f.bytes ++ s) ++ drop f.cursor (held f)) ≡ f.len + length s =
      omega (
        arith,
        length-append (take f.cursor f.bytes ++ s) (drop f.cursor (held f)),
        length-append (take f.cursor f.bytes) s,
        length-take-le f.cursor f.bytes (omega (arith, caret_in, len_in)),
        length-drop f.cursor (held f),
        held_long,
        caret_in,
      ) in
      let g : length (encoded_all (reverse (c ∷ p.front))) ≡ f.cursor + length s =
      ap length (one_more_before c p.front) ∙ length-append (encoded_all (reverse p.front)) s
      ∙ ap (λ (m : ℕ). m + length s) (caret_is_after_front f long p) in
      λ i. record { owner = f.owner; bytes = ap (λ (l : List ℕ). over l f.bytes) w i; len = (ap length w ∙ n) i; cursor = g i; mark = Typed }

  -- no character before the caret, and none after it
  caret_at_start : p.front ≡ [] → f.cursor ≡ 0
  unfolding encoded_all
  caret_at_start e = sym (caret_is_after_front f long p) ∙ ap (λ (l : List ℕ). length (encoded_all (reverse l))) e

  back_at_start : p.front ≡ [] → step_back_of f ≡ f.cursor
  unfolding step_back_of step_back back_of
  back_at_start e =
      let z : f.cursor ≡ 0 = caret_at_start e in
      let y : f.cursor - 1 ≡ 0 = omega arith in
      ap (back_of (held f)) y ∙ sym z

  caret_at_end : p.back ≡ [] → f.cursor ≡ f.len
  unfolding encoded_all
  caret_at_end e =
      let z : length (drop f.cursor (held f)) ≡ 0 = ap length (p.back_bytes ∙ ap encoded_all e) in
      omega (arith, held_long, length-drop f.cursor (held f), caret_in)

  forth_at_end : p.back ≡ [] → step_forward_of f ≡ f.cursor
  unfolding step_forward_of step_forward
  forth_at_end e = rw (le-ltb f.cursor (length (held f)) (omega (arith, held_long, caret_at_end e)))

  -- the last character before the caret
  module _ (c : ℕ) (b : List ℕ) (e : p.front ≡ c ∷ b) where
    last_scalar : is_scalar c ≡ true
    last_scalar = last_is_scalar c b (subst (λ (l : List ℕ). all_scalars (reverse l) ≡ true) e p.front_scalars)

    last_bytes : take f.cursor f.bytes ≡ encoded_all (reverse b) ++ encoded c
    last_bytes = p.front_bytes ∙ ap (λ (l : List ℕ). encoded_all (reverse l)) e ∙ one_more_before c b

    last_long : length (encoded_all (reverse b) ++ encoded c) ≡ f.cursor
    last_long = ap length (sym last_bytes) ∙ length-take-le f.cursor f.bytes (omega (arith, caret_in, len_in))

    last_start : step_back_of f ≡ length (encoded_all (reverse b))
    unfolding step_back_of
    last_start =
        let r : List ℕ = drop f.cursor (held f) in
        let h : (encoded_all (reverse b) ++ encoded c) ++ r ≡ held f =
        ap₂ ◌++◌ (sym last_bytes) p.back_bytes ∙ ap (λ (l : List ℕ). l ++ encoded_all p.back) p.front_bytes ∙ parts_are_held f p in
        ap₂ step_back (sym h) (sym last_long) ∙ step_back_is_one_character (encoded_all (reverse b)) c r last_scalar

    last_front : take (length (encoded_all (reverse b))) f.bytes ≡ encoded_all (reverse b)
    last_front =
        sym (take-take (length (encoded_all (reverse b))) f.cursor f.bytes (omega (arith, last_long, length-append (encoded_all (reverse b)) (encoded c))))
        ∙ ap (take (length (encoded_all (reverse b)))) last_bytes
        ∙ take-append_seam (encoded_all (reverse b)) (encoded c)

  -- the first character after the caret
  module _ (c : ℕ) (a : List ℕ) (e : p.back ≡ c ∷ a) where
    next_all : all_scalars (c ∷ a) ≡ true
    next_all = subst (λ (l : List ℕ). all_scalars l ≡ true) e p.back_scalars

    next_bytes : drop f.cursor (held f) ≡ encoded c ++ encoded_all a
    unfolding encoded_all
    next_bytes = p.back_bytes ∙ ap encoded_all e

    next_scalar : is_scalar c ≡ true
    unfolding all_scalars
    next_scalar = and_left (is_scalar c) (all_scalars a) next_all

    next_end : step_forward_of f ≡ f.cursor + length (encoded c)
    unfolding step_forward_of all_scalars
    next_end =
        step_forward_is_one_character (held f) f.cursor c a next_scalar (and_right (is_scalar c) (all_scalars a) next_all) next_bytes

    next_back : drop (f.cursor + length (encoded c)) (held f) ≡ encoded_all a
    next_back =
        sym (drop-drop (length (encoded c)) f.cursor (held f)) ∙ ap (drop (length (encoded c))) next_bytes ∙ drop-append_seam (encoded c) (encoded_all a)

    next_in : f.cursor + length (encoded c) ≤ f.len
    next_in = omega (arith, held_long, length-drop f.cursor (held f), ap length next_bytes, length-append (encoded c) (encoded_all a), caret_in)

  abbrev To : EditOp → Type 0
  To op = with_text f (keyed op (text p.front p.back)) (mark_after (takes op (text p.front p.back)) f.mark) ≡ edited_in f op

  -- an edit by what stands before the caret, and by what stands after it
  abbrev by_front : List ℕ → Field
  by_front l = with_text f (keyed Backspace (text l p.back)) (mark_after (takes Backspace (text l p.back)) f.mark)

  abbrev by_back : List ℕ → Field
  by_back l = with_text f (keyed Delete (text p.front l)) (mark_after (takes Delete (text p.front l)) f.mark)

  cut_nothing : cut_out f f.cursor f.cursor ≡ f
  unfolding caret_of
  cut_nothing =
      sym (cut_text (text p.front p.back) f.mark f.cursor f.cursor (omega arith) caret_in
      (bytes_of_text p.front p.back ∙ ap₂ ◌++◌ (sym p.front_bytes) (sym p.back_bytes)) (caret_is_after_front f long p) (rw (le-ltb f.cursor f.cursor (omega arith))))
      ∙ own_text_is_kept f long p

  left : (b : List ℕ) → p.front ≡ b → To Left
  unfolding keyed takes edited_in caret_of bytes_of
  left [] e =
      ap (λ (l : List ℕ). with_text f (keyed Left (text l p.back)) f.mark) e ∙ ap (λ (l : List ℕ). with_text f (text l p.back) f.mark) (sym e)
      ∙ own_text_is_kept f long p ∙ sym (moved_nowhere (step_back_of f) (back_at_start e))
  left (c ∷ b) e =
      ap (λ (l : List ℕ). with_text f (keyed Left (text l p.back)) f.mark) e
      ∙ same_bytes_move_the_caret f long p (text b (c ∷ p.back)) (ap (λ (l : List ℕ). bytes_of (text l p.back)) (sym e) ∙ text_is_held f long p)
      ∙ ap (moved f) (sym (last_start c b e))

  right : (a : List ℕ) → p.back ≡ a → To Right
  unfolding keyed takes edited_in caret_of bytes_of
  right [] e =
      ap (λ (l : List ℕ). with_text f (keyed Right (text p.front l)) f.mark) e ∙ ap (λ (l : List ℕ). with_text f (text p.front l) f.mark) (sym e)
      ∙ own_text_is_kept f long p ∙ sym (moved_nowhere (step_forward_of f) (forth_at_end e))
  right (c ∷ a) e =
      ap (λ (l : List ℕ). with_text f (keyed Right (text p.front l)) f.mark) e
      ∙ same_bytes_move_the_caret f long p (text (c ∷ p.front) a) (ap (λ (l : List ℕ). bytes_of (text p.front l)) (sym e) ∙ text_is_held f long p)
      ∙ ap (moved f)
      (ap length (one_more_before c p.front) ∙ length-append (encoded_all (reverse p.front)) (encoded c)
      ∙ ap (λ (n : ℕ). n + length (encoded c)) (caret_is_after_front f long p) ∙ sym (next_end c a e))

  home : To Home
  unfolding keyed takes edited_in caret_of bytes_of encoded_all
  home = same_bytes_move_the_caret f long p (text [] (reverse_aux p.front p.back)) (text_is_held f long p)

  end : To End
  unfolding keyed takes edited_in caret_of bytes_of
  end =
      let e : bytes_of (text (reverse_aux p.back p.front) []) ≡ held f =
      ap encoded_all (reverse_aux-reverse_aux-nil p.back p.front) ∙ text_is_held f long p in
      same_bytes_move_the_caret f long p (text (reverse_aux p.back p.front) []) e ∙ ap (moved f) (ap length e ∙ held_long)

  backspace : (b : List ℕ) → p.front ≡ b → To Backspace
  unfolding keyed takes edited_in caret_of
  backspace [] e =
      ap by_front e ∙ ap (λ (l : List ℕ). with_text f (text l p.back) f.mark) (sym e)
      ∙ own_text_is_kept f long p ∙ sym cut_nothing ∙ ap (λ (k : ℕ). cut_out f k f.cursor) (sym (back_at_start e))
  backspace (c ∷ b) e =
      let u : List ℕ = encoded_all (reverse b) in
      ap by_front e
      ∙ cut_text (text b p.back) Typed (length u) f.cursor (omega (arith, last_long c b e, length-append u (encoded c))) caret_in
      (bytes_of_text b p.back ∙ ap₂ ◌++◌ (sym (last_front c b e)) (sym p.back_bytes)) refl
      (rw (lt-ltb (length u) f.cursor (omega (arith, last_long c b e, length-append u (encoded c), some_bytes c (last_scalar c b e)))))
      ∙ ap (λ (k : ℕ). cut_out f k f.cursor) (sym (last_start c b e))

  delete : (a : List ℕ) → p.back ≡ a → To Delete
  unfolding keyed takes edited_in caret_of
  delete [] e =
      ap by_back e ∙ ap (λ (l : List ℕ). with_text f (text p.front l) f.mark) (sym e)
      ∙ own_text_is_kept f long p ∙ sym cut_nothing ∙ ap (cut_out f f.cursor) (sym (forth_at_end e))
  delete (c ∷ a) e =
      ap by_back e
      ∙ cut_text (text p.front a) Typed f.cursor (f.cursor + length (encoded c)) (omega arith) (next_in c a e)
      (bytes_of_text p.front a ∙ ap₂ ◌++◌ (sym p.front_bytes) (sym (next_back c a e))) (caret_is_after_front f long p)
      (rw (lt-ltb f.cursor (f.cursor + length (encoded c)) (omega (arith, some_bytes c (next_scalar c a e)))))
      ∙ ap (cut_out f f.cursor) (sym (next_end c a e))

  pub edit_of_the_parts : (op : EditOp) → To op
  edit_of_the_parts Backspace = backspace p.front refl
  edit_of_the_parts Delete = delete p.back refl
  edit_of_the_parts Left = left p.front refl
  edit_of_the_parts Right = right p.back refl
  edit_of_the_parts Home = home
  edit_of_the_parts End = end
