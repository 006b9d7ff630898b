-- A field that keeps the rules is its text, written over the front of its bytes. Assumes nothing.
use mathlib.Core.Path.{◌≡◌, refl, sym, ap, ap₂, subst, ◌∙◌}
use mathlib.Core.Bool.{true, ◌&&◌}
use mathlib.Core.List.{List, [], ◌∷◌, ◌++◌, append-nil, reverse, reverse_aux-eq, reverse-cons, reverse-reverse}
use Prim.Native.Nat.{ℕ, ◌≤◌}
use native.Mathlib.Omega.{arith}
use lib.ListN.{length, take, drop, take-append-drop}
use lib.Seq.{length-take-le, take-take}
use Rattle.text.specs.Utf8.{all_scalars, encoded, encoded_all}
use Rattle.text.specs.Reader.{is_utf8, scalars}
use Rattle.arithmetic.proofs.BoolLaws.{and_left, and_right}
use Rattle.text.proofs.Sound.{read_writes, read_scalars}
use Rattle.text.proofs.Texts.{encodings_join, rest_is_utf8}
use Rattle.field.specs.Text.{Text, text, bytes_of, caret_of}
use Rattle.field.specs.Fields.{in_range, text_ok, field_ok, held, moved, text_of, with_text}
use Rattle.arithmetic.specs.Tests.{over}
use Rattle.field.specs.declared.Field.{Field}
use Rattle.field.proofs.Ranges.{length_in_range, caret_in_range, text_by_the_rules, rules_are_in_range}

pub bytes_of_text : (b a : List ℕ) → bytes_of (text b a) ≡ encoded_all (reverse b) ++ encoded_all a
unfolding bytes_of
bytes_of_text b a = ap encoded_all (reverse_aux-eq b a) ∙ encodings_join (reverse b) a

pub one_more_before : (c : ℕ) (b : List ℕ) → encoded_all (reverse (c ∷ b)) ≡ encoded_all (reverse b) ++ encoded c
unfolding encoded_all
one_more_before c b =
    ap encoded_all (reverse-cons c b) ∙ encodings_join (reverse b) (c ∷ [])
    ∙ ap (λ (l : List ℕ). encoded_all (reverse b) ++ l) (append-nil (encoded c))

-- what the rules give: the characters before the caret, nearest first, and those after it
pub record Parts (f : Field) : Type 0 where
  pub front : List ℕ
  pub back : List ℕ
  pub is_text : text_of f ≡ text front back
  pub front_scalars : all_scalars (reverse front) ≡ true
  pub back_scalars : all_scalars back ≡ true
  pub front_bytes : take f.cursor f.bytes ≡ encoded_all (reverse front)
  pub back_bytes : drop f.cursor (held f) ≡ encoded_all back
  pub ranged : in_range f ≡ true

split_at_caret : (f : Field) → f.cursor ≤ f.len → take f.cursor f.bytes ++ drop f.cursor (held f) ≡ held f
split_at_caret f h =
    ap (λ (l : List ℕ). l ++ drop f.cursor (held f)) (sym (take-take f.cursor f.len f.bytes h))
    ∙ take-append-drop f.cursor (held f)

pub parts : (f : Field) → field_ok f ≡ true → Parts f
unfolding text_ok text_of
parts f rules =
    let h = text_by_the_rules f rules in
    let r = rules_are_in_range f h in
    let k = and_right (in_range f) (is_utf8 (held f) && is_utf8 (take f.cursor f.bytes)) h in
    let whole : is_utf8 (held f) ≡ true = and_left (is_utf8 (held f)) (is_utf8 (take f.cursor f.bytes)) k in
    let before : is_utf8 (take f.cursor f.bytes) ≡ true = and_right (is_utf8 (held f)) (is_utf8 (take f.cursor f.bytes)) k in
    let after : is_utf8 (drop f.cursor (held f)) ≡ true =
    rest_is_utf8 (take f.cursor f.bytes) (drop f.cursor (held f)) before (subst (λ (s : List ℕ). is_utf8 s ≡ true) (sym (split_at_caret f (caret_in_range f r))) whole) in
    let p : List ℕ = scalars (take f.cursor f.bytes) in
    record {
      front = reverse p;
      back = scalars (drop f.cursor (held f));
      is_text = refl;
      front_scalars = subst (λ (l : List ℕ). all_scalars l ≡ true) (sym (reverse-reverse p)) (read_scalars _ before);
      back_scalars = read_scalars _ after;
      front_bytes = sym (read_writes _ before) ∙ ap encoded_all (sym (reverse-reverse p));
      back_bytes = sym (read_writes _ after);
      ranged = r;
    }

pub parts_are_held : (f : Field) (p : Parts f) → encoded_all (reverse p.front) ++ encoded_all p.back ≡ held f
parts_are_held f p = ap₂ ◌++◌ (sym p.front_bytes) (sym p.back_bytes) ∙ split_at_caret f (caret_in_range f p.ranged)

module _ (f : Field) (long : length f.bytes ≡ 64) (p : Parts f) where
  pub caret_is_after_front : length (encoded_all (reverse p.front)) ≡ f.cursor
  caret_is_after_front =
      ap length (sym p.front_bytes)
      ∙ length-take-le f.cursor f.bytes (omega (arith, caret_in_range f p.ranged, length_in_range f p.ranged))

  pub text_is_held : bytes_of (text p.front p.back) ≡ held f
  text_is_held = bytes_of_text p.front p.back ∙ parts_are_held f p

  -- a text of the same bytes: only the caret may differ
  pub same_bytes_move_the_caret : (t : Text) → bytes_of t ≡ held f → with_text f t f.mark ≡ moved f (caret_of t)
  unfolding with_text moved
  same_bytes_move_the_caret t e =
      let l : length (held f) ≡ f.len = length-take-le f.len f.bytes (omega (arith, length_in_range f p.ranged)) in
      let o : over (held f) f.bytes ≡ f.bytes = ap (λ (n : ℕ). held f ++ drop n f.bytes) l ∙ take-append-drop f.len f.bytes in
      λ i. record { owner = f.owner; bytes = (ap (λ (s : List ℕ). over s f.bytes) e ∙ o) i; len = (ap length e ∙ l) i; cursor = caret_of t; mark = f.mark }

  -- its own text changes nothing
  pub own_text_is_kept : with_text f (text p.front p.back) f.mark ≡ f
  unfolding caret_of moved
  own_text_is_kept =
      same_bytes_move_the_caret (text p.front p.back) text_is_held
      ∙ (λ i. record { owner = f.owner; bytes = f.bytes; len = f.len; cursor = caret_is_after_front i; mark = f.mark })
