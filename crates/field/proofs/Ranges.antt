-- What length and caret in their places give. Assumes nothing.
use mathlib.Core.Path.{◌≡◌}
use mathlib.Core.Bool.{true}
use Prim.Native.Nat.{ℕ, ◌+◌, ◌-◌, ◌≤◌}
use native.Mathlib.Omega.{arith}
use borrow.Author.Tests.{leb-true, ltb-true}
use lib.Dec.{leb, ltb}
use lib.ListN.{length, drop, length-drop}
use lib.Seq.{length-take-le}
use Rattle.text.specs.Steps.{is_tail, front, step_back, step_forward}
use Rattle.arithmetic.proofs.BoolLaws.{pick_of, and_left, and_right}
use Rattle.text.proofs.Walks.{back_not_after, front_not_longer}
use Rattle.field.specs.Fields.{in_range, text_ok, mark_ok, field_ok, held, step_back_of, step_forward_of}
use Rattle.field.specs.declared.Field.{Field}

module _ (f : Field) (h : in_range f ≡ true) where
  pub length_in_range : f.len ≤ 64
  unfolding in_range
  length_in_range = leb-true f.len 64 (and_left (leb f.len 64) (leb f.cursor f.len) h)

  pub caret_in_range : f.cursor ≤ f.len
  unfolding in_range
  caret_in_range = leb-true f.cursor f.len (and_right (leb f.len 64) (leb f.cursor f.len) h)

  pub held_is_long : length f.bytes ≡ 64 → length (held f) ≡ f.len
  held_is_long l = length-take-le f.len f.bytes (omega (arith, length_in_range))

pub back_is_before : (f : Field) → step_back_of f ≤ f.cursor
unfolding step_back_of step_back
back_is_before f = omega (arith, back_not_after (held f) (f.cursor - 1))

-- one character on, and not past the end
pub forth_is_after : (f : Field) → f.cursor ≤ step_forward_of f
unfolding step_forward_of step_forward
forth_is_after f = pick_of (λ (n : ℕ). f.cursor ≤ n) (ltb f.cursor (length (held f)))
    {x = f.cursor + 1 + front is_tail (drop (f.cursor + 1) (held f))} (λ _. omega arith) (λ _. omega arith)

pub forth_is_within : (f : Field) → in_range f ≡ true → length f.bytes ≡ 64 → step_forward_of f ≤ f.len
unfolding step_forward_of step_forward
forth_is_within f h l =
    pick_of (λ (n : ℕ). n ≤ f.len) (ltb f.cursor (length (held f)))
    {x = f.cursor + 1 + front is_tail (drop (f.cursor + 1) (held f))}
    (λ e. omega (arith, ltb-true f.cursor (length (held f)) e, front_not_longer is_tail (drop (f.cursor + 1) (held f)), length-drop (f.cursor + 1) (held f), held_is_long f h l))
    (λ _. caret_in_range f h)

pub text_by_the_rules : (f : Field) → field_ok f ≡ true → text_ok f ≡ true
unfolding field_ok
text_by_the_rules f h = and_left (text_ok f) (mark_ok f) h

pub mark_by_the_rules : (f : Field) → field_ok f ≡ true → mark_ok f ≡ true
unfolding field_ok
mark_by_the_rules f h = and_right (text_ok f) (mark_ok f) h

pub rules_are_in_range : (f : Field) → text_ok f ≡ true → in_range f ≡ true
unfolding text_ok
rules_are_in_range f h = and_left (in_range f) _ h
