-- A key that puts a character in, or takes one away, changes how many bytes there are. Assumes nothing.
use mathlib.Core.Path.{◌≡◌, sym, ap, subst, ◌∙◌}
use mathlib.Core.Bool.{Bool, true, false}
use mathlib.Core.List.{List, [], ◌∷◌, reverse, reverse_aux, reverse_aux-eq}
use Prim.Native.Nat.{ℕ, ◌+◌}
use native.Mathlib.Omega.{arith}
use lib.Dec.{leb}
use lib.ListN.{length, length-append}
use Rattle.text.specs.Utf8.{is_scalar, all_scalars, encoded, encoded_all}
use Rattle.arithmetic.proofs.BoolLaws.{and_left, no_more}
use Rattle.arithmetic.proofs.TestLaws.{bool_cases}
use Rattle.text.proofs.Texts.{encodings_join, scalars_part}
use Rattle.field.specs.Text.{Text, text, bytes_of, goes_in, typed, keyed}
use Rattle.field.specs.Marks.{takes, mark_after}
use Rattle.field.specs.Fields.{field_ok, edited, inserted, text_of}
use Rattle.field.specs.MarkedChanges.{MarkedByChange, MarkedChanges}
use Rattle.field.specs.declared.Field.{Field}
use Rattle.field.specs.declared.EditOp.{EditOp}
use Rattle.field.specs.declared.EditOp.TheVariants.{Backspace, Delete, Left, Right, Home, End}
use Rattle.field.proofs.Edits.{some_bytes}
use Rattle.field.proofs.Laws.{Good, held_good, held_is_the_texts, edit_keeps_the_rules, edit_is_the_texts, edit_marks_a_change, insert_keeps_the_rules, insert_is_the_texts, insert_marks_a_change, what_takes_nothing_keeps_the_bytes, what_goes_not_in_keeps_the_bytes}

-- one character more before the caret
one_more_long : (c : ℕ) (b a : List ℕ) → length (bytes_of (text (c ∷ b) a)) ≡ length (bytes_of (text b a)) + length (encoded c)
unfolding bytes_of encoded_all
one_more_long c b a =
    let x : List ℕ = reverse b in
    let n : length (encoded_all (reverse_aux b (c ∷ a))) ≡ length (encoded_all x) + length (encoded_all (c ∷ a)) =
    ap (λ (l : List ℕ). length (encoded_all l)) (reverse_aux-eq b (c ∷ a)) ∙ ap length (encodings_join x (c ∷ a)) ∙ length-append (encoded_all x) (encoded_all (c ∷ a)) in
    let m : length (encoded_all (reverse_aux b a)) ≡ length (encoded_all x) + length (encoded_all a) =
    ap (λ (l : List ℕ). length (encoded_all l)) (reverse_aux-eq b a) ∙ ap length (encodings_join x a) ∙ length-append (encoded_all x) (encoded_all a) in
    omega (arith, length-append (encoded c) (encoded_all a))

-- a character of a good text
its_character : (c : ℕ) (b a : List ℕ) → Good (text (c ∷ b) a) → is_scalar c ≡ true
unfolding all_scalars
its_character c b a g =
    and_left (is_scalar c) (all_scalars a) (scalars_part (reverse b) (c ∷ a) (subst (λ (l : List ℕ). all_scalars l ≡ true) (reverse_aux-eq b (c ∷ a)) g.proper)).1

-- so its bytes differ with it and without
differ : (c : ℕ) (b a : List ℕ) → is_scalar c ≡ true → bytes_of (text (c ∷ b) a) ≡ bytes_of (text b a) → ⊥
differ c b a s e = let n = one_more_long c b a in let k = some_bytes c s in let l = ap length e in omega arith

what_takes_changes_the_bytes : (op : EditOp) (t : Text) → Good t → takes op t ≡ true → bytes_of (keyed op t) ≡ bytes_of t → ⊥
unfolding takes keyed bytes_of
what_takes_changes_the_bytes Backspace (text [] a) g e = λ _. no_more e
what_takes_changes_the_bytes Backspace (text (c ∷ b) a) g e = λ q. differ c b a (its_character c b a g) (sym q)
what_takes_changes_the_bytes Delete (text b []) g e = λ _. no_more e
what_takes_changes_the_bytes Delete (text b (c ∷ a)) g e = λ q. differ c b a (its_character c b a g) (sym q)
what_takes_changes_the_bytes Left t g e = λ _. no_more e
what_takes_changes_the_bytes Right t g e = λ _. no_more e
what_takes_changes_the_bytes Home t g e = λ _. no_more e
what_takes_changes_the_bytes End t g e = λ _. no_more e

what_goes_in_changes_the_bytes : (c : ℕ) (t : Text) → goes_in c t ≡ true → bytes_of (typed c t) ≡ bytes_of t → ⊥
unfolding typed goes_in
what_goes_in_changes_the_bytes c (text b a) e =
    let s = and_left (is_scalar c) (leb (length (bytes_of (text b a)) + length (encoded c)) 64) e in
    rw e (λ q. differ c b a s q)

-- ---- from one field to the next

by_change : (f g : Field) (t : Text) (changed : Bool) → field_ok f ≡ true → field_ok g ≡ true → text_of g ≡ t → g.mark ≡ mark_after changed f.mark
    → (changed ≡ true → bytes_of t ≡ bytes_of (text_of f) → ⊥) → (changed ≡ false → bytes_of t ≡ bytes_of (text_of f)) → MarkedByChange f g
by_change f g t changed of og e m differs keeps =
    let held_f = held_is_the_texts f of in
    let held_g = sym (held_is_the_texts g og) ∙ ap bytes_of e in
    record {
      the_same_text_keeps_the_mark = λ q. bool_cases changed (λ c. absurd (differs c (sym held_g ∙ q ∙ sym held_f))) (λ c. rw c at m);
      another_text_is_typed = λ q. bool_cases changed (λ c. rw c at m) (λ c. absurd (q (held_g ∙ keeps c ∙ held_f)));
    }

pub marked_changes : MarkedChanges
marked_changes = record {
  an_edit_marks_a_change = λ f s op.
      let t = text_of f in
      by_change f (edited f op) (keyed op t) (takes op t) s.0 (edit_keeps_the_rules f s.0 s.1 op) (edit_is_the_texts f s.0 s.1 op) (edit_marks_a_change f s.0 s.1 op)
      (what_takes_changes_the_bytes op t (held_good f s.0)) (what_takes_nothing_keeps_the_bytes op t);
  a_character_marks_a_change = λ f s c.
      let t = text_of f in
      by_change f (inserted f c) (typed c t) (goes_in c t) s.0 (insert_keeps_the_rules f s.0 s.1 c) (insert_is_the_texts f s.0 s.1 c) (insert_marks_a_change f s.0 s.1 c)
      (what_goes_in_changes_the_bytes c t) (what_goes_not_in_keeps_the_bytes c t);
}
