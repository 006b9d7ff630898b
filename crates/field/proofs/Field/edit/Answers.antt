-- Each operation is its own cut or move, in range. Assumes nothing.
use Rattle.std.proofs.Common.{◌≡◌, ℕ, List, sym, ap, ◌∙◌, arith, rules}
use Rattle.field.specs.declared.Field.{Field}
use Rattle.text.specs.Steps.{step_back, step_forward}
use Rattle.field.specs.Fields.{held, step_back_of, step_forward_of, cut_out, moved, edited_in, edited}
use Rattle.field.proofs.Ranges.{length_in_range, caret_in_range, back_is_before, forth_is_after, forth_is_within}
use Rattle.field.proofs.Field.edit.Goals as goal

pub returns-then-not-in_range : goal.returns-then-not-in_range
unfolding edited
returns-then-not-in_range c = rw (sym c.in_range.ensures ∙ c.if-not-in_range.true)

module _ (f : Field) {t : List ℕ} {n : ℕ} (e : t ≡ held f) where
  back : n ≡ step_back t f.cursor → n ≡ step_back_of f
  unfolding step_back_of
  back q = q ∙ ap (λ (s : List ℕ). step_back s f.cursor) e

  forth : n ≡ step_forward t f.cursor → n ≡ step_forward_of f
  unfolding step_forward_of
  forth q = q ∙ ap (λ (s : List ℕ). step_forward s f.cursor) e

pub without-requires : goal.without-requires
without-requires c =
    let f = c.args.self in
    let h = sym c.in_range.ensures ∙ c.if-not-in_range.false in
    (omega (arith, back f c.held-text.ensures c.step_back.ensures, back_is_before f), caret_in_range f h, length_in_range f h)

pub without-requires-in-Delete : goal.without-requires-in-Delete
without-requires-in-Delete c =
    let f = c.args.self in
    let h = sym c.in_range.ensures ∙ c.if-not-in_range.false in
    let e = forth f c.held-text.ensures c.step_forward.ensures in
    (omega (arith, forth_is_after f), omega (arith, forth_is_within f h (search rules)), length_in_range f h)

pub overflow_cast-result : goal.overflow_cast-result
overflow_cast-result c =
    let f = c.args.self in
    let h = sym c.in_range.ensures ∙ c.if-not-in_range.false in
    let e = back f c.held-text.ensures c.step_back-in-Left.ensures in
    omega (arith, back_is_before f, caret_in_range f h, length_in_range f h)

pub overflow_cast-result-in-Right : goal.overflow_cast-result-in-Right
overflow_cast-result-in-Right c =
    let f = c.args.self in
    let h = sym c.in_range.ensures ∙ c.if-not-in_range.false in
    let e = forth f c.held-text.ensures c.step_forward-in-Right.ensures in
    omega (arith, forth_is_within f h (search rules), length_in_range f h)

pub returns-in-Backspace : goal.returns-in-Backspace
unfolding edited edited_in
returns-in-Backspace c =
    let f = c.args.self in
    rw (sym c.in_range.ensures ∙ c.if-not-in_range.false, c.in-Backspace.is) (c.without.ensures ∙ ap (λ (k : ℕ). cut_out f k f.cursor) (back f c.held-text.ensures c.step_back.ensures))

pub returns-in-Delete : goal.returns-in-Delete
unfolding edited edited_in
returns-in-Delete c =
    let f = c.args.self in
    rw (sym c.in_range.ensures ∙ c.if-not-in_range.false, c.in-Delete.is) (c.without-in-Delete.ensures ∙ ap (cut_out f f.cursor) (forth f c.held-text.ensures c.step_forward.ensures))

pub returns-in-Left : goal.returns-in-Left
unfolding edited edited_in moved
returns-in-Left c =
    let f = c.args.self in
    rw (sym c.in_range.ensures ∙ c.if-not-in_range.false, c.in-Left.is) (ap (moved f) (back f c.held-text.ensures c.step_back-in-Left.ensures))

pub returns-in-Right : goal.returns-in-Right
unfolding edited edited_in moved
returns-in-Right c =
    let f = c.args.self in
    rw (sym c.in_range.ensures ∙ c.if-not-in_range.false, c.in-Right.is) (ap (moved f) (forth f c.held-text.ensures c.step_forward-in-Right.ensures))

pub returns-in-Home : goal.returns-in-Home
unfolding edited edited_in moved
returns-in-Home c = rw (sym c.in_range.ensures ∙ c.if-not-in_range.false, c.in-Home.is)

pub returns-in-End : goal.returns-in-End
unfolding edited edited_in moved
returns-in-End c = rw (sym c.in_range.ensures ∙ c.if-not-in_range.false, c.in-End.is)
