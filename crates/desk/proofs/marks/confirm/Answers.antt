-- By the place of the node's field, and whether it reads as metres. Assumes nothing.
use Rattle.std.specs.Prelude.{Err, Ok}
use mathlib.Core.Path.{◌≡◌, sym, ap, ◌∙◌}
use mathlib.Core.List.{List}
use Prim.Native.Nat.{ℕ}
use lib.ListN.{set, get_or}
use Rattle.arithmetic.specs.Tests.{same}
use Rattle.text.specs.Refusal.{answered, refused}
use Rattle.text.specs.declared.refusal.Refusal.{Refusal}
use Rattle.text.proofs.Refusals.{no_word_is_0}
use Rattle.field.specs.Fields.{empty_field, field_metres}
use Rattle.field.specs.declared.Field.{Field}
use Rattle.field.specs.declared.NodeId.{NodeId}
use Rattle.tree.specs.Answers.{field_place}
use Rattle.tree.specs.Calls.{gives}
use Rattle.tree.specs.Trees.{with_fields}
use Rattle.tree.specs.declared.Ui.{Ui}
use Rattle.tree.proofs.Places.{the_place_is_changed}
use Rattle.tree.proofs.TakenLaws.{a_read_finds_the_field, the_place_that_is_found}
use Rattle.desk.specs.Marks as marks
use Rattle.desk.specs.Marks.{confirm_field}
use Rattle.desk.proofs.MarkSteps.{confirmed}
use borrow.Author.Rules.{rules}
use Rattle.desk.proofs.marks.confirm.Goals as goal

module _ (u : Ui) (d : NodeId) {i : ℕ} (p : field_place u d ≡ Ok i) {f : Field} (e : f ≡ get_or u.fields i empty_field) where
  of_the_field : confirm_field u d f ≡ marks.confirm u d
  unfolding marks.confirm
  of_the_field = ap (confirm_field u d) e ∙ sym (a_read_finds_the_field u d 0 (confirm_field u d) i p)

  unread : (word : Refusal) → answered 0 (Err word) ≡ field_metres f → record { next = u; answer = refused word 0 } ≡ marks.confirm u d
  unfolding same
  unread word m = rw (← m, no_word_is_0 word) at of_the_field

  read : (n : ℕ) {fs : List Field} → answered 0 (Ok n) ≡ field_metres f → fs ≡ set u.fields i (confirmed f) → gives (with_fields u fs) 0 ≡ marks.confirm u d
  unfolding same
  read n m s =
      let c = s ∙ ap (λ (g : Field). set u.fields i (confirmed g)) e ∙ the_place_is_changed d confirmed u.fields i (the_place_that_is_found u d i p) in
      ap (λ (l : List Field). gives (with_fields u l) 0) c ∙ (rw (← m) at of_the_field)

pub returns-in_err-metres : goal.returns-in_err-metres
returns-in_err-metres c =
    let e : c.from_residual-in_err-metres.result ≡ Err c.in_err-metres.field-0.0 = search rules in
    rw e (unread c.args.u.now c.args.d (sym c.field_place.ensures ∙ c.in_ok-i.was) c.field_at-f.ensures c.in_err-metres.field-0.0 c.in_err-metres.ensures)

pub returns : goal.returns
unfolding with_fields
returns c =
    read c.args.u.now c.args.d (sym c.field_place.ensures ∙ c.in_ok-i.was) c.field_at-f.ensures c.in_ok-metres.field-0 c.in_ok-metres.ensures
    (c.set_field.ensures ∙ ap (set c.args.u.now.fields c.in_ok-i.i) c.confirmed.ensures)
