-- A confirmation and the next ship: marks change, and nothing else does. Assumes nothing.
use Rattle.std.specs.Prelude.{None, Option, Some}
use mathlib.Core.Path.{◌≡◌, refl, sym, ap, subst, ◌∙◌}
use mathlib.Core.Bool.{true}
use mathlib.Core.List.{List, map}
use Prim.Native.Nat.{ℕ}
use Rattle.text.specs.Refusal.{Answer}
use Rattle.text.specs.declared.refusal.Refusal.TheVariants.{Missing, Fieldless}
use Rattle.field.specs.Metres.{metres_of, reads}
use Rattle.field.specs.Marks.{Marked, next_mark}
use Rattle.field.specs.Fields.{field_ok, held, with_mark, unconfirmed, field_metres}
use Rattle.field.specs.declared.NodeId.{NodeId}
use Rattle.field.specs.declared.Field.{Field}
use Rattle.field.specs.declared.Mark.TheVariants.{Confirmed}
use Rattle.field.proofs.Laws.{mark_keeps_the_rules, mark_keeps_the_text, next_ship_keeps_the_rules}
use Rattle.arithmetic.specs.Tests.{same}
use Rattle.arithmetic.proofs.TestLaws.{bool_cases, same_is}
use Rattle.tree.specs.Slots.{is_live}
use Rattle.tree.specs.Forest.{has_both}
use Rattle.tree.specs.Fields.{owns, field_of, change_first}
use Rattle.tree.specs.Trees.{limit_of, with_fields}
use Rattle.tree.specs.Calls.{Outcome, guarded, on_live, of_field, on_field}
use Rattle.tree.specs.declared.Ui.{Ui}
use Rattle.tree.proofs.FieldLaws.{to_have_an_id_is_to_be_named_by_it}
use Rattle.tree.proofs.FieldParts.{edit_keeps_texts, edit_of_all_keeps_texts}
use Rattle.tree.specs.History.{History, after_change, refusal_of_change, map_maybe, marked_as}
use Rattle.tree.specs.History.Change.{confirm, next_ship}
use Rattle.desk.specs.Events as desk
use Rattle.desk.specs.Marks as marks
use Rattle.desk.specs.Marks.{confirm_field}
use Rattle.desk.proofs.Invariant.{Inv, inv_after, with_texts}
use Rattle.desk.proofs.AnswerLaws.{AsSaid, sound, accepted_as_said, refused_as_said, guarded_as_said}
use Rattle.desk.proofs.KeySteps.{of_all_nodes}
use Rattle.desk.proofs.ReadSteps.{agrees}

-- a field that reads as metres is confirmed
abbrev pub confirmed : Field → Field
confirmed f = with_mark f Confirmed

confirmed_by_the_rules : (f : Field) → field_ok f ≡ true → (field_metres f).number ≡ 0 → reads (held f) ≡ true
unfolding field_metres reads same
confirmed_by_the_rules f ok n = let e : (metres_of (held f)).number ≡ 0 = rw ok at n in rw e

-- the field that is found is the one that was read
pub the_field_found_reads : (d : NodeId) (fs : List Field) {f g : Field} → field_of d fs ≡ Some f → field_of d fs ≡ Some g → field_ok g ≡ true
    → (field_metres f).number ≡ 0 → reads (held g) ≡ true
the_field_found_reads d fs {f} {g} e q ok n =
    let z : Some f ≡ Some g = sym e ∙ q in
    let r : f ≡ g = cc in
    confirmed_by_the_rules g ok (ap (λ (x : Field). (field_metres x).number) (sym r) ∙ n)

module _ {k : ℕ} {u : Ui} {h : History} (v : Inv k u h) where
  -- the number of a call on a field is that of a read that is refused alike
  on_field_as_said : {A : Type 0} (d : NodeId) (none : A) (act : Field → Outcome A) (said : Field → Answer ℕ) (f : A → History)
      → ((g : Field) → field_of d u.fields ≡ Some g → AsSaid k h (act g) (said g).number f)
      → AsSaid k h (on_field u d none act) (on_field u d 0 (λ g. record { next = u; answer = said g })).answer.number f
  unfolding on_field on_live guarded
  on_field_as_said d none act said f x =
      rw (sound v) (bool_cases (is_live (limit_of u) u.slots d) (λ b. rw b (go (field_of d u.fields) refl)) (λ b. rw b (refused_as_said v Missing none f)))
    where
      go : (m : Option Field) → field_of d u.fields ≡ m → AsSaid k h (of_field u none act m) (of_field u 0 (λ g. record { next = u; answer = said g }) m).answer.number f
      go None e = refused_as_said v Fieldless none f
      go (Some g) e = x g e

  module _ (d : NodeId) (reading : (g : Field) → field_of d u.fields ≡ Some g → field_ok g ≡ true → reads (held g) ≡ true) where
    confirm_agrees : Inv k (with_fields u (change_first (owns d) confirmed u.fields)) (after_change h (confirm d))
    unfolding with_mark
    confirm_agrees =
        with_texts v (λ i g x. has_both d i g) (λ x. map_maybe (marked_as Confirmed) x.marked) _
        (edit_keeps_texts u.slots h.tree u.fields v.nodes.texts d confirmed (marked_as Confirmed) (λ i g x. has_both d i g)
        (of_all_nodes _ (λ i g x. sym (to_have_an_id_is_to_be_named_by_it d i g)) h.tree) (map_maybe (marked_as Confirmed)) refl (λ z. refl) (λ g. refl)
        (λ g e ok l. (mark_keeps_the_rules g Confirmed ok (reading g e ok), l, λ i. record { text = mark_keeps_the_text g Confirmed i; mark = Confirmed })))

  pub confirm_as_said : (d : NodeId) → AsSaid k h (marks.confirm u d) (refusal_of_change h (confirm d)) (λ _. after_change h (confirm d))
  unfolding marks.confirm desk.metres
  confirm_as_said d =
      subst (λ (a : Answer ℕ). AsSaid k h (on_field u d 0 (confirm_field u d)) a.number (λ _. after_change h (confirm d))) ((agrees v).metres_are d)
      (on_field_as_said d 0 (confirm_field u d) field_metres (λ _. after_change h (confirm d)) (λ g e. bool_cases (same (field_metres g).number 0)
      (λ b.
      let z : (field_metres g).number ≡ 0 = same_is (field_metres g).number 0 b in
      rw (b, z) (accepted_as_said v (with_fields u (change_first (owns d) confirmed u.fields)) 0 _ (inv_after (confirm_agrees d (λ g' e' ok. the_field_found_reads d u.fields e e' ok z)))))
      (λ b. rw b record { number_is = refl; goes_on = rw b (inv_after v) })))

  next_ship_agrees : Inv k (with_fields u (map unconfirmed u.fields)) (after_change h next_ship)
  unfolding unconfirmed with_mark
  next_ship_agrees =
      let w : Marked → Marked = λ e. marked_as (next_mark e.mark) e in
      with_texts v (λ i g x. true) (λ x. map_maybe w x.marked) _
      (edit_of_all_keeps_texts u.slots h.tree u.fields v.nodes.texts unconfirmed w (map_maybe w) refl (λ z. refl) (λ f. refl)
      (λ f ok l. (next_ship_keeps_the_rules f ok, l, λ i. record { text = mark_keeps_the_text f (next_mark f.mark) i; mark = next_mark f.mark })))

  pub next_ship_as_said : AsSaid k h (marks.next_ship u) 0 (λ _. after_change h next_ship)
  unfolding marks.next_ship
  next_ship_as_said = guarded_as_said v 0 (accepted_as_said v (with_fields u (map unconfirmed u.fields)) 0 _ (inv_after next_ship_agrees))
