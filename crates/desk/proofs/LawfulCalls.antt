-- Each call first tests the link rules; behind that it is a choice between refusals by other numbers, which give back the tree, and an acceptance.
-- So it is with each question. Assumes nothing.
use Rattle.std.specs.Prelude.{None, Option, Some}
use mathlib.Core.Path.{◌≡◌, refl, sym, ◌∙◌}
use mathlib.Core.Bool.{Bool, true, false, cond}
use mathlib.Core.List.{List}
use Prim.Native.Nat.{ℕ}
use native.Mathlib.Omega.{arith}
use Rattle.text.specs.Refusal.{Answer, number_of}
use Rattle.text.specs.declared.refusal.Refusal.{Refusal}
use Rattle.text.specs.declared.refusal.Refusal.TheVariants.{Broken, Missing, Fieldless}
use Rattle.field.specs.Fields.{field_ok, held, field_metres, view_by, view_of, metres_of_view}
use Rattle.field.specs.Metres.{metres_of}
use Rattle.field.specs.declared.Mark.{Mark}
use Rattle.field.specs.declared.Mark.TheVariants.{Untouched, Typed, Confirmed}
use Rattle.field.proofs.Reading.{reading_of}
use Rattle.field.specs.declared.NodeId.{NodeId}
use Rattle.field.specs.declared.Field.{Field}
use Rattle.arithmetic.proofs.BoolLaws.{pick_of, no_more}
use Rattle.tree.specs.Slots.{is_live}
use Rattle.tree.specs.Styles.{no_rect}
use Rattle.tree.specs.Fields.{field_of, no_text, no_marked}
use Rattle.tree.specs.Trees.{limit_of}
use Rattle.tree.specs.Broken.{broken}
use Rattle.tree.specs.Calls as tree
use Rattle.tree.specs.Calls.{Outcome, gives, refuses, guarded, on_live, of_field, on_field, shown, take_vacant, take_field}
use Rattle.tree.specs.declared.Ui.{Ui}
use Rattle.tree.proofs.FieldLaws.{a_test_of_all_is_of_each}
use Rattle.tree.proofs.FieldParts.{found_field_is_ruled}
use Rattle.tree.proofs.RuleParts.{a_tree_not_broken_keeps_each_rule}
use Rattle.desk.specs.Events as desk
use Rattle.desk.specs.Marks as marks
use Rattle.desk.specs.Marks.{confirm_field, shown_marked}
use Rattle.arithmetic.specs.Tests.{same}
use Rattle.desk.specs.Events.{take_oldest}
use Rattle.tree.specs.History.{Question}
use Rattle.tree.specs.History.Question.{field_text, field_cursor, metres, rect, live, first_child, next_sibling, absorb, confirmed_metres, marked_text}
use Rattle.desk.specs.Demand3.{number_asked}

-- A call's number and next tree.
pub record Lawful (u : Ui) (number : ℕ) (next : Ui) : Type 0 where
  pub back : (number ≡ 0 → ⊥) → next ≡ u
  pub by_1 : broken u ≡ true → number ≡ 1
  pub not_by_1 : broken u ≡ false → number ≡ 1 → ⊥

abbrev pub LawfulCall : {A : Type 0} → Ui → Outcome A → Type 0
LawfulCall u o = Lawful u o.answer.number o.next

-- What stands behind the test of the rules.
pub record Behind {A : Type 0} (u : Ui) (o : Outcome A) : Type 0 where
  pub back : (o.answer.number ≡ 0 → ⊥) → o.next ≡ u
  pub not_by_1 : broken u ≡ false → o.answer.number ≡ 1 → ⊥

-- a text is read as metres, or refused by 9 or 10
abbrev NotBy1 : Answer ℕ → Type 0
NotBy1 a = a.number ≡ 1 → ⊥

metres_are_not_by_1 : (s : List ℕ) → NotBy1 (metres_of s)
metres_are_not_by_1 = reading_of NotBy1 (λ v e. omega arith) (λ e. omega arith) (λ e. omega arith)

confirmed_is_not_by_1 : (m : Mark) (s : List ℕ) → NotBy1 (metres_of_view (view_by m s))
confirmed_is_not_by_1 Untouched s e = omega arith
confirmed_is_not_by_1 Typed s e = omega arith
confirmed_is_not_by_1 Confirmed s e = metres_are_not_by_1 s e

module _ (u : Ui) where
  pub accepted : {A : Type 0} {u' : Ui} {a : A} → Behind u (gives u' a)
  accepted = record { back = λ r. absurd (r refl); not_by_1 = λ _ e. omega arith }

  pub refused : {A : Type 0} {none : A} (word : Refusal) → (number_of word ≡ 1 → ⊥) → Behind u (refuses u word none)
  refused word x = record { back = λ _. refl; not_by_1 = λ _. x }

  pub either : {A : Type 0} (b : Bool) {o o' : Outcome A} → Behind u o → Behind u o' → Behind u (cond b o o')
  either b x y = pick_of (Behind u) b (λ _. x) (λ _. y)

  pub guarded_is_lawful : {A : Type 0} (none : A) {o : Outcome A} → Behind u o → LawfulCall u (guarded u none o)
  unfolding guarded
  guarded_is_lawful {A} none {o} x = go (broken u) refl
    where
      go : (b : Bool) → broken u ≡ b → LawfulCall u (cond b (refuses u Broken none) o)
      go true e = record { back = λ _. refl; by_1 = λ _. refl; not_by_1 = λ f _. no_more (sym f ∙ e) }
      go false e = record { back = x.back; by_1 = λ t. no_more (sym e ∙ t); not_by_1 = x.not_by_1 }

  pub live_is_lawful : {A : Type 0} (d : NodeId) (none : A) {o : Outcome A} → Behind u o → LawfulCall u (on_live u d none o)
  unfolding on_live
  live_is_lawful d none x = guarded_is_lawful none (either (is_live (limit_of u) u.slots d) x (refused Missing (λ e. omega arith)))

  -- a field of a tree that is not broken keeps its rules
  read_is_lawful : {A : Type 0} (d : NodeId) (none : A) (read : Field → Outcome A) → ((f : Field) → (broken u ≡ false → field_ok f ≡ true) → Behind u (read f)) → LawfulCall u (on_field u d none read)
  unfolding on_field
  read_is_lawful d none read x = live_is_lawful d none (go (field_of d u.fields) refl)
    where
      go : (m : Option Field) → field_of d u.fields ≡ m → Behind u (of_field u none read m)
      go None e = refused Fieldless (λ z. omega arith)
      go (Some f) e =
          x f (λ b. found_field_is_ruled (λ g. field_ok g ≡ true) d u.fields f (a_test_of_all_is_of_each field_ok u.fields (a_tree_not_broken_keeps_each_rule u b).fields) e)

  -- a confirmation, too
  pub confirm_is_lawful : (d : NodeId) → LawfulCall u (marks.confirm u d)
  unfolding marks.confirm field_metres
  confirm_is_lawful d =
      read_is_lawful d 0 (confirm_field u d) (λ f r. either (same (field_metres f).number 0) accepted
      (record { back = λ _. refl; not_by_1 = λ b. rw (r b) (metres_are_not_by_1 (held f)) }))

  -- a read leaves the tree as it is
  asked : {n : ℕ} {v : Ui} → Lawful u n v → Lawful u n u
  asked f = record { back = λ _. refl; by_1 = f.by_1; not_by_1 = f.not_by_1 }

  pub question_is_lawful : (q : Question) → Lawful u (number_asked u q) u
  unfolding tree.field_text tree.field_cursor desk.metres tree.rect tree.live tree.first_child tree.next_sibling desk.absorb marks.confirmed_metres marks.marked_text field_metres
  question_is_lawful (field_text d) = asked (read_is_lawful d no_text (λ f. gives u (shown f)) (λ f _. accepted))
  question_is_lawful (field_cursor d) = asked (read_is_lawful d 0 (λ f. gives u f.cursor) (λ f _. accepted))
  question_is_lawful (metres d) =
      asked (read_is_lawful d 0 (λ f. record { next = u; answer = field_metres f }) (λ f r. record { back = λ _. refl; not_by_1 = λ b. rw (r b) (metres_are_not_by_1 (held f)) }))
  question_is_lawful (rect d) = asked (live_is_lawful d no_rect accepted)
  question_is_lawful (live d) = asked (guarded_is_lawful false accepted)
  question_is_lawful (first_child d) = asked (guarded_is_lawful None accepted)
  question_is_lawful (next_sibling d) = asked (live_is_lawful d None accepted)
  question_is_lawful (absorb s) = asked (guarded_is_lawful {A = ℕ} 0 accepted)
  question_is_lawful (confirmed_metres d) =
      asked (read_is_lawful d 0 (λ f. record { next = u; answer = metres_of_view (view_of f) }) (λ f _. record { back = λ _. refl; not_by_1 = λ _. confirmed_is_not_by_1 f.mark (held f) }))
  question_is_lawful (marked_text d) = asked (read_is_lawful d no_marked (λ f. gives u (shown_marked f)) (λ f _. accepted))
