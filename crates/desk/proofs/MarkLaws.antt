-- What the ramp may depend on, and what a confirmation and the next ship leave: by the definitions. Assumes nothing.
use Rattle.std.specs.Prelude.{None, Option, Some}
use mathlib.Core.Path.{◌≡◌, refl, sym, ap, ap₂, ◌∙◌}
use mathlib.Core.Bool.{Bool, true, false, not, cond}
use mathlib.Core.List.{List, [], ◌∷◌, map}
use Prim.Native.Nat.{ℕ}
use native.Mathlib.Omega.{arith}
use Rattle.text.specs.Refusal.{Answer, refused}
use Rattle.text.specs.declared.refusal.Refusal.TheVariants.{Missing, Fieldless}
use Rattle.field.specs.Metres.{metres_of, reads}
use Rattle.field.specs.Marks.{is_confirmed, may_stand}
use Rattle.field.specs.Fields.{field_ok, mark_ok, held, with_mark, unconfirmed, field_metres, confirmed, view_by, view_of, metres_of_view}
use Rattle.field.specs.declared.NodeId.{NodeId}
use Rattle.field.specs.declared.Field.{Field}
use Rattle.field.specs.declared.Mark.{Mark}
use Rattle.field.specs.declared.Mark.TheVariants.{Untouched, Typed, Confirmed}
use Rattle.field.proofs.Ranges.{mark_by_the_rules}
use Rattle.arithmetic.specs.Tests.{same, all}
use Rattle.arithmetic.proofs.TestLaws.{bool_cases, same_is}
use Rattle.tree.specs.Slots.{is_live}
use Rattle.tree.specs.Fields.{owns, field_of, change_first}
use Rattle.tree.specs.Trees.{limit_of, with_fields}
use Rattle.tree.specs.Broken.{broken}
use Rattle.tree.specs.Calls.{guarded, on_live, of_field, on_field}
use Rattle.tree.specs.declared.Ui.{Ui}
use Rattle.tree.proofs.FieldLaws.{a_test_of_all_is_of_each}
use Rattle.tree.proofs.FieldParts.{found_field_is_ruled}
use Rattle.tree.proofs.RuleParts.{a_tree_not_broken_keeps_each_rule}
use Rattle.desk.specs.Marks.{confirm_field, confirm, next_ship, confirmed_metres}
use Rattle.desk.specs.MarkLaws.{Alike, unmarked, MarkLaws}
use Rattle.desk.proofs.MarkSteps.{confirmed as confirmed_field}
use Rattle.desk.proofs.KeyLogs.{unconfirmed_next}

-- ---- what the ramp depends on

same_text : (m : Mark) (s s' : List ℕ) → (m ≡ Confirmed → s ≡ s') → view_by m s ≡ view_by m s'
same_text Untouched s s' t = refl
same_text Typed s s' t = refl
same_text Confirmed s s' t = ap confirmed (t refl)

-- the answer of a live node's field, or of none
abbrev answer_of : Option Field → Answer ℕ
answer_of None = refused Fieldless 0
answer_of (Some f) = metres_of_view (view_of f)

alike_answers : (m m' : Option Field) → Alike m m' → answer_of m ≡ answer_of m'
alike_answers None None a = refl
alike_answers None (Some g) a = absurd a
alike_answers (Some f) None a = absurd a
alike_answers (Some f) (Some g) a = ap metres_of_view (same_text f.mark (held f) (held g) a.1 ∙ ap (λ (m : Mark). view_by m (held g)) a.0)

ramps_answer : (u : Ui) (d : NodeId) → broken u ≡ false → (confirmed_metres u d).answer ≡ cond (is_live (limit_of u) u.slots d) (answer_of (field_of d u.fields)) (refused Missing 0)
unfolding confirmed_metres on_field on_live guarded
ramps_answer u d b = rw b (bool_cases (is_live (limit_of u) u.slots d) (λ l. rw l (go (field_of d u.fields))) (λ l. rw l))
  where
    go : (m : Option Field) → (of_field u 0 (λ f. record { next = u; answer = metres_of_view (view_of f) }) m).answer ≡ answer_of m
    go None = refl
    go (Some f) = refl

-- ---- 9 and 10 never come

abbrev NotUnread : Answer ℕ → Type 0
NotUnread a = (a.number ≡ 9 → ⊥) × (a.number ≡ 10 → ⊥)

read_is_accepted : (s : List ℕ) → reads s ≡ true → NotUnread (metres_of s)
unfolding reads
read_is_accepted s r = let z = same_is (metres_of s).number 0 r in ((λ e. omega arith), (λ e. omega arith))

view_is_read : (f : Field) → field_ok f ≡ true → NotUnread (metres_of_view (view_of f))
unfolding mark_ok
view_is_read f ok = go f.mark refl
  where
    go : (m : Mark) → f.mark ≡ m → NotUnread (metres_of_view (view_by m (held f)))
    go Untouched e = ((λ q. omega arith), (λ q. omega arith))
    go Typed e = ((λ q. omega arith), (λ q. omega arith))
    go Confirmed e = read_is_accepted (held f) (ap (λ (m : Mark). may_stand m (held f)) (sym e) ∙ mark_by_the_rules f ok)

never_unread : (u : Ui) (d : NodeId) → NotUnread (confirmed_metres u d).answer
unfolding confirmed_metres on_field on_live guarded
never_unread u d =
    bool_cases (broken u)
    (λ b. rw b ((λ q. omega arith), (λ q. omega arith)))
    (λ b. rw b (bool_cases (is_live (limit_of u) u.slots d) (λ l. rw l (go b (field_of d u.fields) refl)) (λ l. rw l ((λ q. omega arith), (λ q. omega arith)))))
  where
    go : broken u ≡ false → (m : Option Field) → field_of d u.fields ≡ m → NotUnread (of_field u 0 (λ f. record { next = u; answer = metres_of_view (view_of f) }) m).answer
    go b None e = ((λ q. omega arith), (λ q. omega arith))
    go b (Some f) e =
        view_is_read f (found_field_is_ruled (λ g. field_ok g ≡ true) d u.fields f (a_test_of_all_is_of_each field_ok u.fields (a_tree_not_broken_keeps_each_rule u b).fields) e)

-- ---- marks alone change

none_confirmed : (fs : List Field) → all (λ (f : Field). not (is_confirmed f.mark)) (map unconfirmed fs) ≡ true
unfolding unconfirmed with_mark
none_confirmed [] = refl
none_confirmed (f ∷ fs) = rw (none_confirmed fs, unconfirmed_next f.mark)

unmarked_still : (fs : List Field) → map unmarked (map unconfirmed fs) ≡ map unmarked fs
unfolding unconfirmed with_mark
unmarked_still [] = refl
unmarked_still (f ∷ fs) = ap (λ (l : List Field). unmarked f ∷ l) (unmarked_still fs)

one_unmarked_still : (p : Field → Bool) (fs : List Field) → map unmarked (change_first p confirmed_field fs) ≡ map unmarked fs
unfolding with_mark
one_unmarked_still p [] = refl
one_unmarked_still p (f ∷ fs) = bool_cases (p f) (λ e. rw e) (λ e. rw e (ap (λ (l : List Field). unmarked f ∷ l) (one_unmarked_still p fs)))

pub mark_laws : MarkLaws
unfolding next_ship confirm on_field on_live guarded with_fields
mark_laws = record {
  the_ramp_depends_on_no_more = λ u v d e bu bv l a.
      ramps_answer u d bu
      ∙ ap₂ (λ (live : Bool) (b : Answer ℕ). cond live b (refused Missing 0)) l (alike_answers (field_of d u.fields) (field_of e v.fields) a)
      ∙ sym (ramps_answer v e bv);
  what_is_confirmed_reads_as_metres = never_unread;
  the_next_ship_leaves_none_confirmed = λ u b. rw b (none_confirmed u.fields);
  the_next_ship_changes_marks_alone = λ u. bool_cases (broken u) (λ b. rw b) (λ b. rw b (unmarked_still u.fields));
  a_confirmation_changes_marks_alone = λ u d. bool_cases (broken u) (λ b. rw b) (λ b. rw b (bool_cases (is_live (limit_of u) u.slots d) (λ l. rw l (found u d (field_of d u.fields))) (λ l. rw l)));
}
  where
    found : (u : Ui) (d : NodeId) (m : Option Field) → map unmarked (of_field u 0 (confirm_field u d) m).next.fields ≡ map unmarked u.fields
    found u d None = refl
    found u d (Some f) = bool_cases (same (field_metres f).number 0) (λ e. rw e (one_unmarked_still (owns d) u.fields)) (λ e. rw e)
