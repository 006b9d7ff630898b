-- What a read answers is what the history says, by the laws of the tree's parts. Assumes nothing.
use Rattle.field.specs.declared.NodeId.{NodeId}
use Rattle.std.specs.Prelude.{Option}
use mathlib.Core.Path.{◌≡◌, ap, sym}
use mathlib.Core.Bool.{Bool}
use Prim.Native.Nat.{ℕ}
use Rattle.text.specs.Refusal.{Answer, accepted}
use mathlib.Core.List.{List}
use Rattle.field.specs.Fields.{view_by, metres_of_view}
use Rattle.field.proofs.Laws.{held_is_the_texts, caret_is_the_texts}
use Rattle.arithmetic.specs.Tests.{same}
use Rattle.tree.specs.Calls.{Outcome}
use Rattle.tree.specs.declared.Ui.{Ui}
use Rattle.tree.specs.Types.{Rect}
use Rattle.tree.specs.Fields.{Shown, ShownMarked, no_marked}
use Rattle.arithmetic.proofs.TestLaws.{bool_cases}
use Rattle.tree.proofs.ReadParts.{live_answers_whether_a_node_has_it, first_child_answers_the_first, next_sibling_answers_the_node_after, children_by_the_links_are_the_nodes, field_text_answers_the_nodes_text, field_cursor_answers_the_nodes_caret, metres_of_the_field_are_the_nodes, a_read_of_the_field_answers_of_the_text, a_field_shows_its_text, rect_answers_the_nodes_box}
use Rattle.desk.specs.Events as desk
use Rattle.desk.specs.Marks as marks
use Rattle.tree.specs.History.{History, Question, refusal_of, refusal_of_question, accept, recorded, text_said, caret_said, metres_said, confirmed_said, marked_said, rect_said, live_said, first_said, next_said}
use Rattle.tree.specs.History.Call.{ask}
use Rattle.tree.specs.History.Question.{field_text, field_cursor, metres, rect, live, first_child, next_sibling, absorb, confirmed_metres, marked_text}
use Rattle.desk.specs.Demand3.{step, number_asked, Agree}
use Rattle.desk.proofs.Invariant.{Inv, inv_after}
use Rattle.desk.proofs.AnswerLaws.{Kept, sound, guarded_is}

module _ {k : ℕ} {u : Ui} {h : History} (v : Inv k u h) where
  pub agrees : Agree u h
  unfolding text_said caret_said metres_said confirmed_said marked_said rect_said live_said first_said next_said desk.metres marks.confirmed_metres marks.marked_text
  agrees =
      let l = v.nodes.links in
      let b = sound v in
      record {
        live_is = live_answers_whether_a_node_has_it l b;
        first_child_is = first_child_answers_the_first l b;
        next_sibling_is = next_sibling_answers_the_node_after l b;
        children_are = children_by_the_links_are_the_nodes l b;
        text_is = field_text_answers_the_nodes_text l b v.nodes.texts;
        caret_is = field_cursor_answers_the_nodes_caret l b v.nodes.texts;
        metres_are = metres_of_the_field_are_the_nodes l b v.nodes.texts;
        confirmed_metres_are = a_read_of_the_field_answers_of_the_text l b v.nodes.texts 0 _ _ (λ f ok n. ap (λ (s : List ℕ). metres_of_view (view_by f.mark s)) (sym (held_is_the_texts f ok)));
        marked_text_is = a_read_of_the_field_answers_of_the_text l b v.nodes.texts no_marked _ _
            (λ f ok n. λ i. accepted (record { shown = a_field_shows_its_text f ok n i; caret = sym (caret_is_the_texts f ok n) i; mark = f.mark }));
        rect_is = rect_answers_the_nodes_box l b v.styling.styled.boxed;
        pointer_is = v.input.pointer_is;
        press_is = v.input.pressed.is_the_id;
        focus_is = v.input.focus.is_the_id;
      }

  asked_as_said : (q : Question) → number_asked u q ≡ refusal_of_question h q
  unfolding desk.absorb
  asked_as_said (field_text d) = ap (λ (a : Answer Shown). a.number) (agrees.text_is d)
  asked_as_said (field_cursor d) = ap (λ (a : Answer ℕ). a.number) (agrees.caret_is d)
  asked_as_said (metres d) = ap (λ (a : Answer ℕ). a.number) (agrees.metres_are d)
  asked_as_said (rect d) = ap (λ (a : Answer Rect). a.number) (agrees.rect_is d)
  asked_as_said (live d) = ap (λ (a : Answer Bool). a.number) (agrees.live_is d)
  asked_as_said (first_child d) = ap (λ (a : Answer (Option NodeId)). a.number) (agrees.first_child_is d)
  asked_as_said (next_sibling d) = ap (λ (a : Answer (Option NodeId)). a.number) (agrees.next_sibling_is d)
  asked_as_said (absorb s) = ap (λ (o : Outcome ℕ). o.answer.number) (guarded_is v 0 _)
  asked_as_said (confirmed_metres d) = ap (λ (a : Answer ℕ). a.number) (agrees.confirmed_metres_are d)
  asked_as_said (marked_text d) = ap (λ (a : Answer ShownMarked). a.number) (agrees.marked_text_is d)

  pub asks : (q : Question) → Kept k u h (ask q)
  unfolding step refusal_of accept recorded
  asks q = record {
    refused_so = asked_as_said q;
    goes_on = bool_cases (same (refusal_of_question h q) 0) (λ b. rw b (inv_after v)) (λ b. rw b (inv_after v));
  }
