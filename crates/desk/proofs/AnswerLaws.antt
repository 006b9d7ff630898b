-- A call is answered as the history says: wherever a definition refuses, the history's table does, and so the proof of a call follows its definition.
-- Assumes nothing.
use mathlib.Core.Path.{◌≡◌, refl, sym, ap, subst, ◌∙◌}
use mathlib.Core.Bool.{Bool, true, false, not, cond}
use Prim.Native.Nat.{ℕ, suc}
use Rattle.text.specs.Refusal.{number_of}
use Rattle.text.specs.declared.refusal.Refusal.{Refusal}
use Rattle.text.specs.declared.refusal.Refusal.TheVariants.{Missing}
use Rattle.text.proofs.Refusals.{no_word_is_0}
use Rattle.field.specs.declared.NodeId.{NodeId}
use Rattle.arithmetic.specs.Tests.{same}
use Rattle.tree.specs.Slots.{is_live}
use Rattle.tree.specs.Broken.{broken}
use Rattle.tree.specs.Trees.{limit_of}
use Rattle.tree.specs.Calls.{Outcome, gives, refuses, guarded, on_live}
use Rattle.tree.specs.declared.Ui.{Ui}
use Rattle.arithmetic.proofs.TestLaws.{bool_cases, same_yes}
use Rattle.tree.proofs.Ids.{live_just_where_a_node_has_it}
use Rattle.tree.proofs.NotBroken.{not_broken}
use Rattle.tree.specs.History.{History, Call, Change, has, unless, refusal_of, refusal_of_change, after_change, accept, recorded}
use Rattle.tree.specs.History.Call.{change}
use Rattle.desk.specs.Demand3.{Step, step, change_step, silent}
use Rattle.desk.proofs.Invariant.{Inv, inv_after}

-- a call kept the invariant, and was refused as the history says
pub record Kept (k : ℕ) (u : Ui) (h : History) (c : Call) : Type 0 where
  pub refused_so : (step u c).number ≡ refusal_of h c
  pub goes_on : Inv (suc k) (step u c).next (recorded h c (step u c).told)

-- an outcome with number n, after which the history is what f makes of the value, or h where it is refused
pub record AsSaid (k : ℕ) (h : History) {A : Type 0} (o : Outcome A) (n : ℕ) (f : A → History) : Type 0 where
  pub number_is : o.answer.number ≡ n
  pub goes_on : Inv (suc k) o.next (cond (same n 0) (f o.answer.value) h)

module _ {k : ℕ} {u : Ui} {h : History} (v : Inv k u h) where
  pub sound : broken u ≡ false
  sound = not_broken v.nodes.links v.styling.styled v.styling.pool v.nodes.texts v.queue

  pub guarded_is : {A : Type 0} (none : A) (o : Outcome A) → guarded u none o ≡ o
  unfolding guarded
  guarded_is none o = rw sound

  pub accepted_as_said : {A : Type 0} (u' : Ui) (a : A) (f : A → History) → Inv (suc k) u' (f a) → AsSaid k h (gives u' a) 0 f
  accepted_as_said u' a f i = record { number_is = refl; goes_on = rw (same_yes 0 0 refl) i }

  pub refused_as_said : {A : Type 0} (word : Refusal) (none : A) (f : A → History) → AsSaid k h (refuses u word none) (number_of word) f
  refused_as_said word none f = record { number_is = refl; goes_on = rw (no_word_is_0 word) (inv_after v) }

  pub guarded_as_said : {A : Type 0} (none : A) {o : Outcome A} {n : ℕ} {f : A → History} → AsSaid k h o n f → AsSaid k h (guarded u none o) n f
  guarded_as_said none {o} {n} {f} x = subst (λ (q : Outcome _). AsSaid k h q n f) (sym (guarded_is none o)) x

  -- refused by a word but where b holds, or where it holds; the history's test is c
  pub only_if : {A : Type 0} (b c : Bool) → c ≡ b → (word : Refusal) (none : A) {o : Outcome A} {n : ℕ} {f : A → History}
      → (b ≡ true → AsSaid k h o n f) → AsSaid k h (cond b o (refuses u word none)) (unless c (number_of word) n) f
  only_if b c e word none {f = f} x = bool_cases b (λ q. rw (e, q) (x q)) (λ q. rw (e, q) (refused_as_said word none f))

  pub only_unless : {A : Type 0} (b c : Bool) → c ≡ not b → (word : Refusal) (none : A) {o : Outcome A} {n : ℕ} {f : A → History}
      → (b ≡ false → AsSaid k h o n f) → AsSaid k h (cond b (refuses u word none) o) (unless c (number_of word) n) f
  only_unless b c e word none {f = f} x = bool_cases b (λ q. rw (e, q) (refused_as_said word none f)) (λ q. rw (e, q) (x q))

  pub live_as_said : {A : Type 0} (d : NodeId) (none : A) {o : Outcome A} {n : ℕ} {f : A → History}
      → (has h d ≡ true → AsSaid k h o n f) → AsSaid k h (on_live u d none o) (unless (has h d) (number_of Missing) n) f
  unfolding on_live
  live_as_said d none x =
      let e = live_just_where_a_node_has_it v.nodes.links.rel d in
      guarded_as_said none (only_if (is_live (limit_of u) u.slots d) (has h d) (sym e) Missing none (λ b. x (sym e ∙ b)))

  pub change_kept : {A : Type 0} (c : Change) {o : Outcome A} → AsSaid k h o (refusal_of_change h c) (λ _. after_change h c) → change_step u c ≡ silent o → Kept k u h (change c)
  unfolding step refusal_of accept recorded
  change_kept c x e = record {
    refused_so = ap (λ (s : Step). s.number) e ∙ x.number_is;
    goes_on = subst (λ (s : Step). Inv (suc k) s.next (cond (same (refusal_of_change h c) 0) (after_change h c) h)) (sym e) x.goes_on;
  }
