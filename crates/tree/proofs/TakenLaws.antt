-- A node's own field, read through its place; and the first free field, or none where every field is taken. Assumes nothing.
use Rattle.std.specs.Prelude.{Err, None, Ok, Option, Result, Some}
use mathlib.Core.Path.{◌≡◌, refl, sym, ap, ◌∙◌}
use mathlib.Core.Bool.{true, false, not}
use mathlib.Core.List.{List, [], ◌∷◌}
use Prim.Native.Nat.{ℕ}
use lib.ListN.{get_or}
use Rattle.field.specs.Fields.{empty_field}
use Rattle.field.specs.declared.Field.{Field}
use Rattle.field.specs.declared.NodeId.{NodeId}
use native.Mathlib.Omega.{arith}
use Rattle.text.specs.declared.refusal.Refusal.{Refusal}
use Rattle.text.specs.declared.refusal.Refusal.TheVariants.{Fieldless}
use Rattle.arithmetic.specs.Tests.{all}
use Rattle.tree.specs.Trees.{limit_of, with_fields}
use Rattle.arena.specs.Fields.{first_field, vacant, reclaimed, claimed, field_of}
use Rattle.tree.specs.Calls.{Outcome, gives, refuses, take_vacant, of_field, on_field}
use Rattle.tree.specs.Answers.{precheck, found_at, field_place}
use Rattle.arena.specs.Support.Places.{place_of, field_at}
use Rattle.tree.specs.declared.Ui.{Ui}
use Rattle.arena.proofs.Owners.Places.{the_place_has_the_field}
use Rattle.arithmetic.proofs.TestLaws.{bool_cases}
use Rattle.arithmetic.proofs.BoolLaws.{no_more}
use Rattle.tree.proofs.Prechecks.{refused_at_once, not_refused}

pub none_free : (l : List Field) → all (λ (f : Field). not (vacant f)) l ≡ true → first_field vacant l ≡ None
none_free [] e = refl
none_free (f ∷ fs) e =
    bool_cases (vacant f) (λ v. no_more (rw v at e)) (λ v. rw v (none_free fs (rw v at e)))

pub some_free : (u : Ui) (d : NodeId) (l : List Field) → all (λ (f : Field). not (vacant f)) l ≡ false
    → gives (with_fields u (claimed d (reclaimed (limit_of u) u.slots u.fields))) 0 ≡ take_vacant u d (first_field vacant l)
some_free u d [] e = no_more (sym e)
some_free u d (f ∷ fs) e =
    bool_cases (vacant f) (λ v. rw v) (λ v. rw v (some_free u d fs (rw v at e)))

-- ---- a call on a node's field

module _ (u : Ui) (d : NodeId) {q : Option ℕ} (e : field_at u.fields q ≡ field_of d u.fields) (s : precheck u d ≡ (Ok tt)) where
  without_a_field : {A : Type 0} (none : A) (read : Field → Outcome A) → q ≡ None → refuses u Fieldless none ≡ on_field u d none read
  unfolding on_field
  without_a_field none read w =
      ap (of_field u none read) (sym (ap (field_at u.fields) w) ∙ e) ∙ sym (not_refused u d none (of_field u none read (field_of d u.fields)) s)

  with_a_field : {A : Type 0} (none : A) (read : Field → Outcome A) {i : ℕ} {f : Field} → q ≡ Some i → f ≡ get_or u.fields i empty_field → read f ≡ on_field u d none read
  unfolding on_field
  with_a_field none read w g =
      ap read g ∙ ap (of_field u none read) (sym (ap (field_at u.fields) w) ∙ e) ∙ sym (not_refused u d none (of_field u none read (field_of d u.fields)) s)

-- ---- a read of a node's field, by where it is found

module _ (u : Ui) (d : NodeId) {A : Type 0} (none : A) (read : Field → Outcome A) where
  pub a_read_is_refused : (w : Refusal) → field_place u d ≡ Err w → on_field u d none read ≡ refuses u w none
  unfolding field_place on_field
  a_read_is_refused w = go (precheck u d) (place_of d u.fields) refl refl
    where
      go : (v : Result Unit Refusal) (p : Option ℕ) → precheck u d ≡ v → place_of d u.fields ≡ p → found_at v p ≡ Err w → on_field u d none read ≡ refuses u w none
      go (Err x) p s q e = let z : x ≡ w = cc in refused_at_once u d none (of_field u none read (field_of d u.fields)) x s ∙ ap (λ (y : Refusal). refuses u y none) z
      go (Ok tt) None s q e = let z : Fieldless ≡ w = cc in sym (without_a_field u d (the_place_has_the_field d u.fields) s none read q) ∙ ap (λ (y : Refusal). refuses u y none) z
      go (Ok tt) (Some i) s q e = let z : ◌≡◌ {A = ℕ} 0 1 = cc in absurd (omega arith)

  pub a_read_finds_the_field : (i : ℕ) → field_place u d ≡ Ok i → on_field u d none read ≡ read (get_or u.fields i empty_field)
  unfolding field_place
  a_read_finds_the_field i = go (precheck u d) (place_of d u.fields) refl refl
    where
      go : (v : Result Unit Refusal) (p : Option ℕ) → precheck u d ≡ v → place_of d u.fields ≡ p → found_at v p ≡ Ok i → on_field u d none read ≡ read (get_or u.fields i empty_field)
      go (Err x) p s q e = let z : ◌≡◌ {A = ℕ} 0 1 = cc in absurd (omega arith)
      go (Ok tt) None s q e = let z : ◌≡◌ {A = ℕ} 0 1 = cc in absurd (omega arith)
      go (Ok tt) (Some k) s q e = let z : k ≡ i = cc in sym (with_a_field u d (the_place_has_the_field d u.fields) s none read q refl) ∙ ap (λ (j : ℕ). read (get_or u.fields j empty_field)) z

pub the_place_that_is_found : (u : Ui) (d : NodeId) (i : ℕ) → field_place u d ≡ Ok i → place_of d u.fields ≡ Some i
unfolding field_place
the_place_that_is_found u d i = go (precheck u d) (place_of d u.fields)
  where
    go : (v : Result Unit Refusal) (p : Option ℕ) → found_at v p ≡ Ok i → p ≡ Some i
    go (Err x) p e = let z : ◌≡◌ {A = ℕ} 0 1 = cc in absurd (omega arith)
    go (Ok tt) None e = let z : ◌≡◌ {A = ℕ} 0 1 = cc in absurd (omega arith)
    go (Ok tt) (Some k) e = let z : k ≡ i = cc in ap (λ (j : ℕ). Some j) z
