-- A setter that is given what is there changes nothing. Assumes nothing.
use mathlib.Core.Path.{◌≡◌, refl, ap, ◌∙◌}
use mathlib.Core.List.{List, ◌++◌}
use Prim.Native.Nat.{ℕ, ◌≤◌}
use lib.ListN.{length, take, drop, take-append-drop}
use lib.Seq.{length-take-le}
use Rattle.arithmetic.specs.Tests.{over}
use Rattle.tree.specs.Trees.{stated_of, waiting_of, with_styles, with_stated, with_fields, with_interaction, with_waiting}
use Rattle.tree.specs.declared.Ui.{Ui}

-- the front of an array written over its own front
front_over : {A : Type 0} (n : ℕ) (l : List A) → n ≤ length l → over (take n l) l ≡ l
front_over n l h = ap (λ (k : ℕ). take n l ++ drop k l) (length-take-le n l h) ∙ take-append-drop n l

module _ (u : Ui) where
  pub the_same_styles : with_styles u u.layout u.states u.dirty ≡ u
  unfolding with_styles
  the_same_styles = refl

  pub the_same_fields : with_fields u u.fields ≡ u
  unfolding with_fields
  the_same_fields = refl

  pub the_same_interaction : with_interaction u u.interaction ≡ u
  unfolding with_interaction
  the_same_interaction = refl

  pub the_same_stated : u.stated_count ≤ length u.stated → with_stated u (stated_of u) ≡ u
  unfolding with_stated
  the_same_stated h = rw (front_over u.stated_count u.stated h, length-take-le u.stated_count u.stated h)

  pub the_same_waiting : u.output_count ≤ length u.outputs → with_waiting u (waiting_of u) ≡ u
  unfolding with_waiting
  the_same_waiting h = rw (front_over u.output_count u.outputs h, length-take-le u.output_count u.outputs h)
