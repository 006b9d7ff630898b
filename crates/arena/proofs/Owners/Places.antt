-- Walks over the fields, a turn at a time, and what they come to. Assumes nothing.
use Rattle.std.specs.Prelude.{None, Option, Some}
use Rattle.std.proofs.Common.{◌≡◌, ℕ, suc, ◌+◌, ◌-◌, ◌≤◌, Bool, List, [], ◌∷◌, ◌++◌, length, get_or, set, sym, refl, ap, ◌∙◌, append_assoc, arith, length-append}
use lib.Seq.{get_or-append_seam}
use Rattle.field.specs.Fields.{empty_field}
use Rattle.field.specs.declared.NodeId.{NodeId}
use Rattle.field.specs.declared.Field.{Field}
use Rattle.arena.specs.Slots.{same_id, is_id}
use Rattle.arena.specs.Fields.{first_field, owns, field_of, change_first}
use Rattle.arena.specs.Support.Places.{place_of, field_at}
use Rattle.std.specs.List.{position, position_from}
use Rattle.std.specs.Option.{option_eq}
use Rattle.std.proofs.lemmas.Iterator.Adapters.{position_from-zero}
use Rattle.arithmetic.proofs.TestLaws.{bool_cases}

-- an id compared with one that may be missing, where two ids are compared by their parts
pub is_id_by : (e : NodeId → NodeId → Bool) (o : Option NodeId) (d : NodeId) → ((a b : NodeId) → e a b ≡ same_id a b) → option_eq e o (Some d) ≡ is_id o d
is_id_by e None d h = refl
is_id_by e (Some a) d h = h a d

-- ---- the place of a field

reads_behind : (p : Field → Bool) (front l : List Field) → field_at (front ++ l) (position_from p (length front) l) ≡ first_field p l
reads_behind p front [] = refl
reads_behind p front (f ∷ fs) =
    bool_cases (p f)
    (λ e. rw (e, get_or-append_seam front f fs empty_field))
    (λ e. rw e (rw (append_assoc, length-append) at (reads_behind p (front ++ f ∷ []) fs)))

pub the_place_has_the_field : (d : NodeId) (fs : List Field) → field_at fs (place_of d fs) ≡ field_of d fs
unfolding place_of field_of
the_place_has_the_field d fs = rw (position_from-zero (owns d) fs) (reads_behind (owns d) [] fs)

-- ---- the first that passes, changed

change_behind : (p : Field → Bool) (c : Field → Field) (l : List Field) (i k : ℕ) → position_from p i l ≡ Some k
    → (i ≤ k) × (set l (k - i) (c (get_or l (k - i) empty_field)) ≡ change_first p c l)
change_behind p c [] i k e = let z : ◌≡◌ {A = ℕ} 0 1 = cc in absurd (omega arith)
change_behind p c (f ∷ fs) i k e =
    bool_cases (p f)
    (λ q.
    let h : Some i ≡ Some k = rw q at e in
    let z : i ≡ k = cc in
    let n : k - i ≡ 0 = omega arith in
    (omega arith, rw (q, n)))
    (λ q.
    let h : position_from p (i + 1) fs ≡ Some k = rw q at e in
    let r = change_behind p c fs (i + 1) k h in
    let m : k - i ≡ suc (k - (i + 1)) = omega (arith, r.0) in
    (omega (arith, r.0), rw (q, m) (ap (λ (l : List Field). f ∷ l) r.1)))

module _ (p : Field → Bool) (c : Field → Field) where
  pub the_first_is_changed : (fs : List Field) (k : ℕ) → position p fs ≡ Some k → set fs k (c (get_or fs k empty_field)) ≡ change_first p c fs
  the_first_is_changed fs k e = let z : k - 0 ≡ k = omega arith in rw z at (change_behind p c fs 0 k (sym (position_from-zero p fs) ∙ e)).1

  none_changes : (fs : List Field) (i : ℕ) → position_from p i fs ≡ None → change_first p c fs ≡ fs
  none_changes [] i e = refl
  none_changes (f ∷ fs) i e =
      bool_cases (p f)
      (λ q. let h : Some i ≡ None = rw q at e in cc)
      (λ q. let h : position_from p (i + 1) fs ≡ None = rw q at e in rw q (ap (λ (l : List Field). f ∷ l) (none_changes fs (i + 1) h)))

  pub nothing_changes : (fs : List Field) → position p fs ≡ None → change_first p c fs ≡ fs
  nothing_changes fs e = none_changes fs 0 (sym (position_from-zero p fs) ∙ e)

pub the_place_is_changed : (d : NodeId) (c : Field → Field) (fs : List Field) (k : ℕ) → place_of d fs ≡ Some k
    → set fs k (c (get_or fs k empty_field)) ≡ change_first (owns d) c fs
unfolding place_of
the_place_is_changed d c fs k e = the_first_is_changed (owns d) c fs k e
