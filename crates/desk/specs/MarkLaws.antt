-- Document 02, **Wish 6**: what the ramp may depend on, and what the next ship leaves. Of every tree, without a history. Proved in
-- proofs/MarkLaws.antt.
use Rattle.std.specs.Prelude.{◌≡◌, true, false, not, map, Option, None, Some}
use Rattle.field.specs.Marks.{is_confirmed}
use Rattle.field.specs.Fields.{held, with_mark}
use Rattle.field.specs.declared.NodeId.{NodeId}
use Rattle.field.specs.declared.Field.{Field}
use Rattle.field.specs.declared.Mark.TheVariants.{Untouched, Confirmed}
use Rattle.arithmetic.specs.Tests.{all}
use Rattle.tree.specs.Slots.{is_live}
use Rattle.tree.specs.Fields.{field_of}
use Rattle.tree.specs.Trees.{limit_of}
use Rattle.tree.specs.Broken.{broken}
use Rattle.tree.specs.declared.Ui.{Ui}
use Rattle.desk.specs.Marks.{confirm, next_ship, confirmed_metres}

-- Two nodes' fields, or none, that the ramp may not tell apart: the mark is the same and, where it is confirmed, the text.
abbrev pub Alike : Option Field → Option Field → Type 0
Alike None None = Unit {0}
Alike None (Some g) = ⊥
Alike (Some f) None = ⊥
Alike (Some f) (Some g) = (f.mark ≡ g.mark) × (f.mark ≡ Confirmed → held f ≡ held g)

-- The field without its mark.
abbrev pub unmarked : Field → Field
unmarked f = with_mark f Untouched

pub record MarkLaws : Type 0 where
  -- what the ramp gets of a node depends on whether it is live and has a field, on that field's mark and, where it is confirmed, on its text
  pub the_ramp_depends_on_no_more : (u v : Ui) (d e : NodeId) → broken u ≡ false → broken v ≡ false
      → is_live (limit_of u) u.slots d ≡ is_live (limit_of v) v.slots e → Alike (field_of d u.fields) (field_of e v.fields)
      → (confirmed_metres u d).answer ≡ (confirmed_metres v e).answer
  -- a confirmed field reads as metres, so that 9 and 10 never come
  pub what_is_confirmed_reads_as_metres : (u : Ui) (d : NodeId) → ((confirmed_metres u d).answer.number ≡ 9 → ⊥) × ((confirmed_metres u d).answer.number ≡ 10 → ⊥)
  -- the next ship leaves no field confirmed, and nothing but marks changes in the fields
  pub the_next_ship_leaves_none_confirmed : (u : Ui) → broken u ≡ false → all (λ (f : Field). not (is_confirmed f.mark)) (next_ship u).next.fields ≡ true
  pub the_next_ship_changes_marks_alone : (u : Ui) → map unmarked (next_ship u).next.fields ≡ map unmarked u.fields
  -- so does a confirmation
  pub a_confirmation_changes_marks_alone : (u : Ui) (d : NodeId) → map unmarked (confirm u d).next.fields ≡ map unmarked u.fields
