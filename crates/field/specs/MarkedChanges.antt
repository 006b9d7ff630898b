-- Document 02, **Wish 6**: the mark by the bytes of the text. Of a field that keeps the rules. Proved in proofs/MarkedChanges.antt.
use Rattle.std.specs.Prelude.{◌≡◌, ℕ, true, length}
use Rattle.field.specs.Fields.{field_ok, held, edited, inserted}
use Rattle.field.specs.declared.Field.{Field}
use Rattle.field.specs.declared.EditOp.{EditOp}
use Rattle.field.specs.declared.Mark.TheVariants.{Typed}

abbrev pub Sound : Field → Type 0
Sound f = (field_ok f ≡ true) × (length f.bytes ≡ 64)

-- From one field to the next: the same text has the same mark, and another is typed.
pub record MarkedByChange (f g : Field) : Type 0 where
  pub the_same_text_keeps_the_mark : held g ≡ held f → g.mark ≡ f.mark
  pub another_text_is_typed : (held g ≡ held f → ⊥) → g.mark ≡ Typed

pub record MarkedChanges : Type 0 where
  pub an_edit_marks_a_change : (f : Field) → Sound f → (op : EditOp) → MarkedByChange f (edited f op)
  pub a_character_marks_a_change : (f : Field) → Sound f → (c : ℕ) → MarkedByChange f (inserted f c)
