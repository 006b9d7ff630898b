-- Document 01, **Tree**: the eight fields and their owners.
use Rattle.std.specs.Prelude.{ℕ, Bool, true, false, cond, not, List, [], ◌∷◌, map, replicate, None, Option, Some}
-- The first field that passes a test.
pub use Rattle.std.specs.List.{find as first_field}
use Rattle.field.specs.Fields.{empty_field, own_field}
use Rattle.field.specs.declared.NodeId.{NodeId}
use Rattle.field.specs.declared.Field.{Field}
use Rattle.field.specs.declared.Mark.{Mark}
use Rattle.field.specs.declared.Mark.TheVariants.{Untouched}
use Rattle.arena.specs.Slots.{Slots, is_live, is_id}

-- The node's own field.
abbrev pub owns : NodeId → Field → Bool
owns d f = is_id f.owner d

unfoldable pub field_of : NodeId → List Field → Option Field
field_of d fs = first_field (owns d) fs

-- A field whose owner is dead is nobody's, and empty.
abbrev pub owner_dead : ℕ → Slots → Option NodeId → Bool
owner_dead limit s None = false
owner_dead limit s (Some d) = not (is_live limit s d)

unfoldable pub reclaimed : ℕ → Slots → List Field → List Field
reclaimed limit s fs = map (λ (f : Field). cond (owner_dead limit s f.owner) empty_field f) fs

abbrev pub vacant : Field → Bool
vacant f = pick' f.owner
  where
    pick' : Option NodeId → Bool
    pick' None = true
    pick' (Some d) = false

-- The first field that passes a test, changed.
abbrev pub change_first : (Field → Bool) → (Field → Field) → List Field → List Field
change_first p c [] = []
change_first p c (f ∷ fs) = cond (p f) (c f ∷ fs) (f ∷ change_first p c fs)

unfoldable pub claimed : NodeId → List Field → List Field
claimed d fs = change_first vacant (λ (f : Field). own_field d) fs

-- A text: 64 bytes, 0 past the length, and the length.
pub record Shown : Type 0 where
  pub bytes : List ℕ
  pub len : ℕ

abbrev pub no_text : Shown
no_text = record { bytes = replicate 64 0; len = 0 }

-- A text with its caret and mark.
pub record ShownMarked : Type 0 where
  pub shown : Shown
  pub caret : ℕ
  pub mark : Mark

abbrev pub no_marked : ShownMarked
no_marked = record { shown = no_text; caret = 0; mark = Untouched }
