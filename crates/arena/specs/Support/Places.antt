-- The place of a node's field among the eight, as the code finds it.
use Rattle.std.specs.Prelude.{ℕ, List, position, slice_index_or, None, Option, Some}
use Rattle.field.specs.Fields.{empty_field}
use Rattle.field.specs.declared.NodeId.{NodeId}
use Rattle.field.specs.declared.Field.{Field}
use Rattle.arena.specs.Fields.{owns}

-- The place of the node's own field.
unfoldable pub place_of : NodeId → List Field → Option ℕ
place_of d fs = position (owns d) fs

-- The field at a place.
abbrev pub field_at : List Field → Option ℕ → Option Field
field_at fs None = None
field_at fs (Some k) = Some (slice_index_or fs k empty_field)
