-- The styles, boxes and state slots that things start with, and what a read past an array gives.
use Rattle.std.specs.Prelude.{ℕ, false, List, [], ◌∷◌, pos, get_or, replicate}
use Rattle.boxes.specs.declared.Style.{Style}
use Rattle.boxes.specs.declared.Edges.{Edges}
use Rattle.boxes.specs.declared.Rect.{Rect}
use Rattle.boxes.specs.declared.LayoutSlot.{LayoutSlot}
use Rattle.boxes.specs.declared.StateSlot.{StateSlot}
use Rattle.boxes.specs.declared.StatePatch.{StatePatch}
use Rattle.boxes.specs.declared.Direction.TheVariants.{Row}
use Rattle.boxes.specs.declared.Size.{Size}
use Rattle.boxes.specs.declared.Size.TheVariants.{Auto}
use Rattle.boxes.specs.declared.Align.TheVariants.{Start}

-- The table entry that means the base style.
abbrev pub no_patch : ℕ
no_patch = 65535

abbrev pub no_edges : Edges
no_edges = record { left = pos 0; right = pos 0; top = pos 0; bottom = pos 0 }

-- A style of a width, a height and four background bytes, all else at its default.
abbrev pub plain_style : Size → Size → List ℕ → Style
plain_style w h bytes = record { direction = Row; width = w; height = h; margin = no_edges; padding = no_edges; gap = pos 0; grow = 0; justify = Start; align_cross = Start; background = bytes }

-- A new node's style, but for its width and height.
abbrev pub sized_style : Size → Size → Style
sized_style w h = plain_style w h (0 ∷ 0 ∷ 0 ∷ 0 ∷ [])

-- A new node's style, box, layout slot and state slot.
abbrev pub fresh_style : Style
fresh_style = sized_style Auto Auto

abbrev pub no_rect : Rect
no_rect = record { x = pos 0; y = pos 0; width = pos 0; height = pos 0 }

abbrev pub fresh_layout : LayoutSlot
fresh_layout = record { style = fresh_style; rect = no_rect; wanted_width = pos 0; wanted_height = pos 0 }

abbrev pub fresh_table : List ℕ
fresh_table = replicate 16 no_patch

abbrev pub bare_state : Style → StateSlot
bare_state base' = record { table = fresh_table; base = base'; applied = no_patch; bits = 0 }

abbrev pub fresh_state : StateSlot
fresh_state = bare_state fresh_style

-- What a read past an array gives.
abbrev pub no_style : Style
no_style = plain_style Auto Auto []

abbrev pub no_layout : LayoutSlot
no_layout = record { style = no_style; rect = no_rect; wanted_width = pos 0; wanted_height = pos 0 }

abbrev pub no_state : StateSlot
no_state = record { table = []; base = no_style; applied = 0; bits = 0 }

abbrev pub no_state_patch : StatePatch
no_state_patch = record { style = no_style; touches_layout = false }

unfoldable pub layout_at : List LayoutSlot → ℕ → LayoutSlot
layout_at l i = get_or l i no_layout

unfoldable pub state_at : List StateSlot → ℕ → StateSlot
state_at l i = get_or l i no_state
