-- The tree's getters and setters: definitions touch the tree through these alone, so that a field more changes this file.
use Rattle.std.specs.Prelude.{ℕ, Bool, true, false, List, length, take}
use Rattle.arithmetic.specs.Scalar.{incremented}
use Rattle.field.specs.declared.NodeId.{NodeId}
use Rattle.field.specs.declared.Field.{Field}
use Rattle.tree.specs.declared.Ui.{Ui}
use Rattle.arena.specs.declared.Slot.{Slot}
use Rattle.boxes.specs.declared.LayoutSlot.{LayoutSlot}
use Rattle.boxes.specs.declared.StateSlot.{StateSlot}
use Rattle.boxes.specs.declared.StatePatch.{StatePatch}
use Rattle.tree.specs.declared.Interaction.{Interaction}
use Rattle.boxes.specs.declared.Viewport.{Viewport}
use Rattle.arithmetic.specs.Tests.{over}

-- The limit in force, the pool, the stated slots and the waiting outputs, oldest first.
abbrev pub limit_of : Ui → ℕ
limit_of u = u.limits.nodes

abbrev pub pool_of : Ui → List StatePatch
pool_of u = take u.patch_count u.patches

abbrev pub stated_of : Ui → List ℕ
stated_of u = take u.stated_count u.stated

abbrev pub waiting_of : Ui → List NodeId
waiting_of u = take u.output_count u.outputs

-- Nodes came or went: the next pass is due.
unfoldable pub with_nodes : Ui → List Slot → List LayoutSlot → List StateSlot → ℕ → ℕ → Ui
with_nodes u slots' layout' states' free' live' = record { slots = slots'; layout = layout'; dirty = true; solved_for = u.solved_for; interaction = u.interaction; outputs = u.outputs; output_count = u.output_count; states = states'; patches = u.patches; patch_count = u.patch_count; stated = u.stated; stated_count = u.stated_count; layout_passes = u.layout_passes; free = free'; live = live'; limits = u.limits; fields = u.fields }

-- Other styles, tables or bits.
unfoldable pub with_styles : Ui → List LayoutSlot → List StateSlot → Bool → Ui
with_styles u layout' states' dirty' = record { slots = u.slots; layout = layout'; dirty = dirty'; solved_for = u.solved_for; interaction = u.interaction; outputs = u.outputs; output_count = u.output_count; states = states'; patches = u.patches; patch_count = u.patch_count; stated = u.stated; stated_count = u.stated_count; layout_passes = u.layout_passes; free = u.free; live = u.live; limits = u.limits; fields = u.fields }

-- Another pool, with no slot stated.
unfoldable pub with_pool : Ui → List StatePatch → ℕ → Ui
with_pool u patches' count' = record { slots = u.slots; layout = u.layout; dirty = u.dirty; solved_for = u.solved_for; interaction = u.interaction; outputs = u.outputs; output_count = u.output_count; states = u.states; patches = patches'; patch_count = count'; stated = u.stated; stated_count = 0; layout_passes = u.layout_passes; free = u.free; live = u.live; limits = u.limits; fields = u.fields }

-- Other stated slots.
unfoldable pub with_stated : Ui → List ℕ → Ui
with_stated u stated' = record { slots = u.slots; layout = u.layout; dirty = u.dirty; solved_for = u.solved_for; interaction = u.interaction; outputs = u.outputs; output_count = u.output_count; states = u.states; patches = u.patches; patch_count = u.patch_count; stated = over stated' u.stated; stated_count = length stated'; layout_passes = u.layout_passes; free = u.free; live = u.live; limits = u.limits; fields = u.fields }

-- Other fields.
unfoldable pub with_fields : Ui → List Field → Ui
with_fields u fields' = record { slots = u.slots; layout = u.layout; dirty = u.dirty; solved_for = u.solved_for; interaction = u.interaction; outputs = u.outputs; output_count = u.output_count; states = u.states; patches = u.patches; patch_count = u.patch_count; stated = u.stated; stated_count = u.stated_count; layout_passes = u.layout_passes; free = u.free; live = u.live; limits = u.limits; fields = fields' }

-- A pass was made for a viewport.
unfoldable pub with_pass : Ui → List LayoutSlot → Viewport → Ui
with_pass u layout' viewport = record { slots = u.slots; layout = layout'; dirty = false; solved_for = viewport; interaction = u.interaction; outputs = u.outputs; output_count = u.output_count; states = u.states; patches = u.patches; patch_count = u.patch_count; stated = u.stated; stated_count = u.stated_count; layout_passes = incremented u.layout_passes; free = u.free; live = u.live; limits = u.limits; fields = u.fields }

-- Another interaction.
unfoldable pub with_interaction : Ui → Interaction → Ui
with_interaction u interaction' = record { slots = u.slots; layout = u.layout; dirty = u.dirty; solved_for = u.solved_for; interaction = interaction'; outputs = u.outputs; output_count = u.output_count; states = u.states; patches = u.patches; patch_count = u.patch_count; stated = u.stated; stated_count = u.stated_count; layout_passes = u.layout_passes; free = u.free; live = u.live; limits = u.limits; fields = u.fields }

-- Other waiting outputs.
unfoldable pub with_waiting : Ui → List NodeId → Ui
with_waiting u waiting = record { slots = u.slots; layout = u.layout; dirty = u.dirty; solved_for = u.solved_for; interaction = u.interaction; outputs = over waiting u.outputs; output_count = length waiting; states = u.states; patches = u.patches; patch_count = u.patch_count; stated = u.stated; stated_count = u.stated_count; layout_passes = u.layout_passes; free = u.free; live = u.live; limits = u.limits; fields = u.fields }
