-- The derived equality of a tree, and of all that stands in one, says whether two values are one.
use mathlib.Core.Bool.{Bool}
use Rattle.std.proofs.Common.{◌≡◌, rules, Option, None, Some}
use Rattle.std.proofs.lemmas.Bool.Decides.{Decides-eqb, Decides-int_eq, Decides-and}
use Rattle.std.specs.Bool.{Decides}
use Rattle.std.specs.Cmp.{booleans_Decides}
use Rattle.std.specs.Cmp.Lexicographic.{bytes_decides, pointwise_decides}
use Rattle.std.specs.Option.{option_eq}
use Rattle.arena.specs.declared.Slot.{Slot}
use Rattle.boxes.specs.declared.Align.{Align}
use Rattle.boxes.specs.declared.Direction.{Direction}
use Rattle.boxes.specs.declared.Size.{Size}
use Rattle.boxes.specs.declared.Edges.{Edges}
use Rattle.boxes.specs.declared.Rect.{Rect}
use Rattle.boxes.specs.declared.Style.{Style}
use Rattle.boxes.specs.declared.LayoutSlot.{LayoutSlot}
use Rattle.boxes.specs.declared.StateSlot.{StateSlot}
use Rattle.boxes.specs.declared.StatePatch.{StatePatch}
use Rattle.boxes.specs.declared.Pixel.{Pixel}
use Rattle.boxes.specs.declared.Viewport.{Viewport}
use Rattle.field.specs.declared.NodeId.{NodeId}
use Rattle.field.specs.declared.Field.{Field}
use Rattle.tree.specs.declared.Interaction.{Interaction}
use Rattle.tree.specs.declared.Ui.{Ui}
use Rattle.arena.specs.contracts.SlotPartialEq.TheImpl as slot
use Rattle.boxes.specs.contracts.AlignPartialEq.TheImpl as align
use Rattle.boxes.specs.contracts.DirectionPartialEq.TheImpl as direction
use Rattle.boxes.specs.contracts.SizePartialEq.TheImpl as size
use Rattle.boxes.specs.contracts.EdgesPartialEq.TheImpl as edges
use Rattle.boxes.specs.contracts.RectPartialEq.TheImpl as rect
use Rattle.boxes.specs.contracts.StylePartialEq.TheImpl as style
use Rattle.boxes.specs.contracts.LayoutSlotPartialEq.TheImpl as box
use Rattle.boxes.specs.contracts.StateSlotPartialEq.TheImpl as state
use Rattle.boxes.specs.contracts.StatePatchPartialEq.TheImpl as patch
use Rattle.boxes.specs.contracts.PixelPartialEq.TheImpl as pixel
use Rattle.boxes.specs.contracts.ViewportPartialEq.TheImpl as view
use Rattle.field.specs.contracts.NodeIdPartialEq.TheImpl as node
use Rattle.field.specs.contracts.FieldPartialEq.TheImpl as field
use Rattle.tree.specs.contracts.InteractionPartialEq.TheImpl as interaction
use Rattle.tree.specs.contracts.UiPartialEq.TheImpl as ui

pub same_slot : (a b : Slot) → Decides (slot.eq-value.it a b) (a ≡ b)
same_slot a b = search rules

pub same_node : (a b : NodeId) → Decides (node.eq-value.it a b) (a ≡ b)
same_node a b = search rules

pub same_align : (a b : Align) → Decides (align.eq-value.it a b) (a ≡ b)
same_align a b = search rules

pub same_direction : (a b : Direction) → Decides (direction.eq-value.it a b) (a ≡ b)
same_direction a b = search rules

pub same_size : (a b : Size) → Decides (size.eq-value.it a b) (a ≡ b)
same_size a b = search (rules, Decides-int_eq)

pub same_edges : (a b : Edges) → Decides (edges.eq-value.it a b) (a ≡ b)
same_edges a b =
    let d =
    Decides-and _ _ (Decides-int_eq a.left b.left) (
    Decides-and _ _ (Decides-int_eq a.right b.right) (
    Decides-and _ _ (Decides-int_eq a.top b.top) (
    Decides-int_eq a.bottom b.bottom))) in
    search (rules, d)

pub same_rect : (a b : Rect) → Decides (rect.eq-value.it a b) (a ≡ b)
same_rect a b =
    let d =
    Decides-and _ _ (Decides-int_eq a.x b.x) (
    Decides-and _ _ (Decides-int_eq a.y b.y) (
    Decides-and _ _ (Decides-int_eq a.width b.width) (
    Decides-int_eq a.height b.height))) in
    search (rules, d)

pub same_style : (a b : Style) → Decides (style.eq-value.it a b) (a ≡ b)
same_style a b =
    let d =
    Decides-and _ _ (same_size a.width b.width) (
    Decides-and _ _ (same_size a.height b.height) (
    Decides-and _ _ (same_edges a.margin b.margin) (
    Decides-and _ _ (same_edges a.padding b.padding) (
    Decides-and _ _ (Decides-int_eq a.gap b.gap) (
    Decides-and _ _ (Decides-eqb a.grow b.grow) (
    Decides-and _ _ (same_direction a.direction b.direction) (
    Decides-and _ _ (same_align a.justify b.justify) (
    Decides-and _ _ (same_align a.align_cross b.align_cross) (
    bytes_decides a.background b.background))))))))) in
    search (rules, d)

pub same_box : (a b : LayoutSlot) → Decides (box.eq-value.it a b) (a ≡ b)
same_box a b =
    let d =
    Decides-and _ _ (same_style a.style b.style) (
    Decides-and _ _ (same_rect a.rect b.rect) (
    Decides-and _ _ (Decides-int_eq a.wanted_width b.wanted_width) (
    Decides-int_eq a.wanted_height b.wanted_height))) in
    search (rules, d)

pub same_state : (a b : StateSlot) → Decides (state.eq-value.it a b) (a ≡ b)
same_state a b =
    let d =
    Decides-and _ _ (bytes_decides a.table b.table) (
    Decides-and _ _ (Decides-eqb a.applied b.applied) (
    Decides-and _ _ (Decides-eqb a.bits b.bits) (
    same_style a.base b.base))) in
    search (rules, d)

pub same_patch : (a b : StatePatch) → Decides (patch.eq-value.it a b) (a ≡ b)
same_patch a b =
    let d =
    Decides-and _ _ (same_style a.style b.style) (
    booleans_Decides a.touches_layout b.touches_layout) in
    search (rules, d)

pub same_field : (a b : Field) → Decides (field.eq-value.it a b) (a ≡ b)
same_field a b = search rules

pub same_pixel : (a b : Pixel) → Decides (pixel.eq-value.it a b) (a ≡ b)
same_pixel a b = search (rules, Decides-int_eq)

pub same_option : {A : Type 0} {E : A → A → Bool} → ((a b : A) → Decides (E a b) (a ≡ b)) → (a b : Option A) → Decides (option_eq E a b) (a ≡ b)
same_option h None None = search rules
same_option h None (Some y) = search rules
same_option h (Some x) None = search rules
same_option h (Some x) (Some y) = let d = h x y in search (rules, d)

pub same_interaction : (a b : Interaction) → Decides (interaction.eq-value.it a b) (a ≡ b)
same_interaction a b =
    let d =
    Decides-and _ _ (same_option same_pixel a.pointer b.pointer) (
    Decides-and _ _ (same_option same_node a.pressed b.pressed) (
    Decides-and _ _ (same_option same_node a.focus b.focus) (
    Decides-and _ _ (Decides-eqb a.activations b.activations) (
    Decides-and _ _ (Decides-eqb a.decisions b.decisions) (
    Decides-and _ _ (Decides-eqb a.edit_fold b.edit_fold) (
    Decides-eqb a.overflowed b.overflowed)))))) in
    search (rules, d)

pub same_view : (a b : Viewport) → Decides (view.eq-value.it a b) (a ≡ b)
same_view a b =
    let d =
    Decides-and _ _ (Decides-int_eq a.width b.width) (
    Decides-int_eq a.height b.height) in
    search (rules, d)

pub same_ui : (a b : Ui) → Decides (ui.eq-value.it a b) (a ≡ b)
same_ui a b =
    let d =
    Decides-and _ _ (pointwise_decides same_slot a.slots b.slots) (
    Decides-and _ _ (pointwise_decides same_box a.layout b.layout) (
    Decides-and _ _ (booleans_Decides a.dirty b.dirty) (
    Decides-and _ _ (same_view a.solved_for b.solved_for) (
    Decides-and _ _ (same_interaction a.interaction b.interaction) (
    Decides-and _ _ (pointwise_decides same_node a.outputs b.outputs) (
    Decides-and _ _ (Decides-eqb a.output_count b.output_count) (
    Decides-and _ _ (pointwise_decides same_state a.states b.states) (
    Decides-and _ _ (pointwise_decides same_patch a.patches b.patches) (
    Decides-and _ _ (Decides-eqb a.patch_count b.patch_count) (
    Decides-and _ _ (bytes_decides a.stated b.stated) (
    Decides-and _ _ (Decides-eqb a.stated_count b.stated_count) (
    Decides-and _ _ (Decides-eqb a.layout_passes b.layout_passes) (
    Decides-and _ _ (Decides-eqb a.free b.free) (
    Decides-and _ _ (Decides-eqb a.live b.live) (
    Decides-and _ _ (Decides-eqb a.limits.nodes b.limits.nodes) (
    pointwise_decides same_field a.fields b.fields)))))))))))))))) in
    search (rules, d)
