-- The types of arena that the tree is made of, under the tree's name.
pub use Rattle.boxes.specs.declared.Edges.{Edges}
pub use Rattle.boxes.specs.declared.Style.{Style}
pub use Rattle.boxes.specs.declared.Rect.{Rect}
pub use Rattle.arena.specs.declared.Slot.{Slot}
pub use Rattle.boxes.specs.declared.LayoutSlot.{LayoutSlot}
pub use Rattle.boxes.specs.declared.StateSlot.{StateSlot}
pub use Rattle.boxes.specs.declared.StatePatch.{StatePatch}
pub use Rattle.boxes.specs.declared.Pixel.{Pixel}
pub use Rattle.boxes.specs.declared.StartKind.{StartKind}
pub use Rattle.boxes.specs.declared.Viewport.{Viewport}
