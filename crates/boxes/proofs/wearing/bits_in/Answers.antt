-- An id that may be missing equals this one just where it is this one's. Assumes nothing.
use Rattle.std.proofs.Common.{◌≡◌, refl, ◌∙◌}
use Rattle.std.specs.Prelude.{Option, Some, None}
use Rattle.std.specs.Option.{option_eq}
use Rattle.field.specs.declared.NodeId.{NodeId}
use Rattle.field.specs.contracts.NodeIdPartialEq.TheImpl.{eq-value}
use Rattle.arithmetic.specs.Tests.{same}
use Rattle.arena.specs.Slots.{is_id}
use Rattle.boxes.proofs.wearing.bits_in.Goals as goal

is_this : (m : Option NodeId) (d : NodeId) → option_eq eq-value.it m (Some d) ≡ is_id m d
unfolding same
is_this None d = refl
is_this (Some e) d = refl

pub returns : goal.returns
returns c =
    let m = c.args.marks in
    rw (
      ← c.eq.ensures ∙ is_this m.hover _,
      ← c.eq-2.ensures ∙ is_this m.pressed _,
      ← c.eq-3.ensures ∙ is_this m.focus _,
    ) c.bits_of.ensures
