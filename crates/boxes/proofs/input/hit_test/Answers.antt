-- By whether the root's box holds the pixel. Assumes nothing.
use Rattle.std.specs.Prelude.{Option, Some}
use mathlib.Core.Bool.{true, false}
use mathlib.Core.Path.{◌≡◌, sym, ◌∙◌, ap}
use Rattle.boxes.proofs.Hits.HitSteps.{holds_at_lem}
use Rattle.boxes.specs.Hit.{holds_at, hit_at}
use Rattle.arena.specs.Slots.{id_at}
use Rattle.field.specs.declared.NodeId.{NodeId}
use Rattle.boxes.proofs.input.hit_test.Goals as goal

pub returns-then-contains : goal.returns-then-contains
unfolding hit_at
returns-then-contains c = let a = c.args in
    let t : holds_at a.layout.now a.pixel 0 ≡ true = sym (holds_at_lem a.layout.now a.pixel 0 _ c.contains.ensures) ∙ c.if-contains.true in
    rw t (ap {B = Option NodeId} (λ (d : NodeId). Some d) (c.id_at-id.ensures ∙ ap (id_at a.slots.now) c.descend-at.ensures))

pub returns : goal.returns
unfolding hit_at
returns c = let a = c.args in
    let t : holds_at a.layout.now a.pixel 0 ≡ false = sym (holds_at_lem a.layout.now a.pixel 0 _ c.contains.ensures) ∙ c.if-contains.false in
    rw t
