-- Each branch is its side of the definition's test, and each change what its closure says. Assumes nothing.
use Rattle.std.proofs.Common.{◌≡◌, rules, eq-eqb, ne_eqb}
use Rattle.arithmetic.specs.Tests.{same}
use Rattle.arena.specs.Slots.{change, set_first, set_last, set_prev, set_next, link_last, link_after}
use Rattle.arena.proofs.links.link_last.Goals as goal
use Rattle.arena.proofs.links.link_last.Goals.{then-last, else-last}

pub returns : goal.returns
unfolding link_last link_after same change
returns c =
    let a = c.args in
    let e : c.change-2.new.slots ≡ change c.if-last.slots a.parent (set_last a.index) = search rules in
    elim c.if-last.branch [
      | then-last w ↦
          let f : w.change.new.slots ≡ change a.slots.now a.parent (set_first a.index) = search rules in
          simp (e, w.slots-is, f, ← c.slot_at-last.ensures, eq-eqb _ _ w.if-last.true)
      | else-last w ↦
          let f : w.change-else-last.new.slots ≡ change a.slots.now c.slot_at-last.result.last_child (set_next a.index) = search rules in
          let g : w.change-else-last-2.new.slots ≡ change w.change-else-last.new.slots a.index (set_prev c.slot_at-last.result.last_child) = search rules in
          simp (e, w.slots-is, g, f, ← c.slot_at-last.ensures, ne_eqb _ _ w.if-last.false)
    ]
