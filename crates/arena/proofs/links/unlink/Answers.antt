-- Each branch is its side of the definition's test, and each change what its closure says. Assumes nothing.
use Rattle.std.proofs.Common.{◌≡◌, rules, eq-eqb, ne_eqb}
use Rattle.arithmetic.specs.Tests.{same}
use Rattle.arena.specs.Slots.{change, set_first, set_last, set_prev, set_next, unlink, unlink_from}
use Rattle.arena.proofs.links.unlink.Goals as goal
use Rattle.arena.proofs.links.unlink.Goals.{then-prev, else-prev}

pub returns-then-next : goal.returns-then-next
unfolding unlink unlink_from same change
returns-then-next c =
    let a = c.args in
    let s = c.slot_at-s.result in
    let e : c.change-then-next.new.slots ≡ change c.if-prev.slots s.parent (set_last s.prev_sibling) = search rules in
    elim c.if-prev.branch [
      | then-prev w ↦
          let f : w.change.new.slots ≡ change a.slots.now s.parent (set_first s.next_sibling) = search rules in
          simp (e, w.slots-is, f, ← c.slot_at-s.ensures, eq-eqb _ _ w.if-prev.true, eq-eqb _ _ c.if-next.true)
      | else-prev w ↦
          let f : w.change-else-prev.new.slots ≡ change a.slots.now s.prev_sibling (set_next s.next_sibling) = search rules in
          simp (e, w.slots-is, f, ← c.slot_at-s.ensures, ne_eqb _ _ w.if-prev.false, eq-eqb _ _ c.if-next.true)
    ]

pub returns-else-next : goal.returns-else-next
unfolding unlink unlink_from same change
returns-else-next c =
    let a = c.args in
    let s = c.slot_at-s.result in
    let e : c.change-else-next.new.slots ≡ change c.if-prev.slots s.next_sibling (set_prev s.prev_sibling) = search rules in
    elim c.if-prev.branch [
      | then-prev w ↦
          let f : w.change.new.slots ≡ change a.slots.now s.parent (set_first s.next_sibling) = search rules in
          simp (e, w.slots-is, f, ← c.slot_at-s.ensures, eq-eqb _ _ w.if-prev.true, ne_eqb _ _ c.if-next.false)
      | else-prev w ↦
          let f : w.change-else-prev.new.slots ≡ change a.slots.now s.prev_sibling (set_next s.next_sibling) = search rules in
          simp (e, w.slots-is, f, ← c.slot_at-s.ensures, ne_eqb _ _ w.if-prev.false, ne_eqb _ _ c.if-next.false)
    ]
