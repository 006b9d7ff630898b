-- By whether there is a press, and whether it is hit again. Assumes nothing.
use Rattle.std.proofs.Common.{◌≡◌, sym, ◌∙◌, true, false, rules}
use Rattle.arithmetic.specs.Tests.{same}
use Rattle.arena.specs.Slots.{is_id}
use Rattle.tree.specs.Trees.{with_interaction}
use Rattle.arena.proofs.Owners.Places.{is_id_by}
use Rattle.desk.proofs.events.release.Goals as goal
use Rattle.desk.proofs.events.release.Goals.{in_default-via-in-Some+else-eq, in_default-via-in_default}

pub returns-in-Some : goal.returns-in-Some
unfolding same
returns-in-Some c =
    let e : is_id c.args.hit c.in-Some.d ≡ true = sym (c.eq.ensures ∙ is_id_by _ c.args.hit c.in-Some.d (λ a b. search rules)) ∙ c.if-eq.true in
    rw (c.in-Some.is, e) c.activate.ensures

pub returns-in_default : goal.returns-in_default
unfolding with_interaction same
returns-in_default c =
    elim c.in_default.branch [
      | in_default-via-in-Some+else-eq w ↦
          let e : is_id c.args.hit w.in-Some.d ≡ false = sym (w.eq.ensures ∙ is_id_by _ c.args.hit w.in-Some.d (λ a b. search rules)) ∙ w.if-eq.false in
          rw (w.in-Some.is, e)
      | in_default-via-in_default w ↦ rw w.in_default.is
    ]
