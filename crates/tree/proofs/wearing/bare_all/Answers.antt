-- Slot after slot, until none is left. Assumes nothing.
use mathlib.Core.Path.{◌≡◌, ap, ◌∙◌}
use lib.ListN.{length}
use lib.Seq.{get_or-set_same}
use native.Mathlib.Omega.{arith}
use borrow.Author.Rules.{rules}
use Rattle.std.proofs.Common.{eq-eqb, ne_eqb}
use Rattle.arithmetic.specs.Tests.{same}
use Rattle.boxes.specs.States.{with_style, bared}
use Rattle.boxes.specs.Styles.{no_state, layout_at, state_at}
use Rattle.boxes.specs.declared.StateSlot.{StateSlot}
use Rattle.tree.specs.Trees.{limit_of, with_styles}
use Rattle.tree.specs.Wearing.{appearance_of, with_appearance}
use Rattle.tree.proofs.Wearings.{bare_more, bare_done, bared_as_it_is, bared_anew}
use Rattle.tree.proofs.wearing.bare_all.Goals as goal
use Rattle.tree.proofs.wearing.bare_all.Goals.{then-worn, else-worn}

pub loop-k-preserved : goal.loop-k-preserved
unfolding with_styles layout_at state_at same
loop-k-preserved c =
    let v = c.loop-k.u in
    let k = c.loop-k.k in
    let long : length v.states ≡ 128 = search rules in
    let next : c.if-worn.u ≡ with_appearance v (bared (appearance_of v) k) =
    elim c.if-worn.branch [
      | then-worn w ↦
          let kept = ap (λ (s : StateSlot). s.base) (get_or-set_same v.states k c.strip.new.s no_state (omega (arith, long, c.requires, c.loop-k-test.true)) ∙ c.strip.ensures) in
          w.u-is ∙ bared_anew v k c.strip.ensures (ne_eqb _ _ w.if-worn.true) (w.put_style.ensures ∙ ap (with_style (layout_at v.layout k)) kept)
      | else-worn w ↦ w.u-is ∙ bared_as_it_is v k c.strip.ensures (eq-eqb _ _ w.if-worn.false)
    ] in
    bare_more c.args.u.now v c.if-worn.u k (limit_of c.args.u.now) c.loop-k-test.true next c.loop-k.invariant

pub returns : goal.returns
returns c = bare_done c.args.u.now c.loop-k.u c.loop-k.u c.loop-k.k (limit_of c.args.u.now) (omega arith) c.loop-k.invariant
