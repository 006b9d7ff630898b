-- Each part by its contract; as many nodes go as are listed. Assumes nothing.
use mathlib.Core.Path.{◌≡◌, sym, ap, ◌∙◌}
use native.Mathlib.Omega.{arith}
use mathlib.Core.List.{List}
use lib.ListN.{length}
use lib.Seq.{length-take-le}
use Rattle.arena.specs.Slots.{unlink}
use Rattle.arena.specs.Support.Lists.{listed, walked}
use Rattle.arena.specs.declared.Slot.{Slot}
use Rattle.tree.specs.Trees.{with_nodes}
use borrow.Author.Rules.{rules}
use Rattle.tree.proofs.nodes.remove_at.Goals as goal

pub returns : goal.returns
unfolding with_nodes listed
returns c =
    let o = c.freed_order-order.result in
    let i = c.args.index in
    let long : length o.items ≡ 128 = search rules in
    let gone : listed o ≡ walked (unlink c.args.u.now.slots i) i = c.freed_order-order.ensures.1 ∙ ap (λ (s : List Slot). walked s i) c.unlink.ensures in
    let n : o.count ≡ length (walked (unlink c.args.u.now.slots i) i) = sym (length-take-le o.count o.items (omega (arith, c.freed_order-order.ensures.0))) ∙ ap length gone in
    rw (c.saturating_sub-u.ensures, c.reset_states.ensures, c.free_listed-u.ensures.0, c.free_listed-u.ensures.1, gone, c.unlink.ensures, n)
