-- Past the slots a slot of zeros is read. Assumes nothing.
use mathlib.Core.Path.{◌≡◌}
use lib.ListN.{length}
use native.Mathlib.Omega.{arith}
use borrow.Author.Rules.{rules}
use Rattle.boxes.proofs.Styles.Wearings.{wear_past}
use Rattle.tree.specs.Wearing.{appearance_of, with_appearance}
use Rattle.tree.specs.Trees.{pool_of, with_styles}
use Rattle.tree.proofs.wearing.wear.Goals as goal

pub returns-then-i-ge128 : goal.returns-then-i-ge128
unfolding with_appearance with_styles
returns-then-i-ge128 c = let u = c.args.u.now in
    let h : length u.layout ≡ 128 = search rules in
    let g : length u.states ≡ 128 = search rules in
    rw (wear_past (pool_of u) (appearance_of u) c.args.i c.args.bits (omega (arith, h, c.if-i-ge128.true)) (omega (arith, g, c.if-i-ge128.true)), ← c.pool-pool.ensures, c.touches.ensures, c.touches-then-i-ge128.ensures) (search rules)
