-- `grow_sum` sums the grows, each of which is at most 2^32 - 1. Assumes nothing.
use mathlib.Core.Path.{◌≡◌, ◌∙◌}
use Prim.Native.Nat.{ℕ}
use native.Mathlib.Omega.{arith}
use borrow.Author.Rules.{rules}
use lib.ListN.{get_or, length}
use mir.Syntax.{w32}
use mir.Val.{Fits}
use Rattle.std.specs.Prelude.{sum}
use Rattle.arithmetic.specs.Growth.{grow_sum}
use Rattle.arithmetic.proofs.Sums.{sum_of_places, bounded_summands_bounded_sum}
use Rattle.arithmetic.proofs.growth.grow_sum.Goals as goal

pub returns : goal.returns
unfolding grow_sum
returns c =
    let fits : (k : ℕ) → Fits w32 (get_or c.args.grows.now k 0) = λ k. search rules in
    let e : c.sum.result ≡ sum c.args.grows.now = search rules in
    let n : ℕ = length c.args.grows.now in
    let r = e ∙ sum_of_places c.args.grows.now in
    (r, omega (arith, r, c.requires, bounded_summands_bounded_sum (λ (k : ℕ). get_or c.args.grows.now k 0) 4294967295 n (λ k h. omega (arith, fits k))))
