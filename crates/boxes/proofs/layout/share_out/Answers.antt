-- Without a plan every share is 0 and all is left free; a plan shares the whole leftover. Assumes nothing.
use mathlib.Core.Bool.{false}
use mathlib.Core.Path.{◌≡◌, sym, ◌∙◌, ap}
use lib.IntN.{ℤ, pos}
use lib.Signed.{le_z}
use lib.Dec.{ltb}
use lib.ListN.{length}
use native.Mathlib.Omega.{arith}
use borrow.Author.Rules.{rules}
use mir.Facts.{to_z-of_z}
use Rattle.arithmetic.specs.Growth.{grow_sum, plan_growth}
use Rattle.boxes.proofs.Layouts.Sharing.{no_plan_of_no_leftover, no_plan_of_no_grow, free_of_no_plan, free_of_plan, some_grows}
use Rattle.boxes.proofs.layout.share_out.Goals as goal

pub returns-then-leftover-le0 : goal.returns-then-leftover-le0
returns-then-leftover-le0 c = let a = c.args in
    let none = no_plan_of_no_leftover a.leftover a.grows.now a.count (simp (to_z-of_z c.ranges.leftover) at c.if-leftover-le0.true) in
    record { shared = none; rest = free_of_no_plan a.leftover a.grows.now a.count c.ranges.leftover.sfits none }

pub returns-then-some : goal.returns-then-some
returns-then-some c = let a = c.args in
    let one : ltb 0 (grow_sum a.grows.now a.count) ≡ c.some_grow-some.result = sym (c.some_grow-some.ensures ∙ some_grows a.grows.now a.count (let h : length a.grows.now ≡ 128 = search rules in omega (arith, h, c.requires))) in
    let some : le_z a.leftover (pos 0) ≡ false = simp (to_z-of_z c.ranges.leftover) at c.if-leftover-le0.false in
    record { shared = c.plan_growth-planned.ensures ∙ ap (λ (z : ℤ). plan_growth z a.grows.now a.count) (to_z-of_z c.ranges.leftover); rest = free_of_plan a.leftover a.grows.now a.count c.requires some (one ∙ c.if-some.true) }

pub returns : goal.returns
returns c = let a = c.args in
    let one : ltb 0 (grow_sum a.grows.now a.count) ≡ c.some_grow-some.result = sym (c.some_grow-some.ensures ∙ some_grows a.grows.now a.count (let h : length a.grows.now ≡ 128 = search rules in omega (arith, h, c.requires))) in
    let none = no_plan_of_no_grow a.leftover a.grows.now a.count c.requires (one ∙ c.if-some.false) in
    record { shared = none; rest = free_of_no_plan a.leftover a.grows.now a.count c.ranges.leftover.sfits none }
