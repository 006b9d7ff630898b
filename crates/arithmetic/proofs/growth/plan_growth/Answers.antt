-- `plan_growth` gives the planned shares: none where nothing is left over or nothing grows, otherwise the whole shares with the missing units given.
-- Assumes nothing.
use mathlib.Core.Path.{◌≡◌, refl, sym, ◌∙◌, ap}
use mathlib.Core.Bool.{false}
use Prim.Native.Nat.{ℕ, ◌<◌, ◌^◌, min}
use native.Mathlib.Omega.{arith}
use borrow.Author.Rules.{rules}
use lib.IntN.{ℤ, pos, negsuc, nat_abs}
use lib.ListN.{length, take}
use lib.Seq.{length-take-le}
use lib.Signed.{le_z}
use mir.Syntax.{w64}
use mir.Val.{SFits}
use mir.Facts.{to_z-of_z}
use Rattle.arithmetic.specs.Growth.{table, grow_sum, missing}
use Rattle.arithmetic.specs.declared.growth.Parts.{Parts}
use Rattle.arithmetic.specs.Support.Steps.{PartsOf}
use Rattle.arithmetic.proofs.GrowthPlans.{grow_sum_of_front, parts_of_front, plan_of_no_leftover, plan_of_no_grow, parts_have_room, plan_by_parts}
use Rattle.arithmetic.proofs.growth.plan_growth.Goals as goal
use Rattle.arithmetic.proofs.growth.plan_growth.Goals.{After-grow_sum-t}

positive_below_end : (l : ℤ) → le_z l (pos 0) ≡ false → SFits w64 l → nat_abs l < 2 ^ 63
positive_below_end (pos n) h f = omega arith
positive_below_end (negsuc n) h f = let z : ◌≡◌ {A = ℕ} 0 1 = cc in absurd (omega arith)

module _ (c : After-grow_sum-t) where
  abbrev n : ℕ
  n = c.min.result

  n_is : n ≡ min c.args.count 128
  n_is = search rules

  front_is : length (take n c.args.grows) ≡ n
  front_is = length-take-le n c.args.grows (search rules)

  sum_is : c.grow_sum-t.result ≡ grow_sum c.args.grows n
  sum_is = c.grow_sum-t.ensures.0 ∙ ap (grow_sum (take n c.args.grows)) front_is ∙ grow_sum_of_front 0 c.args.grows n

pub returns-then-leftover-le0 : goal.returns-then-leftover-le0
unfolding table
returns-then-leftover-le0 c = plan_of_no_leftover _ _ _ (simp (to_z-of_z c.ranges.leftover) at c.if-leftover-le0.true)

pub returns-then-t-eq0 : goal.returns-then-t-eq0
unfolding table
returns-then-t-eq0 c =
    plan_of_no_grow _ _ _ (sym (ap (grow_sum c.args.grows) (n_is c.before)) ∙ sym (sum_is c.before) ∙ c.if-t-eq0.true)

module _ (c : goal.After-struct_known-1) where
  abbrev before : After-grow_sum-t
  before = c.before.before.before.before

  abbrev places : ℕ
  places = n before

  abbrev given : Parts
  given = c.whole_shares-parts.result

  left_over : le_z c.args.leftover (pos 0) ≡ false
  left_over = simp (to_z-of_z c.ranges.leftover) at c.if-leftover-le0.false

  some_grow : 0 < grow_sum c.args.grows places
  some_grow = omega (arith, sum_is before)

  leftover_is : c.unsigned_abs-l.result ≡ nat_abs c.args.leftover
  leftover_is = c.unsigned_abs-l.ensures.value ∙ ap nat_abs (to_z-of_z c.ranges.leftover)

  parts : PartsOf (nat_abs c.args.leftover) c.args.grows places given.shares given.keys given.given
  parts =
      let l : c.unsigned_abs-l.result ≡ nat_abs c.args.leftover = leftover_is in
      let e = front_is before in
      parts_of_front (nat_abs c.args.leftover) c.args.grows places (rw (l, e) at c.whole_shares-parts.ensures)

pub give_units-requires : goal.give_units-requires
unfolding missing
give_units-requires c =
    rw (front_is (before c))
    (parts_have_room _ _ _ _ _ _ _ (some_grow c) (parts c) (simp (leftover_is c, (parts c).given_is) refl) (positive_below_end c.args.leftover (left_over c) c.ranges.leftover) (omega (arith, n_is (before c))))

pub returns : goal.returns
unfolding missing
returns c =
    let b = c.before in
    let units = rw (front_is (before b)) at c.give_units.ensures in
    units ∙ plan_by_parts c.args.leftover _ _ _ _ _ _ _ (n_is (before b)) (left_over b) (some_grow b) (parts b) (simp (leftover_is b, (parts b).given_is) refl)
