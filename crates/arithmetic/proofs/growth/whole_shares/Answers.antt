use mathlib.Core.Path.{◌≡◌, refl, sym, ◌∙◌, ap, subst}
use Prim.Native.Nat.{ℕ, ◌+◌, ◌≤◌, ◌<◌}
use native.Mathlib.Omega.{arith}
use borrow.Author.Count.{below_none}
use lib.IntN.{pos}
use lib.ListN.{get_or, length, length-set}
use lib.Seq.{get_or-set_other}
use mir.Syntax.{w64}
use mir.Facts.{to_z_pos}
use Rattle.arithmetic.specs.Growth.{grow_sum, whole_share, remainder}
use Rattle.arithmetic.proofs.GrowthShares.{whole_shares_within_leftover, divided_is_share, sum_with_share, sum_within_leftover}
use Rattle.arithmetic.proofs.Sums.{sum_of_none, summand_at_most_sum, filled_one_further, repeated_at}
use Rattle.arithmetic.proofs.growth.whole_shares.Goals as goal

pub loop-i-init : goal.loop-i-init
loop-i-init c = (refl, refl, below_none _, (λ k h. repeated_at 128 k (pos 0)), below_none _, sym (sum_of_none _))

pub mul_div-s-requires : goal.mul_div-s-requires
unfolding grow_sum
mul_div-s-requires c =
    record {
      l_fits = omega (arith, c.requires.0);
      g_part = subst (λ (x : ℕ). get_or c.args.grows.now c.loop-i.i 0 ≤ x) (sym c.requires.2) (summand_at_most_sum (λ (k : ℕ). get_or c.args.grows.now k 0) _ _ c.loop-i-test.true);
      t_some = c.requires.3;
      t_fits = c.requires.4;
    }

pub overflow_cast-shares : goal.overflow_cast-shares
overflow_cast-shares c = omega (arith, sum_within_leftover _ _ _ _ _ _ c.requires.2 c.requires.3 c.loop-i-test.true c.mul_div-s.ensures.0 c.loop-i.invariant.5)

pub overflow_add-given : goal.overflow_add-given
overflow_add-given c = omega (arith, sum_within_leftover _ _ _ _ _ _ c.requires.2 c.requires.3 c.loop-i-test.true c.mul_div-s.ensures.0 c.loop-i.invariant.5)

pub loop-i-preserved : goal.loop-i-preserved
unfolding remainder
loop-i-preserved c =
    let v = c.loop-i.invariant in
    let s = c.args in
    let n : ℕ = length s.grows.now in
    let share = divided_is_share _ _ _ _ _ _ c.requires.2 c.requires.3 c.loop-i-test.true c.mul_div-s.ensures.0 c.loop-i.invariant.5 in
    let room = sum_within_leftover _ _ _ _ _ _ c.requires.2 c.requires.3 c.loop-i-test.true c.mul_div-s.ensures.0 c.loop-i.invariant.5 in (
      simp length-set v.0,
      simp length-set v.1,
      filled_one_further (λ (k : ℕ). pos (whole_share s.l s.grows.now n k)) c.loop-i.shares _ _ (pos 0) (omega arith) (to_z_pos w64 (omega arith) ∙ ap pos share) v.2,
      (λ k h. get_or-set_other c.loop-i.shares _ k _ (pos 0) (λ e. omega arith) ∙ v.3 k (omega arith)),
      filled_one_further (λ (k : ℕ). remainder s.l s.grows.now n k + 1) c.loop-i.keys _ _ 0 (omega arith) (simp (c.mul_div-s.ensures.1, c.requires.2) refl) v.4,
      sum_with_share _ _ _ _ _ _ c.requires.2 c.requires.3 c.loop-i-test.true c.mul_div-s.ensures.0 c.loop-i.invariant.5,
    )

pub returns : goal.returns
returns c =
    let v = c.loop-i.invariant in
    let s = c.args in
    let e : c.loop-i.i ≡ length s.grows.now = omega arith in
    record {
      shares_are = rw e at v.2;
      none_past = rw e at v.3;
      keys_are = rw e at v.4;
      given_is = rw e at v.5;
      given_fits = omega (arith, v.5, whole_shares_within_leftover s.l s.grows.now (length s.grows.now) c.loop-i.i (omega arith) (subst (λ (x : ℕ). 0 < x) c.requires.2 c.requires.3));
    }
