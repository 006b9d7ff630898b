use mathlib.Core.Path.{◌≡◌, ◌∙◌, ap}
use Prim.Native.Nat.{ℕ, ◌<◌}
use native.Mathlib.Omega.{arith}
use borrow.Author.Rules.{rules}
use lib.IntN.{ℤ, pos, ◌+ℤ◌}
use lib.ListN.{get_or}
use mir.Syntax.{w64}
use mir.Val.{SFits, to_z, of_z}
use mir.Facts.{to_z-of_z}
use Rattle.arithmetic.specs.Support.Steps.{FirstLargest, with_unit}
use Rattle.arithmetic.proofs.GrowthPicks.{first_largest_of_front, picked_at_first, pick_is_new, picked_once_more}
use Rattle.arithmetic.proofs.Sums.{list_is_table}
use Rattle.arithmetic.proofs.growth.give_units.Goals as goal

pub loop-init : goal.loop-init
loop-init c = picked_at_first c.args.n c.args.parts.shares c.args.parts.keys (search rules) (search rules)

module _ (c : goal.After-shares-in-loop-1) where
  abbrev b : ℕ
  b = c.first_largest-best.result

  pick : FirstLargest c.loop.keys c.args.n b
  pick = first_largest_of_front c.loop.keys c.args.n b (omega (arith, c.requires.n_fits, c.loop-test.array_long)) c.first_largest-best.ensures

  few : c.loop.counter < c.args.n
  few = omega (arith, c.requires.enough)

  new_place : get_or c.loop.shares b (pos 0) ≡ get_or c.args.parts.shares b (pos 0)
  new_place =
      pick_is_new c.args.n c.args.parts.shares c.args.parts.keys c.loop.shares c.loop.keys c.loop.counter b c.loop.invariant c.requires.n_fits few c.requires.unmarked pick

  share_reads : to_z w64 (of_z w64 (get_or c.loop.shares b (pos 0))) ≡ get_or c.loop.shares b (pos 0)
  share_reads = to_z-of_z {w = w64} (search rules)

  sum_fits : SFits w64 (get_or c.loop.shares b (pos 0) +ℤ pos 1)
  sum_fits = rw new_place (c.requires.room b pick.inside (omega arith))

  stored : to_z w64 (of_z w64 (to_z w64 (of_z w64 (get_or c.loop.shares b (pos 0))) +ℤ pos 1)) ≡ get_or c.args.parts.shares b (pos 0) +ℤ pos 1
  stored = simp share_reads (to_z-of_z sum_fits) ∙ ap (λ (x : ℤ). x +ℤ pos 1) new_place

pub overflow_add-shares : goal.overflow_add-shares
overflow_add-shares c = simp (share_reads c) (sum_fits c)

pub loop-preserved : goal.loop-preserved
loop-preserved c =
    picked_once_more c.args.n c.args.parts.shares c.args.parts.keys c.loop.shares c.loop.keys c.loop.counter (b c) c.loop.invariant c.requires.n_fits (few c) c.requires.unmarked (pick c) _ (stored c)

pub returns : goal.returns
returns c =
    let e : c.loop.counter ≡ c.args.missing = omega arith in
    list_is_table 128 (with_unit c.args.parts.shares c.args.parts.keys c.args.n c.args.missing) (pos 0) c.loop.shares c.loop.invariant.out_full
    (λ k l. c.loop.invariant.units_given k ∙ ap (λ (x : ℕ). with_unit c.args.parts.shares c.args.parts.keys c.args.n x k) e)
