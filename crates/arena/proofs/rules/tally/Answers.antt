use Rattle.std.proofs.Common.{◌≡◌, ℕ, ◌+◌, ◌≤◌, [], ◌∷◌, ◌++◌, length, take, get_or, refl, ap, ◌∙◌, arith, add-one, take-suc, length-set, length-take, rules}
use Rattle.arena.proofs.Checks.ListLaws.{listed_few}
use Rattle.arena.proofs.Checks.WalkLaws.{occ_short, tallied_more, tallied_past, tallied_none}
use Rattle.arena.proofs.rules.tally.Goals as goal
use Rattle.arena.proofs.rules.tally.Goals.{then-k-lt128, else-k-lt128}

pub loop-i-init : goal.loop-i-init
loop-i-init c = (refl, tallied_none)

pub overflow_add-times : goal.overflow_add-times
overflow_add-times c =
    let l = c.loop-i in
    let s = c.as_slice-i-items.result.now in
    let x = get_or s l.i-index 0 in
    let w = l.invariant.1 x c.if-k-lt128.true in
    let k : length s ≤ 128 = rw c.as_slice-i-items.ensures (listed_few c.args.o.now (search rules)) in
    omega (arith, w, occ_short x (take l.i-index s), length-take l.i-index s)

pub loop-i-preserved : goal.loop-i-preserved
loop-i-preserved c =
    let l = c.loop-i in
    let s = c.as_slice-i-items.result.now in
    let x = get_or s l.i-index 0 in
    let e : take (l.i-index + 1) s ≡ take l.i-index s ++ (x ∷ []) = ap (λ (n : ℕ). take n s) (add-one l.i-index) ∙ take-suc s l.i-index 0 c.loop-i-test.true in
    rw e
    (elim c.if-k-lt128.branch [
      | then-k-lt128 w ↦ rw w.times-is (length-set l.times x _ ∙ l.invariant.0, tallied_more l.times (take l.i-index s) x l.invariant.0 l.invariant.1)
      | else-k-lt128 w ↦ rw w.times-is (l.invariant.0, tallied_past l.times (take l.i-index s) x w.if-k-lt128.false l.invariant.1)
    ])
