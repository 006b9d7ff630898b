-- One slot more as new; past the array nothing is stored. Assumes nothing.
use Rattle.std.proofs.Common.{◌≡◌, ℕ, ◌+◌, ◌<◌, ◌≤◌, List, length, get_or, set, length-set, drop, sym, ap, ◌∙◌, drop_of_length-le, arith}
use lib.Seq.{set_out}
use Rattle.arena.proofs.Checks.ListLaws.{one_more}
use Rattle.boxes.specs.States.{reset_states}
use Rattle.boxes.specs.Styles.{fresh_state}
use Rattle.boxes.specs.declared.StateSlot.{StateSlot}
use Rattle.boxes.proofs.nodes.reset_states.Goals as goal
use Rattle.boxes.proofs.nodes.reset_states.Goals.{then-i-lt128, else-i-lt128}

reset_more : (s : List StateSlot) (l : List ℕ) (k : ℕ) {x : StateSlot} {t : List StateSlot} → k < length l → x ≡ fresh_state → t ≡ set s (get_or l k 0) x → reset_states t (drop (k + 1) l) ≡ reset_states s (drop k l)
unfolding reset_states
reset_more s l k q f t = rw (t, f) (one_more l k (reset_states s) q)

reset_done : (s : List StateSlot) (l : List ℕ) (k : ℕ) → length l ≤ k → s ≡ reset_states s (drop k l)
unfolding reset_states
reset_done s l k q = rw (drop_of_length-le l q)

pub loop-i-preserved : goal.loop-i-preserved
loop-i-preserved c =
    let l = c.loop-i in
    let is = c.as_slice-i-items.result.now in
    let n : length l.states ≡ 128 = l.invariant.0 in
    let e : c.if-i-lt128.states ≡ set l.states (get_or is l.i-index 0) c.fresh_state-fresh.result =
    elim c.if-i-lt128.branch [ then-i-lt128 w ↦ w.states-is | else-i-lt128 w ↦ w.states-is ∙ sym (set_out l.states _ _ (omega arith)) ] in
    (ap length e ∙ length-set l.states _ _ ∙ n, reset_more l.states is l.i-index c.loop-i-test.true c.fresh_state-fresh.ensures e ∙ l.invariant.1)

pub returns : goal.returns
returns c =
    let l = c.loop-i in
    rw (← c.as_slice-i-items.ensures) (reset_done l.states c.as_slice-i-items.result.now l.i-index c.loop-i-test.false ∙ l.invariant.1)
