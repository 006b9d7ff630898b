-- What holds of each state slot below a number holds after one slot changed, or a round of them, if the change keeps it. Assumes nothing.
use mathlib.Core.Path.{sym, subst}
use mathlib.Core.List.{List}
use Prim.Native.Nat.{ℕ, ◌<◌}
use lib.ListN.{length, set}
use mathlib.Core.Bool.{Bool}
use Rattle.arithmetic.specs.Tests.{occ}
use Rattle.boxes.specs.Styles.{state_at}
use Rattle.boxes.specs.States.{Appearance}
use Rattle.boxes.specs.declared.StateSlot.{StateSlot}
use Rattle.arithmetic.proofs.TestLaws.{eq_cases, zero_cases}
use Rattle.boxes.proofs.Styles.Rounds.{Look, look_at, Sized, Stepped, Stepping, Inside, visit, a_slot_not_visited_stays, a_slot_visited_is_changed}
use Rattle.boxes.proofs.Styles.WearLaws.{a_stored_state_is_there, other_states_stay}

abbrev pub EachState : (StateSlot → Type 0) → ℕ → List StateSlot → Type 0
EachState P n l = (j : ℕ) → j < n → P (state_at l j)

module _ (P : StateSlot → Type 0) (n : ℕ) where
  pub a_changed_slot_keeps_of_each : {change : Look → Look} {moves : Look → Bool} {k k' : Appearance} (i : ℕ) → Stepped change moves k i k'
      → ((e : Look) → P e.state → P (change e).state) → EachState P n k.states → EachState P n k'.states
  a_changed_slot_keeps_of_each {change} {moves} {k} {k'} i S c w j h =
      eq_cases j i
      (λ e _ _. subst (λ (m : ℕ). P (state_at k.states m) → P (state_at k'.states m)) (sym e)
      (λ v. subst (λ (e : Look). P e.state) (sym S.here) (c (look_at k i) v)) (w j h))
      (λ e _ _. subst (λ (e : Look). P e.state) (sym (S.elsewhere j e)) (w j h))

  pub a_round_keeps_of_each : (S : Stepping) (k : Appearance) (is : List ℕ) → Inside is → Sized k
      → ((j : ℕ) (e : Look) → P e.state → P (S.change j e).state) → EachState P n k.states → EachState P n (visit S k is).states
  a_round_keeps_of_each S k is b o c w j h =
      zero_cases (occ j is)
      (λ z. subst (λ (e : Look). P e.state) (sym (a_slot_not_visited_stays S k is b o j z)) (w j h))
      (λ z. subst (λ (e : Look). P e.state) (sym (a_slot_visited_is_changed S k is b o j z)) (c j (look_at k j) (w j h)))

  pub a_stored_state_keeps_of_each : (l : List StateSlot) (i : ℕ) (s : StateSlot) → i < length l → P s → EachState P n l → EachState P n (set l i s)
  a_stored_state_keeps_of_each l i s b p w j h =
      eq_cases j i
      (λ e _ _. subst (λ (m : ℕ). P (state_at (set l i s) m)) (sym e) (subst P (sym (a_stored_state_is_there l i s b)) p))
      (λ e _ _. subst P (sym (other_states_stay l i j s e)) (w j h))
