-- What a slot holds after one slot is changed: the changed one its change, every other what it held. So what the change keeps of a slot
-- is kept everywhere. Assumes nothing.
use Rattle.std.proofs.Common.{◌≡◌, ℕ, ◌<◌, ◌≢◌, length, ap, ◌∙◌, arith}
use native.Mathlib.Decide.{dec_lt}
use lib.Seq.{set_out}
use Rattle.arena.specs.Slots.{Slots, at, put, change}
use Rattle.arena.specs.declared.Slot.{Slot}
use Rattle.arithmetic.proofs.TestLaws.{eq_cases}
use Rattle.arena.proofs.Forests.Segments.{len_put, at_put, at_other}

abbrev pub gen_of : Slot → ℕ
gen_of s = s.generation

pub len_change : (a : Slots) (i : ℕ) (f : Slot → Slot) → length (change a i f) ≡ length a
unfolding change
len_change a i f = len_put a i (f (at a i))

pub at_change : (a : Slots) (i : ℕ) (f : Slot → Slot) → i < length a → at (change a i f) i ≡ f (at a i)
unfolding change
at_change a i f h = at_put a i (f (at a i)) h

pub change_other : (a : Slots) (i j : ℕ) (f : Slot → Slot) → j ≢ i → at (change a i f) j ≡ at a j
unfolding change
change_other a i j f h = at_other a i j (f (at a i)) h

pub put_keep : {B : Type 0} (π : Slot → B) (a : Slots) (i j : ℕ) (s : Slot) → π s ≡ π (at a i) → π (at (put a i s) j) ≡ π (at a j)
unfolding at put
put_keep π a i j s e = go (dec_lt i (length a))
  where
    go : Dec (i < length a) → π (at (put a i s) j) ≡ π (at a j)
    go (yes h) = eq_cases j i (λ q _ _. rw q (ap π (at_put a i s h) ∙ e)) (λ q _ _. ap π (at_other a i j s q))
    go (no h) = ap (λ (b : Slots). π (at b j)) (set_out a i s (omega arith))

pub change_keep : {B : Type 0} (π : Slot → B) (a : Slots) (i j : ℕ) (f : Slot → Slot) → π (f (at a i)) ≡ π (at a i) → π (at (change a i f) j) ≡ π (at a j)
unfolding change
change_keep π a i j f e = put_keep π a i j (f (at a i)) e
