-- The four kinds of slot, by the tests that tell them apart. Assumes nothing.
use mathlib.Core.Path.{◌≡◌, refl, ◌∙◌}
use Prim.Native.Nat.{ℕ, zero, suc, ◌+◌, ◌≤◌, ◌<◌}
use native.Mathlib.Omega.{arith}
use borrow.Author.Rules.{rules}
use borrow.Author.Tests.{lt-ltb, le-ltb}
use mathlib.Core.Bool.{false}
use Rattle.arena.specs.declared.Slot.{Slot}
use Rattle.arena.specs.Slots.{NIL, no_slot, used, idle, new_slot}
use Rattle.boxes.proofs.start.new_slot.Goals as goal

root : (n i : ℕ) → i ≡ 0 → used 1 NIL NIL NIL NIL NIL ≡ new_slot n i
unfolding new_slot
root n zero e = refl
root n (suc i) e = absurd (omega arith)

zeros : (s : Slot) → (s.generation ≡ 0) × ((s.live ≡ false) × ((s.parent ≡ 0) × ((s.first_child ≡ 0) × ((s.last_child ≡ 0) × ((s.prev_sibling ≡ 0) × (s.next_sibling ≡ 0)))))) → s ≡ no_slot
zeros s (g, (l, (p, (f, (e, (b, n)))))) = λ z. record { generation = g z; live = l z; parent = p z; first_child = f z; last_child = e z; prev_sibling = b z; next_sibling = n z }

outside : (n i : ℕ) → 0 < i → n ≤ i → no_slot ≡ new_slot n i
unfolding new_slot
outside n zero z h = absurd (omega arith)
outside n (suc i) z h = rw (le-ltb (suc i) n h)

last : (n i : ℕ) → 0 < i → i < n → n ≤ i + 1 → idle 1 NIL ≡ new_slot n i
unfolding new_slot
last n zero z h k = absurd (omega arith)
last n (suc i) z h k = let m : n ≤ suc (suc i) = omega arith in rw (lt-ltb (suc i) n h, le-ltb (suc (suc i)) n m)

inner : (n i : ℕ) → 0 < i → i + 1 < n → idle 1 (i + 1) ≡ new_slot n i
unfolding new_slot
inner n zero z h = absurd (omega arith)
inner n (suc i) z h =
    let a : suc i < n = omega arith in
    let b : suc (suc i) < n = omega arith in
    let e : suc i + 1 ≡ suc (suc i) = omega arith in rw (lt-ltb (suc i) n a, lt-ltb (suc (suc i)) n b, e)

pub returns-then-i-eq0 : goal.returns-then-i-eq0
returns-then-i-eq0 c = c.first_slot.ensures ∙ root c.args.n c.args.i c.if-i-eq0.true

pub returns-then-n-i : goal.returns-then-n-i
returns-then-n-i c = zeros c.default.result c.default.ensures ∙ outside c.args.n c.args.i (omega arith) (search rules)

pub returns-then-n-i-2 : goal.returns-then-n-i-2
returns-then-n-i-2 c = c.first_slot-then-n-i-2.ensures ∙ last c.args.n c.args.i (omega arith) (omega arith) (omega arith)

pub returns : goal.returns
returns c = c.first_slot-2.ensures ∙ inner c.args.n c.args.i (omega arith) (omega arith)
