-- A reader's run over bytes, and the room that its number keeps. Assumes nothing.
use mathlib.Core.Path.{◌≡◌, refl}
use mathlib.Core.Bool.{Bool, true, false}
use mathlib.Core.List.{List, map}
use Prim.Native.Nat.{ℕ, zero, suc, ◌+◌, ◌-◌, ◌*◌, ◌/◌, ◌%◌, ◌^◌, ◌≤◌, ◌<◌, min}
use native.Mathlib.Numerals.{add-one}
use native.Mathlib.Omega.{arith}
use borrow.Author.Tests.{eqb-false}
use lib.Dec.{eqb}
use lib.ListN.{length, get_or, drop, drop_of_length-le}
use lib.Seq.{drop-cons}
use Rattle.arithmetic.specs.Tests.{within}
use Rattle.text.specs.Reader.{place, lost, lead_of, step_of, run_from, scalars_from, emit}
use Rattle.text.specs.Advance.{advance_of, stop_sum, counted_of}
use Rattle.text.specs.declared.utf8.Place.{Place}
use Rattle.arithmetic.proofs.BoolLaws.{pick_of}
use Rattle.text.proofs.Leads.{Lead, lead_case}
use Rattle.text.proofs.Leads.Lead.{one, two, three_e0, three_e1, three_ed, three_ee, four_f0, four_f1, four_f4, none}

-- how large a number may be with n bytes to come
unfoldable pub room : ℕ → ℕ
room zero = 2 ^ 26
room (suc n) = room n / 64

abbrev pub Small : Place → Type 0
Small p = p.code < room p.left

room_top : (n : ℕ) → room n ≤ 2 ^ 26
unfolding room
room_top zero = omega arith
room_top (suc n) = let h = room_top n in omega arith

pub small_code : (p : Place) → Small p → p.code < 2 ^ 26
small_code p h = omega (arith, room_top p.left)

small_lead : (b : ℕ) (q : Place) → Lead b q → Small q
unfolding room
small_lead b q (one h) = omega arith
small_lead b q (two _ _) = omega arith
small_lead b q (three_e0 _) = omega arith
small_lead b q (three_e1 _ _) = omega arith
small_lead b q (three_ed _) = omega arith
small_lead b q (three_ee _ _) = omega arith
small_lead b q (four_f0 _) = omega arith
small_lead b q (four_f1 _ _) = omega arith
small_lead b q (four_f4 _) = omega arith
small_lead b q (none _ _) = omega arith

lost_small : Small lost
unfolding room
lost_small = omega arith

less_room : (v b n : ℕ) → v < room (suc n) → v * 64 + b % 64 < room n
unfolding room
less_room v b n h = omega arith

on : (p : Place) (b n : ℕ) → Small p → p.left ≡ n → (p.left ≡ 0 → ⊥) → p.code * 64 + b % 64 < room (p.left - 1)
on p b zero h e k = absurd (k e)
on p b (suc n) h e k =
    let d : p.left - 1 ≡ n = omega arith in
    let g : p.code < room (suc n) = rw e at h in
    rw d (less_room p.code b n g)

pub small_step : (p : Place) (b : ℕ) → Small p → Small (step_of p b)
unfolding step_of
small_step p b h =
    pick_of Small (eqb p.left 0) {x = lead_of b} (λ _. small_lead b (lead_of b) (lead_case b))
    (λ e. pick_of Small (within p.low p.high b) {x = place (p.left - 1) 0x80 0xBF (p.code * 64 + b % 64)} {y = lost}
    (λ _. on p b p.left h refl (eqb-false p.left 0 e))
    (λ _. lost_small))

-- a byte more, and none
pub run_more : (p : Place) (s : List ℕ) (i : ℕ) → i < length s → run_from p (drop i s) ≡ run_from (step_of p (get_or s i 0)) (drop (i + 1) s)
unfolding run_from
run_more p s i h = rw (add-one, drop-cons s i 0)

pub run_done : (p : Place) (s : List ℕ) (i : ℕ) → length s ≤ i → run_from p (drop i s) ≡ p
unfolding run_from
run_done p s i h = rw (drop_of_length-le s h)

sent : (t : ℕ) (q : Place) (cs : List ℕ) (k : Bool) → eqb q.left 0 ≡ k
    → stop_sum t (map advance_of (emit (eqb q.left 0) q.code cs)) ≡ stop_sum (counted_of t q) (map advance_of cs)
unfolding stop_sum counted_of
sent t q cs true e = rw e
sent t q cs false e = rw e

-- the sum so far, a byte further, and at the end
pub width_more : (t : ℕ) (p : Place) (s : List ℕ) (i : ℕ) → i < length s
    → stop_sum t (map advance_of (scalars_from p (drop i s)))
    ≡ stop_sum (counted_of t (step_of p (get_or s i 0))) (map advance_of (scalars_from (step_of p (get_or s i 0)) (drop (i + 1) s)))
unfolding scalars_from
width_more t p s i h = rw (add-one, drop-cons s i 0) (sent t (step_of p (get_or s i 0)) (scalars_from (step_of p (get_or s i 0)) (drop (suc i) s)) _ refl)

pub width_done : (t : ℕ) (p : Place) (s : List ℕ) (i : ℕ) → length s ≤ i → stop_sum t (map advance_of (scalars_from p (drop i s))) ≡ t
unfolding scalars_from stop_sum
width_done t p s i h = rw (drop_of_length-le s h)

pub counted_top : (t : ℕ) (p : Place) → t < 2 ^ 31 → counted_of t p < 2 ^ 31
unfolding counted_of
counted_top t p h = pick_of (λ (n : ℕ). n < 2 ^ 31) (eqb p.left 0) {x = min (t + advance_of p.code) (2 ^ 31 - 1)} (λ _. omega arith) (λ _. h)
