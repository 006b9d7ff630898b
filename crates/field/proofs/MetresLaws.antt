-- What commas and spaces change in the reading of metres. Assumes nothing.
use mathlib.Core.Path.{◌≡◌, refl, sym, ap, ap₂, ◌∙◌}
use mathlib.Core.Bool.{Bool, true, false, ◌&&◌}
use mathlib.Core.List.{List, [], ◌∷◌, ◌++◌, append_assoc, reverse, reverse_aux, reverse-append, reverse-cons, reverse-reverse}
use Prim.Native.Nat.{ℕ, zero, suc}
use native.Mathlib.Omega.{arith}
use lib.ListN.{length-append, drop, replicate}
use Rattle.arithmetic.specs.Tests.{within, all}
use Rattle.arithmetic.proofs.BoolLaws.{no_more, both}
use Rattle.arithmetic.proofs.TestLaws.{bool_cases}
use Rattle.text.specs.Steps.{front}
use Rattle.text.specs.Refusal.{Answer, refused}
use Rattle.text.specs.declared.refusal.Refusal.TheVariants.{Empty}
use Rattle.field.specs.Metres.{is_digit, is_point, is_space, behind, unread, plain_metres, skipped, skipped_back, trimmed, point_for, pointed, metres_of}
use Rattle.field.specs.MetresLaws.{MetresLaws, is_other}
use Rattle.field.proofs.Reading.{front_still, drop_pointed, plain_of, behind_of}
use Rattle.field.proofs.Pointed.{no_space, none_pointed, space_still}
use Rattle.field.proofs.Spaces.{skips_it, stops_there, trims}

-- ---- a test of all bytes, of a joined and of a turned list

module _ (p : ℕ → Bool) where
  all_joined : (s t : List ℕ) → all p (s ++ t) ≡ (all p s && all p t)
  all_joined [] t = refl
  all_joined (b ∷ s) t = bool_cases (p b) (λ e. rw e (all_joined s t)) (λ e. rw e)

  all_turned : (s : List ℕ) → all p (reverse s) ≡ all p s
  all_turned [] = refl
  all_turned (b ∷ s) = ap (all p) (reverse-cons b s) ∙ all_joined (reverse s) (b ∷ []) ∙ ap (λ (t : Bool). t && (p b && true)) (all_turned s) ∙ swapped (all p s) (p b)
    where
      swapped : (x y : Bool) → (x && (y && true)) ≡ (y && x)
      swapped true true = refl
      swapped true false = refl
      swapped false true = refl
      swapped false false = refl

all_spaces : (n : ℕ) → all is_space (replicate n 32) ≡ true
all_spaces zero = refl
all_spaces (suc n) = all_spaces n

-- ---- a text without comma and space

none_skipped : (s : List ℕ) → all is_other s ≡ true → skipped s ≡ s
unfolding front
none_skipped [] a = refl
none_skipped (b ∷ s) a = stops_there b s (no_space b (both (is_other b) (all is_other s) a).0)

none_trimmed : (s : List ℕ) → all is_other s ≡ true → trimmed s ≡ s
unfolding trimmed
none_trimmed s a = ap skipped_back (none_skipped s a) ∙ ap reverse (none_skipped (reverse s) (all_turned is_other s ∙ a)) ∙ reverse-reverse s

read_as_before : (s : List ℕ) → all is_other s ≡ true → metres_of s ≡ plain_metres s
unfolding metres_of
read_as_before s a = ap (λ (l : List ℕ). plain_metres (pointed l)) (none_trimmed s a) ∙ ap plain_metres (none_pointed s a)

-- ---- a comma

-- trimming and swapping do not meet
skipped_pointed : (s : List ℕ) → skipped (pointed s) ≡ pointed (skipped s)
skipped_pointed s = ap (λ (n : ℕ). drop n (pointed s)) (front_still is_space space_still s) ∙ drop_pointed (front is_space s) s

turned_pointed : (s r : List ℕ) → reverse_aux (pointed s) (pointed r) ≡ pointed (reverse_aux s r)
turned_pointed [] r = refl
turned_pointed (b ∷ s) r = turned_pointed s (b ∷ r)

trimmed_pointed : (s : List ℕ) → trimmed (pointed s) ≡ pointed (trimmed s)
unfolding trimmed
trimmed_pointed s =
    let u = skipped s in
    ap skipped_back (skipped_pointed s) ∙ ap (λ (l : List ℕ). reverse (skipped l)) (turned_pointed u [])
    ∙ ap reverse (skipped_pointed (reverse u)) ∙ turned_pointed (skipped (reverse u)) []

pointed_joined : (s t : List ℕ) → pointed (s ++ t) ≡ pointed s ++ pointed t
pointed_joined [] t = refl
pointed_joined (b ∷ s) t = ap (λ (l : List ℕ). point_for b ∷ l) (pointed_joined s t)

comma_is_point : (s t : List ℕ) → metres_of (s ++ 44 ∷ t) ≡ metres_of (s ++ 46 ∷ t)
unfolding metres_of point_for
comma_is_point s t =
    let swapped : pointed (s ++ 44 ∷ t) ≡ pointed (s ++ 46 ∷ t) = pointed_joined s (44 ∷ t) ∙ sym (pointed_joined s (46 ∷ t)) in
    ap plain_metres (sym (trimmed_pointed (s ++ 44 ∷ t)) ∙ ap trimmed swapped ∙ trimmed_pointed (s ++ 46 ∷ t))

-- ---- nothing but spaces

all_skipped : (s : List ℕ) → all is_space s ≡ true → skipped s ≡ []
unfolding front
all_skipped [] a = refl
all_skipped (b ∷ s) a = let k = both (is_space b) (all is_space s) a in skips_it b s k.0 ∙ all_skipped s k.1

pub spaces_are_empty : (s : List ℕ) → all is_space s ≡ true → metres_of s ≡ refused Empty 0
unfolding metres_of trimmed plain_metres front
spaces_are_empty s a = rw (all_skipped s a)

abbrev NotEmpty : Answer ℕ → Type 0
NotEmpty a = a.number ≡ 9 → ⊥

empty_is_no_text : (s : List ℕ) → (plain_metres s).number ≡ 9 → s ≡ []
empty_is_no_text [] e = refl
empty_is_no_text (b ∷ s) e =
    let rest = drop (front is_digit (b ∷ s)) (b ∷ s) in
    absurd (plain_of NotEmpty (b ∷ s) (λ q. absurd (omega arith)) (λ v. behind_of NotEmpty (λ w n. omega arith) (λ n. omega arith) v rest) (λ n. omega arith) e)

none_left : (s : List ℕ) → pointed s ≡ [] → s ≡ []
none_left [] e = refl
none_left (b ∷ s) e = let z : ◌≡◌ {A = ℕ} 0 1 = cc in absurd (omega arith)

empty_is_spaces : (s : List ℕ) → (metres_of s).number ≡ 9 → all is_space s ≡ true
unfolding metres_of
empty_is_spaces s e =
    let t = trims s in
    let none : trimmed s ≡ [] = none_left (trimmed s) (empty_is_no_text (pointed (trimmed s)) e) in
    ap (all is_space) (t.parts ∙ ap (λ (l : List ℕ). replicate t.before 32 ++ (l ++ replicate t.after 32)) none)
    ∙ all_joined is_space (replicate t.before 32) (replicate t.after 32) ∙ ap₂ ◌&&◌ (all_spaces t.before) (all_spaces t.after)

-- ---- a space inside

-- it stays where another byte stands before it, and one after it
skipped_before : (s t : List ℕ) → all is_space s ≡ false → skipped (s ++ t) ≡ skipped s ++ t
unfolding front
skipped_before [] t a = no_more (sym a)
skipped_before (b ∷ s) t a = bool_cases (is_space b) (λ e. rw (skips_it b (s ++ t) e, skips_it b s e) (skipped_before s t (rw e at a))) (λ e. rw (stops_there b (s ++ t) e, stops_there b s e))

skipped_after : (s t : List ℕ) → all is_space t ≡ false → skipped_back (s ++ t) ≡ s ++ skipped_back t
skipped_after s t a =
    ap (λ (l : List ℕ). reverse (skipped l)) (reverse-append s t)
    ∙ ap reverse (skipped_before (reverse t) (reverse s) (all_turned is_space t ∙ a))
    ∙ reverse-append (skipped (reverse t)) (reverse s) ∙ ap (λ (l : List ℕ). l ++ skipped_back t) (reverse-reverse s)

module _ (s t : List ℕ) (a : all is_space s ≡ false) (b : all is_space t ≡ false) where
  space_stays : trimmed (s ++ 32 ∷ t) ≡ skipped s ++ 32 ∷ skipped_back t
  unfolding trimmed
  space_stays =
      ap skipped_back (skipped_before s (32 ∷ t) a ∙ sym (append_assoc (skipped s) (32 ∷ []) t))
      ∙ skipped_after (skipped s ++ 32 ∷ []) t b ∙ append_assoc (skipped s) (32 ∷ []) (skipped_back t)

-- and a text in which one stands has no form
and_no : (t : Bool) → (t && false) ≡ false
and_no true = refl
and_no false = refl

module _ (t : List ℕ) where
  unread_behind : (v : ℕ) (s : List ℕ) → behind v (s ++ 32 ∷ t) ≡ unread
  unfolding behind within
  unread_behind v [] = go t
    where
      go : (t : List ℕ) → behind v (32 ∷ t) ≡ unread
      go [] = refl
      go (d ∷ []) = refl
      go (d ∷ e ∷ []) = refl
      go (d ∷ e ∷ x ∷ t) = refl
  unread_behind v (p ∷ []) = go t
    where
      go : (t : List ℕ) → behind v (p ∷ 32 ∷ t) ≡ unread
      go [] = rw (and_no (is_point p))
      go (e ∷ []) = rw (and_no (is_point p))
      go (e ∷ x ∷ t) = refl
  unread_behind v (p ∷ d ∷ []) = go t
    where
      go : (t : List ℕ) → behind v (p ∷ d ∷ 32 ∷ t) ≡ unread
      go [] = rw (and_no (is_digit d), and_no (is_point p))
      go (x ∷ t) = refl
  unread_behind v (p ∷ d ∷ e ∷ []) = refl
  unread_behind v (p ∷ d ∷ e ∷ x ∷ s) = refl

  digits_end_before : (s : List ℕ) → (r : List ℕ) × (drop (front is_digit (s ++ 32 ∷ t)) (s ++ 32 ∷ t) ≡ r ++ 32 ∷ t)
  unfolding front within
  digits_end_before [] = ([], refl)
  digits_end_before (b ∷ s) = bool_cases (is_digit b) (λ e. ((digits_end_before s).0, rw e (digits_end_before s).1)) (λ e. (b ∷ s, rw e))

  unread_with_it : (s : List ℕ) → plain_metres (s ++ 32 ∷ t) ≡ unread
  unread_with_it s =
      let d = digits_end_before s in
      plain_of (λ (a : Answer ℕ). a ≡ unread) (s ++ 32 ∷ t) (λ q. absurd (omega (arith, length-append s (32 ∷ t)))) (λ v. ap (behind v) d.1 ∙ unread_behind v d.0) refl

space_inside : (s t : List ℕ) → all is_space s ≡ false → all is_space t ≡ false → metres_of (s ++ 32 ∷ t) ≡ unread
unfolding metres_of point_for
space_inside s t a b =
    ap (λ (l : List ℕ). plain_metres (pointed l)) (space_stays s t a b) ∙ ap plain_metres (pointed_joined (skipped s) (32 ∷ skipped_back t))
    ∙ unread_with_it (pointed (skipped_back t)) (pointed (skipped s))

pub metres_laws : MetresLaws
unfolding metres_of
metres_laws = record {
  others_read_as_before = read_as_before;
  no_more_is_skipped_or_swapped = λ s. (trims s, refl);
  a_comma_is_a_point = comma_is_point;
  only_spaces_are_empty = spaces_are_empty;
  nothing_else_is_empty = empty_is_spaces;
  a_space_inside_is_unread = space_inside;
}
