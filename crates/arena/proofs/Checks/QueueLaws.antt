-- The order of levels by a queue of 128: slots past it are never reached, so that to cut the queue changes nothing. Assumes nothing.
use Rattle.arithmetic.proofs.LoopLaws.{drop_taken}
use Rattle.std.proofs.Common.{◌≡◌, ℕ, zero, suc, ◌+◌, ◌-◌, ◌<◌, ◌≤◌, Bool, true, false, cond, ltb, List, [], ◌∷◌, ◌++◌, length, get_or, take, drop, sym, refl, ap, ◌∙◌, append_assoc, append-nil, sub-one, arith, drop_of_length-le, take_all, drop-cons, take-suc, take-take, lt-ltb}
use lib.Seq.{take-append-le, drop-append-le}
use Rattle.arena.specs.declared.listed.Listed.{Listed}
use Rattle.arena.specs.Slots.{Slots, at, chain, kids_at, order}
use Rattle.arena.specs.Support.Lists.{listed, none_listed, added, added_all}
use Rattle.arena.proofs.Checks.ListLaws.{Bounded, none_bounded, added_bounded, listed_all, listed_length, listed_first, listed_from_none}

-- ---- a chain listed
module _ (s : Slots) where
  pub chain_more : (n : ℕ) (o : Listed 128) (c : ℕ) → 0 < n → c < 128 → added_all (added o c) (chain (n - 1) s (at s c).next_sibling) ≡ added_all o (chain n s c)
  unfolding chain added_all
  chain_more zero o c h q = absurd (omega arith)
  chain_more (suc n) o c h q = rw (sub-one, lt-ltb _ _ q)

  chain_short : (n : ℕ) (c : ℕ) → length (chain n s c) ≤ n
  unfolding chain
  chain_short zero c = omega arith
  chain_short (suc n) c = go (ltb c 128) (chain n s (at s c).next_sibling) (chain_short n (at s c).next_sibling)
    where
      go : (b : Bool) (l : List ℕ) → length l ≤ n → length (cond b (c ∷ l) []) ≤ suc n
      go true l h = omega arith
      go false l h = omega arith

  -- a chain has room
  pub chain_listed : (c : ℕ) → listed (added_all {n = 128} none_listed (chain 128 s c)) ≡ chain 128 s c
  chain_listed c = listed_from_none 128 (chain 128 s c) ∙ take_all 128 (chain 128 s c) (chain_short 128 c)

-- ---- parts of a list that is cut
take_cut : (k : ℕ) (q m : List ℕ) → take k (take k q ++ m) ≡ take k (q ++ m)
take_cut zero q m = refl
take_cut (suc k) [] m = refl
take_cut (suc k) (x ∷ q) m = ap (λ (r : List ℕ). x ∷ r) (take_cut k q m)

drop_take : (j n m : ℕ) (l : List ℕ) → m ≡ j + n → drop j (take m l) ≡ take n (drop j l)
drop_take j n m l e = let f : m - j ≡ n = omega arith in drop_taken j m l ∙ ap (λ (k : ℕ). take k (drop j l)) f

-- ---- the order of levels
module _ (s : Slots) where
  -- only so many are reached
  order_cut : (k : ℕ) (q : List ℕ) → order k s (take k q) ≡ order k s q
  unfolding order
  order_cut zero q = refl
  order_cut (suc k) [] = refl
  order_cut (suc k) (i ∷ q) =
      ap (λ (r : List ℕ). i ∷ r) (sym (order_cut k (take k q ++ kids_at s i)) ∙ ap (order k s) (take_cut k q (kids_at s i)) ∙ order_cut k (q ++ kids_at s i))

  -- one turn: the slot at p is passed, and its children are listed as far as there is room
  turn : (l : List ℕ) (p n : ℕ) → p < length l → p + suc n ≡ 128
      → take (suc p) (take 128 (l ++ kids_at s (get_or l p 0))) ++ order n s (drop (suc p) (take 128 (l ++ kids_at s (get_or l p 0))))
      ≡ take p l ++ order (suc n) s (drop p l)
  unfolding order
  turn l p n h e =
      let x = get_or l p 0 in
      let w = l ++ kids_at s x in
      let e1 : take (suc p) (take 128 w) ≡ take p l ++ (x ∷ []) = take-take (suc p) 128 w (omega arith) ∙ take-append-le (suc p) l (kids_at s x) (omega arith) ∙ take-suc l p 0 h in
      let e2 : drop (suc p) (take 128 w) ≡ take n (drop (suc p) l ++ kids_at s x) = drop_take (suc p) n 128 w (omega arith) ∙ ap (take n) (drop-append-le (suc p) l (kids_at s x) (omega arith)) in
      ap (λ (m : List ℕ). m ++ order n s (drop (suc p) (take 128 w))) e1
      ∙ ap (λ (m : List ℕ). (take p l ++ (x ∷ [])) ++ order n s m) e2
      ∙ ap (λ (m : List ℕ). (take p l ++ (x ∷ [])) ++ m) (order_cut n (drop (suc p) l ++ kids_at s x))
      ∙ append_assoc (take p l) (x ∷ []) (order n s (drop (suc p) l ++ kids_at s x))
      ∙ ap (λ (m : List ℕ). take p l ++ order (suc n) s m) (sym (drop-cons l p 0 h))

  -- what was passed, and what the queue still gives
  unfoldable pub reached : ℕ → Listed 128 → List ℕ
  reached p o = take p (listed o) ++ order (128 - p) s (drop p (listed o))

  pub reached_more : (p : ℕ) (o : Listed 128) {x : ℕ} {t : Listed 128} → Bounded o → p < o.count → x ≡ get_or (listed o) p 0 → t ≡ added_all o (kids_at s x)
      → reached (p + 1) t ≡ reached p o
  unfolding reached
  reached_more p o k h e q =
      let n = listed_length o k in
      let a : p + 1 ≡ suc p = omega arith in
      let b : 128 - p ≡ suc (127 - p) = omega arith in
      let d : 128 - (p + 1) ≡ 127 - p = omega arith in
      rw (q, e, listed_all o (kids_at s (get_or (listed o) p 0)) k, d, b, a) (turn (listed o) p (127 - p) (omega arith) (omega arith))

  pub reached_done : (p : ℕ) (o : Listed 128) → Bounded o → o.count ≤ p → listed o ≡ reached p o
  unfolding reached order
  reached_done p o k h =
      let n = listed_length o k in
      let z : length (listed o) ≤ p = omega arith in
      sym (ap (λ (m : List ℕ). take p (listed o) ++ order (128 - p) s m) (drop_of_length-le (listed o) z)
      ∙ ap (λ (m : List ℕ). take p (listed o) ++ m) (none (128 - p))
      ∙ append-nil (take p (listed o)) ∙ take_all p (listed o) (omega arith))
    where
      none : (j : ℕ) → order j s [] ≡ []
      none zero = refl
      none (suc j) = refl

  pub reached_start : (i : ℕ) {o t : Listed 128} → o ≡ none_listed → t ≡ added o i → Bounded t × (reached 0 t ≡ order 128 s (i ∷ []))
  unfolding reached
  reached_start i e q = rw (q, e) (added_bounded {n = 128} none_listed i none_bounded, ap (λ (m : List ℕ). order 128 s m) (listed_first {n = 128} i (omega arith)))
