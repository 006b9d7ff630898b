-- A walk that lists slots: what is left to list from here gives the whole. Assumes nothing.
use Rattle.std.proofs.Common.{◌≡◌, ℕ, zero, suc, ◌+◌, ◌-◌, ◌<◌, ◌≤◌, ltb, List, [], ◌∷◌, ◌++◌, length, get_or, take, drop, set, sym, refl, ap, ◌∙◌, append_assoc, append-nil, sub-one, arith, length-set, take-append-drop, drop_of_length-le, length-take, length-take-le, take_all, drop-cons, take-suc-set, ltb-false, ltb-true, le-ltb, lt-ltb}
use lib.ListN.{length-replicate, get_or-append}
use lib.Seq.{take-append-le}
use Rattle.arithmetic.proofs.TestLaws.{bool_cases}
use Rattle.arena.specs.declared.listed.Listed.{Listed}
use Rattle.arena.specs.Slots.{Slots, at, put, idle, joined, next_generation, freed}
use Rattle.arithmetic.specs.Tests.{final_or}
use Rattle.arena.specs.Support.Lists.{listed, none_listed, added, added_all, chain_back, back_order}

-- cases on an order of two numbers, for any goal
pub lt_cases : {G : Type 0} (i j : ℕ) → (i < j → G) → (j ≤ i → G) → G
lt_cases {G = G} i j f g = bool_cases (ltb i j) (λ e. f (ltb-true i j e)) (λ e. g (ltb-false i j e))

module _ {n : ℕ} where
  pub added_join : (o : Listed n) (l m : List ℕ) → added_all (added_all o l) m ≡ added_all o (l ++ m)
  unfolding added_all
  added_join o [] m = refl
  added_join o (i ∷ l) m = added_join (added o i) l m

  -- a full list stays
  pub added_full : (o : Listed n) (l : List ℕ) → n ≤ o.count → added_all o l ≡ o
  unfolding added_all added
  added_full o [] h = refl
  added_full o (i ∷ l) h = rw (le-ltb _ _ h) (added_full o l h)

-- ---- the loop over the children, by what each one lists
module _ (s : Slots) (f : ℕ → List ℕ) {m : ℕ} where
  pub children_more : (n : ℕ) (o : Listed m) (c : ℕ) → 0 < n → c < 128 → added_all (added_all o (f c)) (joined f (chain_back (n - 1) s (at s c).prev_sibling)) ≡ added_all o (joined f (chain_back n s c))
  unfolding chain_back
  children_more zero o c h q = absurd (omega arith)
  children_more (suc n) o c h q = rw (sub-one, lt-ltb _ _ q) (added_join o (f c) _)

  pub children_end : (n : ℕ) (o : Listed m) (c : ℕ) → 128 ≤ c → added_all o (joined f (chain_back n s c)) ≡ o
  unfolding chain_back added_all
  children_end zero o c q = refl
  children_end (suc n) o c q = rw (le-ltb _ _ q)

  pub children_done : (n : ℕ) (o : Listed m) (c : ℕ) → n ≤ 0 → added_all o (joined f (chain_back n s c)) ≡ o
  unfolding chain_back added_all
  children_done zero o c q = refl
  children_done (suc n) o c q = absurd (omega arith)

-- ---- the order of freeing
module _ {n : ℕ} where
  pub back_order_none : (d : ℕ) (s : Slots) (o : Listed n) (i : ℕ) → d ≡ 0 → o ≡ added_all o (back_order d s i)
  unfolding back_order added_all
  back_order_none d s o i h = rw h

  pub back_order_whole : (d : ℕ) (s : Slots) (o : Listed n) (i : ℕ) {out : Listed n} {c : ℕ} → (d ≡ 0 → ⊥) → out ≡ added o i → c ≡ (at s i).last_child → added_all out (joined (back_order (d - 1) s) (chain_back 128 s c)) ≡ added_all o (back_order d s i)
  unfolding back_order added_all
  back_order_whole zero s o i h p q = absurd (h refl)
  back_order_whole (suc d) s o i h p q = rw (sub-one, p, q)

-- ---- what is listed
-- the array has its size, and the count is no more
abbrev pub Bounded : {n : ℕ} → Listed n → Type 0
Bounded {n} o = (length o.items ≡ n) × (o.count ≤ n)

none_is_listed : (n : ℕ) → listed {n = n} none_listed ≡ []
unfolding listed none_listed
none_is_listed n = refl

module _ {n : ℕ} where
  pub none_bounded : Bounded {n = n} none_listed
  unfolding none_listed
  none_bounded = (length-replicate {A = ℕ} n 0, omega arith)

  pub added_bounded : (o : Listed n) (i : ℕ) → Bounded o → Bounded (added o i)
  unfolding added
  added_bounded o i k = lt_cases o.count n
      (λ h. rw (lt-ltb _ _ h) (length-set o.items o.count i ∙ k.0, omega arith))
      (λ h. rw (le-ltb _ _ h) k)

  pub all_bounded : (o : Listed n) (l : List ℕ) → Bounded o → Bounded (added_all o l)
  unfolding added_all
  all_bounded o [] k = k
  all_bounded o (i ∷ l) k = all_bounded (added o i) l (added_bounded o i k)

  listed_one : (o : Listed n) (i : ℕ) → Bounded o → o.count < n → listed (added o i) ≡ listed o ++ (i ∷ [])
  unfolding added listed
  listed_one o i k h =
      let e : o.count + 1 ≡ suc o.count = omega arith in
      rw (lt-ltb _ _ h) (ap (λ (m : ℕ). take m (set o.items o.count i)) e ∙ take-suc-set o.items o.count i (omega arith))

  pub listed_length : (o : Listed n) → Bounded o → length (listed o) ≡ o.count
  unfolding listed
  listed_length o k = length-take-le o.count o.items (omega arith)

  -- as much of what was listed and what is added as the array holds
  pub listed_all : (o : Listed n) (l : List ℕ) → Bounded o → listed (added_all o l) ≡ take n (listed o ++ l)
  unfolding added_all
  listed_all o [] k = sym (ap (take n) (append-nil (listed o)) ∙ take_all n (listed o) (let e = listed_length o k in omega arith))
  listed_all o (i ∷ l) k = lt_cases o.count n
      (λ h. listed_all (added o i) l (added_bounded o i k)
      ∙ ap (λ (m : List ℕ). take n (m ++ l)) (listed_one o i k h) ∙ ap (take n) (append_assoc (listed o) (i ∷ []) l))
      (λ h. ap listed (added_full o (i ∷ l) h) ∙ sym (let e : length (listed o) ≡ n = listed_length o k ∙ omega arith in
      take-append-le n (listed o) (i ∷ l) (omega arith) ∙ take_all n (listed o) (omega arith)))

  pub listed_first : (i : ℕ) → 0 < n → listed (added {n = n} none_listed i) ≡ i ∷ []
  unfolding none_listed
  listed_first i h = listed_one none_listed i none_bounded h ∙ ap (λ (m : List ℕ). m ++ (i ∷ [])) (none_is_listed n)

  pub listed_by_a_walk : (o : Listed n) (l : List ℕ) → o ≡ added_all none_listed l → (o.count ≤ n) × (listed o ≡ take n l)
  listed_by_a_walk o l e = rw e ((all_bounded none_listed l none_bounded).1, listed_all none_listed l none_bounded ∙ ap (λ (m : List ℕ). take n (m ++ l)) (none_is_listed n))

pub listed_from_none : (n : ℕ) (l : List ℕ) → listed (added_all {n = n} none_listed l) ≡ take n l
listed_from_none n l = (listed_by_a_walk (added_all {n = n} none_listed l) l refl).1

-- ---- a list read by its index
-- no more than the array holds
pub listed_few : {n : ℕ} (o : Listed n) → length o.items ≡ n → length (listed o) ≤ n
unfolding listed
listed_few o e = omega (arith, length-take o.count o.items)

-- within a list no default counts
pub inside : (l : List ℕ) (k d e : ℕ) → k < length l → get_or l k d ≡ get_or l k e
inside [] k d e h = absurd (omega arith)
inside (x ∷ l) zero d e h = refl
inside (x ∷ l) (suc k) d e h = inside l k d e (omega arith)

pub listed_here : {n : ℕ} (o : Listed n) (k d : ℕ) → k < o.count → k < length o.items → get_or o.items k 0 ≡ get_or (listed o) k d
unfolding listed
listed_here o k d h q =
    let e = length-take o.count o.items in
    ap (λ (l : List ℕ). get_or l k 0) (sym (take-append-drop o.count o.items))
    ∙ get_or-append (take o.count o.items) (drop o.count o.items) 0 k (omega arith)
    ∙ inside (take o.count o.items) k 0 d (omega arith)

-- ---- a loop that frees by a list
pub one_more : {A : Type 0} (l : List ℕ) (k : ℕ) (f : List ℕ → A) → k < length l → f (get_or l k 0 ∷ drop (k + 1) l) ≡ f (drop k l)
one_more l k f h =
    let e : k + 1 ≡ suc k = omega arith in
    ap (λ (n : ℕ). f (get_or l k 0 ∷ drop n l)) e ∙ ap f (sym (drop-cons l k 0 h))

pub freed_more : (s : Slots) (h : ℕ) (l : List ℕ) (k : ℕ) {i : ℕ} {t : Slots} {g : ℕ} → k < length l → i ≡ get_or l k 0
    → t ≡ put s i (idle (next_generation (at s i).generation) h) → g ≡ i
    → (freed t g (drop (k + 1) l) ≡ freed s h (drop k l)) × (final_or g (drop (k + 1) l) ≡ final_or h (drop k l))
unfolding freed
freed_more s h l k q e t g = rw (t, g, e) (one_more l k (freed s h) q, one_more l k (final_or h) q)

pub freed_done : (s : Slots) (h : ℕ) (l : List ℕ) (k : ℕ) → length l ≤ k → (s ≡ freed s h (drop k l)) × (h ≡ final_or h (drop k l))
unfolding freed
freed_done s h l k q = rw (drop_of_length-le l q) (refl, refl)
