-- The walks of the link check: what is left of a walk from here, and of what it checks, gives the whole. Assumes nothing.
use Rattle.arithmetic.proofs.LoopLaws.{read_alike}
use Rattle.std.proofs.Common.{◌≡◌, ℕ, zero, suc, ◌+◌, ◌-◌, ◌<◌, ◌≤◌, Bool, true, false, ◌&&◌, List, [], ◌∷◌, ◌++◌, length, get_or, take, set, replicate, sym, refl, ap, ◌∙◌, arith, take_all, get_or-set_other, take-suc, get_or-set_same, take-take, le-ltb, lt-ltb}
use mathlib.Core.Bool.{and_assoc, and-true}
use lib.Seq.{take-append-le}
use Rattle.arithmetic.specs.Tests.{same, δ, occ, head_or, final_or, all}
use Rattle.arena.specs.declared.Slot.{Slot}
use Rattle.arena.specs.declared.listed.Listed.{Listed}
use Rattle.arena.specs.Slots.{NIL, Slots, at, chain, kids_at, order}
use Rattle.arena.specs.Support.Lists.{listed, none_listed, added, added_all, Small, Tallied}
use Rattle.arena.specs.Rules.{kids_well, node_well, free_well}
use Rattle.arithmetic.proofs.TestLaws.{eq_cases, same_refl, δ-le}
use Rattle.arena.proofs.Checks.ListLaws.{Bounded, lt_cases, none_bounded, added_bounded, all_bounded, listed_all, listed_length, listed_here}
use Rattle.arena.proofs.Checks.QueueLaws.{reached, reached_start, reached_more, reached_done, chain_listed}
use Rattle.arena.proofs.Checks.QueueLaws as queue
use Rattle.arena.proofs.Forests.ChainLaws.{chain_more}

-- ---- items are indices of slots
small_set : (l : List ℕ) (n c : ℕ) → n < length l → c < 128 → Small l → Small (set l n c)
small_set l n c h q p i = eq_cases i n
    (λ e _ _. let v : get_or (set l n c) i 0 ≡ c = ap (λ (k : ℕ). get_or (set l n c) k 0) e ∙ get_or-set_same l n c 0 h in omega (arith, v))
    (λ e _ _. let v : get_or (set l n c) i 0 ≡ get_or l i 0 = get_or-set_other l n i c 0 e in omega (arith, v, p i))

pub small_none : Small (replicate 128 0)
small_none i = omega (arith, read_alike {A = ℕ} 128 i 0)

small_added : (o : Listed 128) (c : ℕ) → Bounded o → c < 128 → Small o.items → Small (added o c).items
unfolding added
small_added o c k q p = lt_cases o.count 128
    (λ h. rw (lt-ltb _ _ h) (small_set o.items o.count c (omega arith) q p))
    (λ h. rw (le-ltb _ _ h) p)

-- so are those of a chain
small_chain : (s : Slots) (n c : ℕ) (o : Listed 128) → Bounded o → Small o.items → Small (added_all o (chain n s c)).items
unfolding chain added_all
small_chain s zero c o k p = p
small_chain s (suc n) c o k p = lt_cases c 128
    (λ h. rw (lt-ltb _ _ h) (small_chain s n (at s c).next_sibling (added o c) (added_bounded o c k) (small_added o c k h p)))
    (λ h. rw (le-ltb _ _ h) p)

-- what was listed stays in its place
front_stays : (o : Listed 128) (l : List ℕ) (m : ℕ) → Bounded o → m ≤ o.count → take m (listed (added_all o l)) ≡ take m (listed o)
front_stays o l m k h =
    let n = listed_length o k in
    ap (take m) (listed_all o l k) ∙ take-take m 128 (listed o ++ l) (omega arith) ∙ take-append-le m (listed o) l (omega arith)

-- ---- the links of a node to its children
-- those still to be checked, from a child on that comes behind `pv`
unfoldable pub rest : Slots → ℕ → ℕ → ℕ → ℕ → ℕ → Bool
rest s node z pv k c = same c (head_or NIL (chain k s c)) && (same z (final_or pv (chain k s c)) && kids_well s node pv (chain k s c))

shuffled : (p q h l k : Bool) → ((p && q) && (h && (l && k))) ≡ (l && ((p && (q && h)) && k))
shuffled true true true l k = refl
shuffled true true false true k = refl
shuffled true true false false k = refl
shuffled true false h true k = refl
shuffled true false h false k = refl
shuffled false q h true k = refl
shuffled false q h false k = refl

rest_more : (s : Slots) (node z pv k c : ℕ) → (k ≡ 0 → ⊥) → c < 128
    → ((same (at s c).parent node && same (at s c).prev_sibling pv) && rest s node z c (k - 1) (at s c).next_sibling) ≡ rest s node z pv k c
unfolding rest kids_well
rest_more s node z pv k c h q =
    let r = chain (k - 1) s (at s c).next_sibling in
    rw (chain_more s k c h q, same_refl c)
    (shuffled (same (at s c).parent node) (same (at s c).prev_sibling pv) (same (at s c).next_sibling (head_or NIL r)) (same z (final_or c r)) (kids_well s node c r))

rest_end : (s : Slots) (node z pv k c : ℕ) → chain k s c ≡ [] → (same c NIL && same z pv) ≡ rest s node z pv k c
unfolding rest kids_well
rest_end s node z pv k c e = rw e (go (same c NIL) (same z pv))
  where
    go : (a b : Bool) → (a && b) ≡ (a && (b && true))
    go true true = refl
    go true false = refl
    go false b = refl

rest_whole : (s : Slots) (i : ℕ) → rest s i (at s i).last_child NIL 128 (at s i).first_child ≡ node_well s i
unfolding rest node_well kids_at
rest_whole s i = refl

pub all_one_further : (p : ℕ → Bool) (l : List ℕ) (m : ℕ) → m < length l → all p (take (m + 1) l) ≡ (all p (take m l) && p (get_or l m 0))
all_one_further p l m h = let e : m + 1 ≡ suc m = omega arith in ap (λ (n : ℕ). all p (take n l)) e ∙ ap (all p) (take-suc l m 0 h) ∙ go (take m l)
  where
    go : (k : List ℕ) → all p (k ++ (get_or l m 0 ∷ [])) ≡ (all p k && p (get_or l m 0))
    go [] = and-true (p (get_or l m 0))
    go (x ∷ k) = ap (λ (b : Bool). p x && b) (go k) ∙ sym (and_assoc (p x) (all p k) (p (get_or l m 0)))

-- the children of the node are listed up to its child c
abbrev pub Passing : Slots → ℕ → Listed 128 → Listed 128 → ℕ → ℕ → ℕ → Bool → Type 0
Passing s node first o c pv k w =
    (added_all o (chain k s c) ≡ added_all first (kids_at s node)) × ((w && rest s node (at s node).last_child pv k c) ≡ node_well s node)

module _ (s : Slots) (node : ℕ) (first : Listed 128) where
  pub passing_start : Passing s node first first (at s node).first_child NIL 128 true
  unfolding kids_at
  passing_start = (refl, rest_whole s node)

  module _ (o : Listed 128) (c pv k : ℕ) (w : Bool) (i : Passing s node first o c pv k w) where
    pub passing_more : {t : Listed 128} {x : Slot} → (k ≡ 0 → ⊥) → c < 128 → x ≡ at s c → t ≡ added o c
        → Passing s node first t x.next_sibling c (k - 1) (w && (same x.parent node && same x.prev_sibling pv))
    passing_more h q e f = rw (f, e) (
      queue.chain_more s k o c (omega arith) q ∙ i.0,
      and_assoc w (same (at s c).parent node && same (at s c).prev_sibling pv) (rest s node (at s node).last_child c (k - 1) (at s c).next_sibling)
          ∙ ap (λ (b : Bool). w && b) (rest_more s node (at s node).last_child pv k c h q) ∙ i.1,
    )

    pub passing_done : chain k s c ≡ [] → (o ≡ added_all first (kids_at s node)) × ((w && (same c NIL && same (at s node).last_child pv)) ≡ node_well s node)
    unfolding added_all
    passing_done e = (
      ap (added_all o) (sym e) ∙ i.0,
      ap (λ (b : Bool). w && b) (rest_end s node (at s node).last_child pv k c e) ∙ i.1,
    )

-- ---- the walk from a slot
-- the nodes before place p of the list are passed
abbrev pub Reaching : Slots → ℕ → Listed 128 → ℕ → Bool → Type 0
Reaching s start o p w =
    Bounded o × Small o.items × (reached s p o ≡ order 128 s (start ∷ [])) × (w ≡ all (node_well s) (take p (listed o)))

module _ (s : Slots) (start : ℕ) where
  pub reaching_start : {o : Listed 128} → start < 128 → o ≡ added none_listed start → Reaching s start o 0 true
  unfolding none_listed
  reaching_start h e =
      let a = reached_start s start {o = none_listed} {t = added none_listed start} refl refl in
      rw e (a.0, small_added none_listed start none_bounded h small_none, a.1, refl)

  module _ (o : Listed 128) (p : ℕ) (w : Bool) (i : Reaching s start o p w) where
    pub reaching_more : {t : Listed 128} {x : ℕ} {b : Bool} → p < o.count → x ≡ get_or o.items p 0 → t ≡ added_all o (kids_at s x) → b ≡ node_well s x
        → Reaching s start t (p + 1) (w && b)
    unfolding kids_at
    reaching_more {x = x} h q e f =
        let n = listed_length o i.0 in
        let m : p < length o.items = omega (arith, i.0.0, i.0.1) in
        let v : x ≡ get_or (listed o) p 0 = q ∙ listed_here o p 0 h m in
        let l = kids_at s x in
        rw (e, f) (
          all_bounded o l i.0,
          small_chain s 128 (at s x).first_child o i.0 i.1,
          reached_more s p o {x = x} {t = added_all o l} i.0 h v refl ∙ i.2,
          ap (λ (c : ℕ). w && node_well s c) v
              ∙ ap (λ (c : Bool). c && node_well s (get_or (listed o) p 0)) i.3
              ∙ sym (all_one_further (node_well s) (listed o) p (omega arith))
              ∙ ap (all (node_well s)) (sym (front_stays o l (p + 1) i.0 (omega arith))),
        )

    pub reaching_done : o.count ≤ p → (listed o ≡ order 128 s (start ∷ [])) × (w ≡ all (node_well s) (order 128 s (start ∷ [])))
    reaching_done h =
        let n = listed_length o i.0 in
        let d = reached_done s p o i.0 h ∙ i.2 in
        (d, i.3 ∙ ap (all (node_well s)) (take_all p (listed o) (omega arith) ∙ d))

-- ---- the free chain
-- what is still to be checked of it, from a slot on
unfoldable pub free_rest : Slots → ℕ → ℕ → Bool
free_rest s k c = same c (head_or NIL (chain k s c)) && free_well s (chain k s c)

-- the chain is listed up to slot c, with k of it to come
abbrev pub Chained : Slots → ℕ → Listed 128 → ℕ → ℕ → Type 0
Chained s from o c k =
    (added_all o (chain k s c) ≡ added_all none_listed (chain 128 s from)) × (free_rest s k c ≡ free_rest s 128 from)

module _ (s : Slots) (from : ℕ) where
  free_more : (k c : ℕ) → (k ≡ 0 → ⊥) → c < 128 → free_rest s (k - 1) (at s c).next_sibling ≡ free_rest s k c
  unfolding free_rest free_well
  free_more k c h q = rw (chain_more s k c h q, same_refl c)

  free_end : (k c : ℕ) → chain k s c ≡ [] → same c NIL ≡ free_rest s k c
  unfolding free_rest free_well
  free_end k c e = rw e (sym (and-true (same c NIL)))

  module _ (o : Listed 128) (c k : ℕ) (i : Chained s from o c k) where
    pub chained_more : {t : Listed 128} {x : Slot} → (k ≡ 0 → ⊥) → c < 128 → x ≡ at s c → t ≡ added o c → Chained s from t x.next_sibling (k - 1)
    chained_more h q e f =
        rw (f, e) (queue.chain_more s k o c (omega arith) q ∙ i.0, free_more k c h q ∙ i.1)

    pub chained_done : chain k s c ≡ [] → (listed o ≡ chain 128 s from) × (same c NIL ≡ (same from (head_or NIL (chain 128 s from)) && free_well s (chain 128 s from)))
    unfolding added_all free_rest free_well
    chained_done e =
        (ap listed (ap (added_all o) (sym e) ∙ i.0) ∙ chain_listed s from, free_end k c e ∙ i.1)

-- ---- a tally
occ_behind : (j x : ℕ) (l : List ℕ) → occ j (l ++ (x ∷ [])) ≡ occ j l + δ x j
occ_behind j x [] = omega arith
occ_behind j x (y ∷ l) = omega (arith, occ_behind j x l)

pub occ_short : (j : ℕ) (l : List ℕ) → occ j l ≤ length l
occ_short j [] = omega arith
occ_short j (y ∷ l) = omega (arith, occ_short j l, δ-le y j)

-- one more is counted
module _ (times l : List ℕ) (x : ℕ) (n : length times ≡ 128) (i : Tallied times l) where
  pub tallied_more : Tallied (set times x (get_or times x 0 + 1)) (l ++ (x ∷ []))
  tallied_more j b =
      let t = occ_behind j x l in
      eq_cases x j
      (λ v _ d. let a : get_or (set times x (get_or times x 0 + 1)) j 0 ≡ get_or times x 0 + 1 = ap (λ (m : ℕ). get_or (set times x (get_or times x 0 + 1)) m 0) (sym v) ∙ get_or-set_same times x (get_or times x 0 + 1) 0 (omega arith) in
      let w : get_or times x 0 ≡ occ j l = ap (λ (m : ℕ). get_or times m 0) v ∙ i j b in
      omega (arith, a, w, t, d))
      (λ v _ d. let a : get_or (set times x (get_or times x 0 + 1)) j 0 ≡ get_or times j 0 = get_or-set_other times x j (get_or times x 0 + 1) 0 (λ u. v (sym u)) in omega (arith, a, i j b, t, d))

-- an item that is no slot is counted nowhere
pub tallied_past : (times l : List ℕ) (x : ℕ) → 128 ≤ x → Tallied times l → Tallied times (l ++ (x ∷ []))
tallied_past times l x h i j b = let t = occ_behind j x l in eq_cases x j (λ v _ d. absurd (omega (arith, v))) (λ v _ d. omega (arith, i j b, t, d))

pub tallied_none : Tallied (replicate 128 0) []
tallied_none j b = read_alike {A = ℕ} 128 j 0
