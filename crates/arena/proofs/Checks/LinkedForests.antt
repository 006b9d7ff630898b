-- Slots that keep the link rules hold a forest: what is reached from the root is its nodes, each once, the chains of children are its
-- children, and the free chain holds all other slots below the limit. The walk from the root is not cut off: what would wait when 128 are
-- listed is a child of one listed, and each child has one parent and one place. Assumes nothing.
use Rattle.std.proofs.Common.{◌≡◌, ℕ, zero, suc, ◌+◌, ◌<◌, ◌≤◌, Bool, true, false, ◌&&◌, ltb, List, [], ◌∷◌, ◌++◌, length, sym, refl, ap, ◌∙◌, subst, arith, ltb-true}
use Rattle.arithmetic.specs.Tests.{same, δ, occ, head_or, final_or, from_to, all}
use Rattle.arena.specs.Forest.{Forest, nil, node, app, size}
use Rattle.arena.specs.Slots.{NIL, Slots, at, used, chain, kids_at, order}
use Rattle.arena.specs.Rules.{aliveness, kids_well, node_well, free_well, once, each_once, root_well, linked}
use Rattle.arena.specs.declared.Slot.{Slot}
use Rattle.arithmetic.proofs.TestLaws.{δ-refl, δ-same, δ-other, δ-le, eq_cases, zero_cases, bool_cases, same_is}
use Rattle.arithmetic.proofs.BoolLaws.{both}
use Rattle.arena.proofs.Forests.ForestLaws.{first_or, last_or, cnt, cnt_app, size_app}
use Rattle.arena.proofs.Forests.Segments.{SegR}
use Rattle.arena.proofs.Forests.Relations.{Rel, FreeR}
use Rattle.arena.proofs.Forests.Orders.{tops, occ_tops}
use Rattle.arena.proofs.Forests.FreeOrders.{occ_append}
use Rattle.arena.proofs.Forests.Starts.{occ_within}
use Rattle.arena.proofs.Checks.RuleLaws.{head_tops, final_tops}
use Rattle.arena.proofs.Checks.WalkLaws.{occ_short}

-- ---- lists of numbers

-- a test that holds of all holds of what occurs
pub each_that_occurs : (p : ℕ → Bool) (l : List ℕ) → all p l ≡ true → (j : ℕ) → 0 < occ j l → p j ≡ true
each_that_occurs p [] e j z = absurd (omega arith)
each_that_occurs p (i ∷ is) e j z =
    let h = both (p i) (all p is) e in
    eq_cases i j (λ q _ _. rw (← q) h.0) (λ q _ d. each_that_occurs p is h.1 j (omega arith))

-- how many items of a list lie below n
abbrev tally : ℕ → List ℕ → ℕ
tally zero l = 0
tally (suc n) l = occ n l + tally n l

tally_none : (n : ℕ) → tally n [] ≡ 0
tally_none zero = refl
tally_none (suc n) = let r = tally_none n in omega arith

tally_past : (n i : ℕ) (l : List ℕ) → n ≤ i → tally n (i ∷ l) ≡ tally n l
tally_past zero i l h = refl
tally_past (suc n) i l h = let d = δ-other i n (λ e. omega arith) in let r = tally_past n i l (omega arith) in omega arith

tally_below : (n i : ℕ) (l : List ℕ) → i < n → tally n (i ∷ l) ≡ suc (tally n l)
tally_below zero i l h = absurd (omega arith)
tally_below (suc n) i l h =
    eq_cases i n
    (λ e _ d. let r = tally_past n i l (omega arith) in omega arith)
    (λ e _ d. let r = tally_below n i l (omega arith) in omega arith)

tally_all : (n : ℕ) (l : List ℕ) → ((j : ℕ) → 0 < occ j l → j < n) → tally n l ≡ length l
tally_all n [] h = tally_none n
tally_all n (i ∷ is) h =
    let d = δ-refl i in
    let r = tally_all n is (λ j c. h j (omega arith)) in
    let t = tally_below n i is (h i (omega arith)) in omega arith

tally_two : (n : ℕ) (l m : List ℕ) → ((j : ℕ) → j < n → occ j l + occ j m ≡ 1) → tally n l + tally n m ≡ n
tally_two zero l m h = refl
tally_two (suc n) l m h = let r = tally_two n l m (λ j c. h j (omega arith)) in let w = h n (omega arith) in omega arith

-- two lists that share the numbers below n between them have n items
pub numbers_shared : (n : ℕ) (l m : List ℕ) → ((j : ℕ) → 0 < occ j l → j < n) → ((j : ℕ) → 0 < occ j m → j < n) → ((j : ℕ) → j < n → occ j l + occ j m ≡ 1)
    → length l + length m ≡ n
numbers_shared n l m hl hm h = let a = tally_all n l hl in let b = tally_all n m hm in let c = tally_two n l m h in omega arith

-- ---- a chain of children

pub chain_in_range : (k : ℕ) (s : Slots) (c j : ℕ) → 0 < occ j (chain k s c) → j < 128
unfolding chain
chain_in_range zero s c j z = absurd (omega arith)
chain_in_range (suc k) s c j z =
    bool_cases (ltb c 128)
    (λ e. let w : 0 < occ j (c ∷ chain k s (at s c).next_sibling) = rw e at z in
    let h = ltb-true c 128 e in
    eq_cases c j (λ q _ _. omega arith) (λ q _ d. chain_in_range k s (at s c).next_sibling j (omega arith)))
    (λ e. let w : 0 < occ j [] = rw e at z in absurd (omega arith))

pub kids_in_range : (s : Slots) (i j : ℕ) → 0 < occ j (kids_at s i) → j < 128
unfolding kids_at
kids_in_range s i j z = chain_in_range 128 s (at s i).first_child j z

-- what the rules say of the first of the children, and of the others
record FirstKid (s : Slots) (p pv c : ℕ) (cs : List ℕ) : Type 0 where
  is_parent : (at s c).parent ≡ p
  is_prev : (at s c).prev_sibling ≡ pv
  is_next : (at s c).next_sibling ≡ head_or NIL cs
  others : kids_well s p c cs ≡ true

first_kid : (s : Slots) (p pv c : ℕ) (cs : List ℕ) → kids_well s p pv (c ∷ cs) ≡ true → FirstKid s p pv c cs
unfolding kids_well
first_kid s p pv c cs e =
    let a = both (same (at s c).parent p && (same (at s c).prev_sibling pv && same (at s c).next_sibling (head_or NIL cs))) (kids_well s p c cs) e in
    let b = both (same (at s c).parent p) (same (at s c).prev_sibling pv && same (at s c).next_sibling (head_or NIL cs)) a.0 in
    let d = both (same (at s c).prev_sibling pv) (same (at s c).next_sibling (head_or NIL cs)) b.1 in
    record {
      is_parent = same_is (at s c).parent p b.0;
      is_prev = same_is (at s c).prev_sibling pv d.0;
      is_next = same_is (at s c).next_sibling (head_or NIL cs) d.1;
      others = a.1;
    }

-- a child's parent, and the one before it
kids_parent : (s : Slots) (p pv : ℕ) (cs : List ℕ) → kids_well s p pv cs ≡ true → (j : ℕ) → 0 < occ j cs → (at s j).parent ≡ p
kids_parent s p pv [] e j z = absurd (omega arith)
kids_parent s p pv (c ∷ cs) e j z =
    let k = first_kid s p pv c cs e in
    eq_cases c j (λ q _ _. rw (← q) k.is_parent) (λ q _ d. kids_parent s p c cs k.others j (omega arith))

kids_prev : (s : Slots) (p pv : ℕ) (cs : List ℕ) → kids_well s p pv cs ≡ true → (j : ℕ) → 0 < occ j cs → 0 < occ (at s j).prev_sibling (pv ∷ cs)
kids_prev s p pv [] e j z = absurd (omega arith)
kids_prev s p pv (c ∷ cs) e j z =
    let k = first_kid s p pv c cs e in
    eq_cases c j
    (λ q _ _. let v : (at s j).prev_sibling ≡ pv = rw (← q) k.is_prev in let d = δ-same pv (at s j).prev_sibling (sym v) in omega arith)
    (λ q _ d. let r = kids_prev s p c cs k.others j (omega arith) in omega arith)

-- no child twice
kids_once : (s : Slots) (p pv : ℕ) (cs : List ℕ) → kids_well s p pv cs ≡ true → occ pv cs ≡ 0 → (j : ℕ) → occ j cs ≤ 1
kids_once s p pv [] e n j = omega arith
kids_once s p pv (c ∷ cs) e n j =
    let k = first_kid s p pv c cs e in
    let alone : occ c cs ≡ 0 = zero_cases (occ c cs) (λ z. z)
    (λ z. let h : 0 < occ pv (c ∷ cs) = subst (λ (n : ℕ). 0 < occ n (c ∷ cs)) k.is_prev (kids_prev s p c cs k.others c z) in absurd (omega arith)) in
    let r = kids_once s p c cs k.others alone j in
    eq_cases c j (λ q _ _. let z : occ j cs ≡ 0 = rw q at alone in let d = δ-le c j in omega arith) (λ q _ d. omega arith)

-- what the rules say of a node's links to its children
record NodeLinks (s : Slots) (i : ℕ) : Type 0 where
  is_the_first : (at s i).first_child ≡ head_or NIL (kids_at s i)
  is_last : (at s i).last_child ≡ final_or NIL (kids_at s i)
  children_well : kids_well s i NIL (kids_at s i) ≡ true

node_links : (s : Slots) (i : ℕ) → node_well s i ≡ true → NodeLinks s i
unfolding node_well
node_links s i e =
    let cs : List ℕ = kids_at s i in
    let a = both (same (at s i).first_child (head_or NIL cs)) (same (at s i).last_child (final_or NIL cs) && kids_well s i NIL cs) e in
    let b = both (same (at s i).last_child (final_or NIL cs)) (kids_well s i NIL cs) a.1 in
    record { is_the_first = same_is (at s i).first_child (head_or NIL cs) a.0; is_last = same_is (at s i).last_child (final_or NIL cs) b.0; children_well = b.1 }

-- a slot is a child of its parent alone, and once
one_child : (s : Slots) (i j : ℕ) → node_well s i ≡ true → occ j (kids_at s i) ≤ δ i (at s j).parent
one_child s i j e =
    let N = node_links s i e in
    let out : occ NIL (kids_at s i) ≡ 0 = zero_cases (occ NIL (kids_at s i)) (λ z. z) (λ z. let h = kids_in_range s i NIL z in absurd (omega arith)) in
    zero_cases (occ j (kids_at s i))
    (λ z. omega arith)
    (λ z.
    let d = δ-same i (at s j).parent (sym (kids_parent s i NIL (kids_at s i) N.children_well j z)) in
    let u = kids_once s i NIL (kids_at s i) N.children_well out j in omega arith)

-- ---- the walk from the root

-- what waits when k are listed
unfoldable waiting : ℕ → Slots → List ℕ → List ℕ
waiting zero s q = q
waiting (suc k) s [] = []
waiting (suc k) s (i ∷ q) = waiting k s (q ++ kids_at s i)

-- how often j is a child of those in a list
abbrev children : ℕ → Slots → List ℕ → ℕ
children j s [] = 0
children j s (i ∷ is) = occ j (kids_at s i) + children j s is

-- what is listed and what waits are what was there and the children of what is listed
listed_or_waiting : (j k : ℕ) (s : Slots) (q : List ℕ) → occ j (order k s q) + occ j (waiting k s q) ≡ occ j q + children j s (order k s q)
unfolding order waiting
listed_or_waiting j zero s q = omega arith
listed_or_waiting j (suc k) s [] = refl
listed_or_waiting j (suc k) s (i ∷ q) =
    let r = listed_or_waiting j k s (q ++ kids_at s i) in let e = occ_append j q (kids_at s i) in omega arith

children_few : (j : ℕ) (s : Slots) (l : List ℕ) → ((i : ℕ) → 0 < occ i l → node_well s i ≡ true) → children j s l ≤ occ (at s j).parent l
children_few j s [] h = omega arith
children_few j s (i ∷ is) h =
    let d = δ-refl i in
    let a = one_child s i j (h i (omega arith)) in
    let b = children_few j s is (λ k c. h k (omega arith)) in omega arith

waiting_in_range : (k : ℕ) (s : Slots) (q : List ℕ) → ((j : ℕ) → 0 < occ j q → j < 128) → (j : ℕ) → 0 < occ j (waiting k s q) → j < 128
unfolding waiting
waiting_in_range zero s q h j z = h j z
waiting_in_range (suc k) s [] h j z = absurd (omega arith)
waiting_in_range (suc k) s (i ∷ q) h j z =
    waiting_in_range k s (q ++ kids_at s i)
    (λ m c. let e = occ_append m q (kids_at s i) in zero_cases (occ m q) (λ z. kids_in_range s i m (omega arith)) (λ z. h m (omega arith))) j z

waiting_when_full : (k : ℕ) (s : Slots) (q : List ℕ) → 0 < length (waiting k s q) → length (order k s q) ≡ k
unfolding order waiting
waiting_when_full zero s q z = refl
waiting_when_full (suc k) s [] z = absurd (omega arith)
waiting_when_full (suc k) s (i ∷ q) z = ap suc (waiting_when_full k s (q ++ kids_at s i) z)

-- ---- a forest for what is listed

abbrev Bare : Type 0
Bare = Forest (Unit {0})

-- the slots say of each topmost node that it is live, and its children
abbrev Held : Slots → Bare → Type 0
Held a nil = Unit {0}
Held a (node i g x cs sib) =
    (at a i ≡ used g (at a i).parent (first_or NIL cs) (last_or NIL cs) (at a i).prev_sibling (at a i).next_sibling) × SegR a i NIL cs NIL × Held a sib

held_parts : (a : Slots) (f t : Bare) → Held a (app f t) → Held a f × Held a t
held_parts a nil t r = (tt, r)
held_parts a (node i g x cs sib) t r = let h = held_parts a sib t r.2 in ((r.0, r.1, h.0), h.1)

relinked : (g f l : ℕ) {p q v w m n : ℕ} → p ≡ q → v ≡ w → m ≡ n → used g p f l v m ≡ used g q f l w n
relinked g f l a b c = rw (a, b, c)

-- children whose links among themselves are right
held_children : (a : Slots) (p pv : ℕ) (f : Bare) → Held a f → kids_well a p pv (tops f) ≡ true → SegR a p pv f NIL
held_children a p pv nil r e = tt
held_children a p pv (node i g x cs sib) r e =
    let k = first_kid a p pv i (tops sib) e in
    (r.0 ∙ relinked g (first_or NIL cs) (last_or NIL cs) k.is_parent k.is_prev (k.is_next ∙ head_tops NIL sib), r.1, held_children a p i sib r.2 k.others)

record TwoParts (q m : List ℕ) (f : Bare) : Type 0 where
  front : Bare
  back : Bare
  whole : f ≡ app front back
  front_tops : tops front ≡ q
  back_tops : tops back ≡ m

two_parts : (q m : List ℕ) (f : Bare) → tops f ≡ q ++ m → TwoParts q m f
two_parts [] m f e = record { front = nil; back = f; whole = refl; front_tops = refl; back_tops = e }
two_parts (i ∷ q) m nil e = let z : ◌≡◌ {A = ℕ} 0 1 = cc in absurd (omega arith)
two_parts (i ∷ q) m (node k g x cs sib) e =
    let w : tops sib ≡ q ++ m = cc in
    let v : k ≡ i = cc in
    let r = two_parts q m sib w in
    record { front = node k g x cs r.front; back = r.back; whole = ap (node k g x cs) r.whole; front_tops = rw (v, r.front_tops); back_tops = r.back_tops }

record Grown (k : ℕ) (s : Slots) (q : List ℕ) : Type 0 where
  forest : Bare
  is_tops : tops forest ≡ q
  counts : (j : ℕ) → cnt j forest ≡ occ j (order k s q)
  sizes : size forest ≡ length (order k s q)
  held : Held s forest

slot_by_parts : (x : Slot) (f l : ℕ) → x.live ≡ true → x.first_child ≡ f → x.last_child ≡ l
    → x ≡ used x.generation x.parent f l x.prev_sibling x.next_sibling
slot_by_parts x f l a b c = rw (← a, ← b, ← c)

-- where the walk ends by itself, the first is a node whose children are those that it put behind the others
grown : (k : ℕ) (s : Slots) (q : List ℕ) → waiting k s q ≡ [] → ((j : ℕ) → 0 < occ j (order k s q) → ((at s j).live ≡ true) × (node_well s j ≡ true)) → Grown k s q
unfolding order waiting
grown zero s [] e h = record { forest = nil; is_tops = refl; counts = λ j. refl; sizes = refl; held = tt }
grown zero s (i ∷ q) e h = let z : ◌≡◌ {A = ℕ} 0 1 = cc in absurd (omega arith)
grown (suc k) s [] e h = record { forest = nil; is_tops = refl; counts = λ j. refl; sizes = refl; held = tt }
grown (suc k) s (i ∷ q) e h =
    let d = δ-refl i in
    let G = grown k s (q ++ kids_at s i) e (λ j c. h j (omega arith)) in
    let T = two_parts q (kids_at s i) G.forest G.is_tops in
    let cs : Bare = T.back in
    let sib : Bare = T.front in
    let H = held_parts s sib cs (subst (Held s) T.whole G.held) in
    let w = h i (omega arith) in
    let N = node_links s i w.1 in
    let b : kids_well s i NIL (tops cs) ≡ true = rw T.back_tops N.children_well in
    record {
      forest = node i (at s i).generation tt cs sib;
      is_tops = ap (λ (l : List ℕ). i ∷ l) T.front_tops;
      counts = λ j. let a = G.counts j in let v = ap (cnt j) T.whole in let v' = cnt_app j sib cs in omega arith;
      sizes = let a = G.sizes in let v = ap size T.whole in let v' = size_app sib cs in omega arith;
      held = (
        slot_by_parts (at s i) (first_or NIL cs) (last_or NIL cs) w.0
            (N.is_the_first ∙ ap (head_or NIL) (sym T.back_tops) ∙ head_tops NIL cs) (N.is_last ∙ ap (final_or NIL) (sym T.back_tops) ∙ final_tops NIL cs),
        held_children s i NIL cs H.1 b,
        H.0,
      );
    }

-- ---- the rules, taken apart

record LinkParts (n : ℕ) (s : Slots) (head live : ℕ) (reached free : List ℕ) : Type 0 where
  root_links : kids_well s NIL NIL (0 ∷ []) ≡ true
  shared : (j : ℕ) → j < n → (occ j reached ≡ aliveness (at s j)) × (occ j reached + occ j free ≡ 1)
  reached_below : (j : ℕ) → 0 < occ j reached → j < n
  free_below : (j : ℕ) → 0 < occ j free → j < n
  nodes : (j : ℕ) → 0 < occ j reached → node_well s j ≡ true
  head_is : head ≡ head_or NIL free
  chain_well : free_well s free ≡ true
  count : live ≡ length reached

shared_parts : (n : ℕ) (s : Slots) (reached free : List ℕ) → each_once n s reached free ≡ true
    → ((j : ℕ) → j < n → (occ j reached ≡ aliveness (at s j)) × (occ j reached + occ j free ≡ 1)) × ((j : ℕ) → 0 < occ j reached → j < n) × ((j : ℕ) → 0 < occ j free → j < n)
unfolding each_once
shared_parts n s reached free e =
    let a = both (all (once s reached free) (from_to 0 n)) (all (λ (i : ℕ). ltb i n) reached && all (λ (i : ℕ). ltb i n) free) e in
    let b = both (all (λ (i : ℕ). ltb i n) reached) (all (λ (i : ℕ). ltb i n) free) a.1 in (
      λ j h. let w = occ_within 0 n j (omega arith) (omega arith) in
          let c = both (same (occ j reached) (aliveness (at s j))) (same (occ j reached + occ j free) 1) (each_that_occurs (once s reached free) (from_to 0 n) a.0 j (omega arith)) in
          (same_is (occ j reached) (aliveness (at s j)) c.0, same_is (occ j reached + occ j free) 1 c.1),
      λ j h. ltb-true j n (each_that_occurs (λ (i : ℕ). ltb i n) reached b.0 j h),
      λ j h. ltb-true j n (each_that_occurs (λ (i : ℕ). ltb i n) free b.1 j h),
    )

root_parts : (s : Slots) → root_well s ≡ true → kids_well s NIL NIL (0 ∷ []) ≡ true
unfolding kids_well
root_parts s e = let a = both (at s 0).live (same (at s 0).parent NIL && (same (at s 0).prev_sibling NIL && same (at s 0).next_sibling NIL)) e in rw a.1

link_parts : (n : ℕ) (s : Slots) (head live : ℕ) → linked n s head live ≡ true → LinkParts n s head live (order 128 s (0 ∷ [])) (chain 128 s head)
unfolding linked
link_parts n s head live e =
    let reached : List ℕ = order 128 s (0 ∷ []) in
    let free : List ℕ = chain 128 s head in
    let a = both (root_well s) (each_once n s reached free && (all (node_well s) reached && (same head (head_or NIL free) && (free_well s free && same live (length reached))))) e in
    let b = both (each_once n s reached free) (all (node_well s) reached && (same head (head_or NIL free) && (free_well s free && same live (length reached)))) a.1 in
    let c = both (all (node_well s) reached) (same head (head_or NIL free) && (free_well s free && same live (length reached))) b.1 in
    let d = both (same head (head_or NIL free)) (free_well s free && same live (length reached)) c.1 in
    let f = both (free_well s free) (same live (length reached)) d.1 in
    let p = shared_parts n s reached free b.0 in
    record {
      root_links = root_parts s a.0;
      shared = p.0;
      reached_below = p.1;
      free_below = p.2;
      nodes = each_that_occurs (node_well s) reached c.0;
      head_is = same_is head (head_or NIL free) d.0;
      chain_well = f.0;
      count = same_is live (length reached) f.1;
    }

alive : (x : Slot) → 0 < aliveness x → x.live ≡ true
alive x z = bool_cases x.live (λ e. e) (λ e. let w : 0 < 0 = rw e at z in absurd (omega arith))

dead : (x : Slot) → aliveness x ≡ 0 → x.live ≡ false
dead x z = bool_cases x.live (λ e. let w : ◌≡◌ {A = ℕ} 1 0 = rw e at z in absurd (omega arith)) (λ e. e)

free_chain : (s : Slots) (l : List ℕ) → free_well s l ≡ true → ((j : ℕ) → 0 < occ j l → (at s j).live ≡ false) → FreeR s l
unfolding free_well
free_chain s [] e h = tt
free_chain s (i ∷ is) e h =
    let d = δ-refl i in
    let a = both (same (at s i).next_sibling (head_or NIL is)) (free_well s is) e in
    (h i (omega arith), same_is (at s i).next_sibling (head_or NIL is) a.0, free_chain s is a.1 (λ j c. h j (omega arith)))

-- ---- the forest

-- the slots hold a forest, the free chain is a list of all other slots below the limit, and the live count is right
pub record HoldsForest (n : ℕ) (s : Slots) (head live : ℕ) : Type 0 where
  pub forest : Forest (Unit {0})
  pub chained : List ℕ
  pub rel : Rel n s head forest chained
  pub count : live ≡ size forest

module _ (n : ℕ) (s : Slots) (head live : ℕ) (long : length s ≡ 128) (small : n ≤ 128) (well : linked n s head live ≡ true) where
  abbrev reached : List ℕ
  reached = order 128 s (0 ∷ [])

  abbrev free : List ℕ
  free = chain 128 s head

  parts : LinkParts n s head live reached free
  parts = link_parts n s head live well

  total : length reached + length free ≡ n
  total = numbers_shared n reached free parts.reached_below parts.free_below (λ j h. (parts.shared j h).1)

  at_most_once : (j : ℕ) → occ j reached + occ j free ≤ 1
  at_most_once j = zero_cases (occ j reached + occ j free) (λ z. omega arith)
      (λ z. let h : j < n = zero_cases (occ j reached) (λ y. parts.free_below j (omega arith)) (λ y. parts.reached_below j y) in let w = (parts.shared j h).1 in omega arith)

  -- nothing waits at the end: it would be listed, and be a child of one listed besides
  none_waits : waiting 128 s (0 ∷ []) ≡ []
  none_waits = go (waiting 128 s (0 ∷ [])) refl
    where
      go : (l : List ℕ) → waiting 128 s (0 ∷ []) ≡ l → l ≡ []
      go [] e = refl
      go (c ∷ r) e =
          let w0 : length (waiting 128 s (0 ∷ [])) ≡ suc (length r) = ap length e in
          let w1 : occ c (waiting 128 s (0 ∷ [])) ≡ δ c c + occ c r = ap (occ c) e in
          let dc = δ-refl c in
          let f = waiting_when_full 128 s (0 ∷ []) (omega arith) in
          let t = total in
          let b = waiting_in_range 128 s (0 ∷ []) (λ j z. eq_cases 0 j (λ q _ _. omega arith) (λ q _ d. absurd (omega arith))) c (omega arith) in
          let v = (parts.shared c (omega arith)).1 in
          let o = occ_short c free in
          let I = listed_or_waiting c 128 s (0 ∷ []) in
          let B = children_few c s reached parts.nodes in
          let R = first_kid s NIL NIL 0 [] parts.root_links in
          eq_cases 0 c
          (λ q _ d.
          let p : (at s c).parent ≡ NIL = rw (← q) R.is_parent in
          let z : occ (at s c).parent reached ≡ 0 = rw p (zero_cases (occ NIL reached) (λ y. y) (λ y. let h = parts.reached_below NIL y in absurd (omega arith))) in
          absurd (omega arith))
          (λ q _ d. let z = at_most_once (at s c).parent in absurd (omega arith))

  tree : Grown 128 s (0 ∷ [])
  tree = grown 128 s (0 ∷ []) none_waits
      (λ j c. let h = parts.reached_below j c in let v = (parts.shared j h).0 in (alive (at s j) (omega arith), parts.nodes j c))

  -- links that keep the rules spell a forest
  pub linked_slots_hold_a_forest : HoldsForest n s head live
  linked_slots_hold_a_forest =
      let t : Bare = tree.forest in
      record {
        forest = t;
        chained = free;
        rel = record {
          len = long;
          small = small;
          links = held_children s NIL NIL t tree.held (rw tree.is_tops parts.root_links);
          frees = free_chain s free parts.chain_well
              (λ j c. let h = parts.free_below j c in let v = parts.shared j h in dead (at s j) (omega arith));
          head = parts.head_is;
          cover = λ j h. let c = tree.counts j in let v = (parts.shared j h).1 in omega arith;
          inside = λ j h. let c = tree.counts j in
              zero_cases (occ j reached) (λ y. zero_cases (occ j free) (λ z. omega arith) (λ z. let b = parts.free_below j z in absurd (omega arith)))
              (λ y. let b = parts.reached_below j y in absurd (omega arith));
          root = λ j. sym (occ_tops j t) ∙ ap (occ j) tree.is_tops ∙ omega arith;
          total = let c = tree.sizes in let v = total in omega arith;
        };
        count = let c = tree.sizes in let v = parts.count in omega arith;
      }
