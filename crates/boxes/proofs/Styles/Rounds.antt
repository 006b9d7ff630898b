-- A round over a list of slots, each changed in turn, is one change of every node: a change made twice is made once and moves nothing the
-- second time, the nodes left out are those that it would leave as they are, and slots without a node are not moved. Assumes nothing.
use mathlib.Core.Path.{◌≡◌, refl, sym, ap, ◌∙◌, subst}
use mathlib.Core.Logic.{◌≢◌}
use mathlib.Core.Bool.{Bool, true, false, ◌||◌}
use mathlib.Core.List.{List, [], ◌∷◌}
use Prim.Native.Nat.{ℕ, ◌<◌}
use native.Mathlib.Omega.{arith}
use native.Mathlib.Decide.{dec_lt}
use lib.ListN.{length, get_or, set}
use lib.Seq.{get_or-set_same, get_or-set_other, set_out}
use Rattle.arithmetic.specs.Tests.{occ}
use Rattle.boxes.specs.Styles.{no_layout, layout_at, state_at}
use Rattle.boxes.specs.States.{Appearance}
use Rattle.arena.specs.Forest.{Forest, map_f, any_f}
use Rattle.boxes.specs.Nodes.{Info}
use Rattle.boxes.specs.declared.Style.{Style}
use Rattle.boxes.specs.declared.LayoutSlot.{LayoutSlot}
use Rattle.boxes.specs.declared.StateSlot.{StateSlot}
use Rattle.arithmetic.proofs.TestLaws.{δ-refl, δ-same, eq_cases, zero_cases}
use Rattle.arena.proofs.Forests.ForestLaws.{cnt}
use Rattle.arena.proofs.Forests.Payloads.{AllF, all_map, all_both, all_map_f, all_at, any_cases}

-- what a slot wears: its state and its style
pub record Look : Type 0 where
  pub state : StateSlot
  pub style : Style

abbrev pub look_at : Appearance → ℕ → Look
look_at k i = record { state = state_at k.states i; style = (layout_at k.layout i).style }

abbrev pub state_of : Info → StateSlot
state_of x = record { table = x.table; base = x.base; applied = x.applied; bits = x.bits }

abbrev pub look_of : Info → Look
look_of x = record { state = state_of x; style = x.style }

-- the arrays hold what the node wears
abbrev pub Worn : List LayoutSlot → List StateSlot → ℕ → Info → Type 0
Worn l s i x = ((layout_at l i).style ≡ x.style) × (state_at s i ≡ state_of x)

pub worn_is_one_look : (k : Appearance) (i : ℕ) (x : Info) → Worn k.layout k.states i x → look_at k i ≡ look_of x
worn_is_one_look k i x w = λ r. record { state = w.1 r; style = w.0 r }

pub one_look_is_worn : (k : Appearance) (i : ℕ) (x : Info) → look_at k i ≡ look_of x → Worn k.layout k.states i x
one_look_is_worn k i x e = (ap (λ (z : Look). z.style) e, ap (λ (z : Look). z.state) e)

abbrev pub Sized : Appearance → Type 0
Sized k = (length k.layout ≡ 128) × (length k.states ≡ 128)

-- a store of a layout slot keeps what the new one has in common with the old
pub a_layout_store_keeps : {B : Type 0} (π : LayoutSlot → B) (l : List LayoutSlot) (i j : ℕ) (s : LayoutSlot) → π s ≡ π (layout_at l i)
    → π (layout_at (set l i s) j) ≡ π (layout_at l j)
unfolding layout_at
a_layout_store_keeps π l i j s e = go (dec_lt i (length l))
  where
    go : Dec (i < length l) → π (get_or (set l i s) j no_layout) ≡ π (get_or l j no_layout)
    go (yes h) = eq_cases j i (λ q _ _. rw q (ap π (get_or-set_same l i s no_layout h) ∙ e)) (λ q _ _. ap π (get_or-set_other l i j s no_layout q))
    go (no h) = ap (λ (b : List LayoutSlot). π (get_or b j no_layout)) (set_out l i s (omega arith))

-- one slot changed, and whether a pass is due for it
pub record Stepped (change : Look → Look) (moves : Look → Bool) (k : Appearance) (i : ℕ) (k' : Appearance) : Type 0 where
  pub sized : Sized k'
  pub here : look_at k' i ≡ change (look_at k i)
  pub elsewhere : (j : ℕ) → j ≢ i → look_at k' j ≡ look_at k j
  pub rects : (j : ℕ) → (layout_at k'.layout j).rect ≡ (layout_at k.layout j).rect
  pub due : k'.dirty ≡ (k.dirty || moves (look_at k i))

pub record Stepping : Type 0 where
  pub change : ℕ → Look → Look
  pub moves : ℕ → Look → Bool
  pub again : (i : ℕ) (e : Look) → change i (change i e) ≡ change i e
  pub still : (i : ℕ) (e : Look) → moves i (change i e) ≡ false
  pub step : Appearance → ℕ → Appearance
  pub law : (k : Appearance) (i : ℕ) → Sized k → i < 128 → Stepped (change i) (moves i) k i (step k i)

abbrev pub visit : Stepping → Appearance → List ℕ → Appearance
visit s k [] = k
visit s k (i ∷ is) = visit s (s.step k i) is

abbrev pub Inside : List ℕ → Type 0
Inside is = (j : ℕ) → 0 < occ j is → j < 128

tail_inside : (i : ℕ) (is : List ℕ) → Inside (i ∷ is) → Inside is
tail_inside i is b j z = b j (omega arith)

head_inside : (i : ℕ) (is : List ℕ) → Inside (i ∷ is) → i < 128
head_inside i is b = let d = δ-refl i in b i (omega arith)

pub or_true : (a : Bool) → (a || true) ≡ true
or_true true = refl
or_true false = refl

pub or_false : (a : Bool) → (a || false) ≡ a
or_false true = refl
or_false false = refl

module _ (s : Stepping) where
  pub a_round_keeps_lengths : (k : Appearance) (is : List ℕ) → Inside is → Sized k → Sized (visit s k is)
  a_round_keeps_lengths k [] b o = o
  a_round_keeps_lengths k (i ∷ is) b o =
      a_round_keeps_lengths (s.step k i) is (tail_inside i is b) (s.law k i o (head_inside i is b)).sized

  pub a_round_keeps_rects : (k : Appearance) (is : List ℕ) → Inside is → Sized k → (j : ℕ) → (layout_at (visit s k is).layout j).rect ≡ (layout_at k.layout j).rect
  a_round_keeps_rects k [] b o j = refl
  a_round_keeps_rects k (i ∷ is) b o j =
      let L = s.law k i o (head_inside i is b) in
      a_round_keeps_rects (s.step k i) is (tail_inside i is b) L.sized j ∙ L.rects j

  pub a_slot_not_visited_stays : (k : Appearance) (is : List ℕ) → Inside is → Sized k → (j : ℕ) → occ j is ≡ 0 → look_at (visit s k is) j ≡ look_at k j
  a_slot_not_visited_stays k [] b o j z = refl
  a_slot_not_visited_stays k (i ∷ is) b o j z =
      let L = s.law k i o (head_inside i is b) in
      a_slot_not_visited_stays (s.step k i) is (tail_inside i is b) L.sized j (omega arith) ∙ L.elsewhere j (λ e. let d = δ-same i j (sym e) in omega arith)

  pub a_slot_visited_is_changed : (k : Appearance) (is : List ℕ) → Inside is → Sized k → (j : ℕ) → 0 < occ j is → look_at (visit s k is) j ≡ s.change j (look_at k j)
  a_slot_visited_is_changed k [] b o j z = absurd (omega arith)
  a_slot_visited_is_changed k (i ∷ is) b o j z =
      let L = s.law k i o (head_inside i is b) in
      let k1 : Appearance = s.step k i in
      zero_cases (occ j is)
      (λ c. a_slot_not_visited_stays k1 is (tail_inside i is b) L.sized j c ∙ eq_cases i j
      (λ e _ _. subst (λ (n : ℕ). look_at k1 n ≡ s.change n (look_at k n)) e L.here)
      (λ e _ d. absurd (omega arith)))
      (λ c. a_slot_visited_is_changed k1 is (tail_inside i is b) L.sized j c ∙ eq_cases i j
      (λ e _ _. subst (λ (n : ℕ). s.change n (look_at k1 n) ≡ s.change n (look_at k n)) e (ap (s.change i) L.here ∙ s.again i (look_at k i)))
      (λ e _ _. ap (s.change j) (L.elsewhere j (λ q. e (sym q)))))

  still_after : (k : Appearance) (i j : ℕ) → Sized k → i < 128 → s.moves j (look_at k j) ≡ false → s.moves j (look_at (s.step k i) j) ≡ false
  still_after k i j o b h =
      let L = s.law k i o b in
      eq_cases i j
      (λ e _ _. subst (λ (n : ℕ). s.moves n (look_at (s.step k i) n) ≡ false) e (ap (s.moves i) L.here ∙ s.still i (look_at k i)))
      (λ e _ _. ap (s.moves j) (L.elsewhere j (λ q. e (sym q))) ∙ h)

  pub nothing_moved_no_pass_is_due : (k : Appearance) (is : List ℕ) → Inside is → Sized k → ((j : ℕ) → 0 < occ j is → s.moves j (look_at k j) ≡ false) → (visit s k is).dirty ≡ k.dirty
  nothing_moved_no_pass_is_due k [] b o h = refl
  nothing_moved_no_pass_is_due k (i ∷ is) b o h =
      let d = δ-refl i in
      let bi = head_inside i is b in
      let L = s.law k i o bi in
      nothing_moved_no_pass_is_due (s.step k i) is (tail_inside i is b) L.sized (λ j z. still_after k i j o bi (h j (omega arith)))
      ∙ L.due ∙ ap (λ (m : Bool). k.dirty || m) (h i (omega arith)) ∙ or_false k.dirty

  stays_due : (k : Appearance) (is : List ℕ) → Inside is → Sized k → k.dirty ≡ true → (visit s k is).dirty ≡ true
  stays_due k [] b o h = h
  stays_due k (i ∷ is) b o h =
      let L = s.law k i o (head_inside i is b) in
      stays_due (s.step k i) is (tail_inside i is b) L.sized (L.due ∙ ap (λ (m : Bool). m || s.moves i (look_at k i)) h)

  pub a_slot_moved_a_pass_is_due : (k : Appearance) (is : List ℕ) → Inside is → Sized k → (j : ℕ) → 0 < occ j is → s.moves j (look_at k j) ≡ true → (visit s k is).dirty ≡ true
  a_slot_moved_a_pass_is_due k [] b o j z h = absurd (omega arith)
  a_slot_moved_a_pass_is_due k (i ∷ is) b o j z h =
      let L = s.law k i o (head_inside i is b) in
      eq_cases i j
      (λ e _ _.
      let h' : s.moves i (look_at k i) ≡ true = subst (λ (n : ℕ). s.moves n (look_at k n) ≡ true) (sym e) h in
      stays_due (s.step k i) is (tail_inside i is b) L.sized (L.due ∙ ap (λ (m : Bool). k.dirty || m) h' ∙ or_true k.dirty))
      (λ e _ d.
      a_slot_moved_a_pass_is_due (s.step k i) is (tail_inside i is b) L.sized j (omega arith) (ap (s.moves j) (L.elsewhere j (λ q. e (sym q))) ∙ h))

  -- how a round meets a node: visited, it becomes what the node becomes; not visited, the node is not to change
  abbrev pub Met : List ℕ → (ℕ → ℕ → Info → Info) → (ℕ → ℕ → Info → Bool) → ℕ → ℕ → Info → Type 0
  Met is v q i g x =
      (0 < occ i is → (s.change i (look_of x) ≡ look_of (v i g x)) × (s.moves i (look_of x) ≡ q i g x))
      × (occ i is ≡ 0 → (look_of (v i g x) ≡ look_of x) × (q i g x ≡ false))

  pub a_round_is_a_change_of_every_node : (k : Appearance) (is : List ℕ) (t : Forest Info) (v : ℕ → ℕ → Info → Info) (q : ℕ → ℕ → Info → Bool)
      → Inside is → Sized k → AllF (λ i g x. Worn k.layout k.states i x) t → AllF (Met is v q) t
      → AllF (λ i g x. Worn (visit s k is).layout (visit s k is).states i x) (map_f v t)
  a_round_is_a_change_of_every_node k is t v q b o w m =
      let W : ℕ → ℕ → Info → Type 0 = λ i g x. Worn k.layout k.states i x in
      let W' : ℕ → ℕ → Info → Type 0 = λ i g x. Worn (visit s k is).layout (visit s k is).states i x in
      all_map_f W' v t (all_map (λ i g x. W i g x × Met is v q i g x) (λ i g x. W' i g (v i g x)) t
      (λ i g x c r.
      let e = worn_is_one_look k i x r.0 in
      one_look_is_worn (visit s k is) i (v i g x) (zero_cases (occ i is)
      (λ z. a_slot_not_visited_stays k is b o i z ∙ e ∙ sym (r.1.1 z).0)
      (λ z. a_slot_visited_is_changed k is b o i z ∙ ap (s.change i) e ∙ (r.1.0 z).0)))
      (all_both W (Met is v q) t w m))

  pub a_pass_is_due_where_a_node_moved : (k : Appearance) (is : List ℕ) (t : Forest Info) (v : ℕ → ℕ → Info → Info) (q : ℕ → ℕ → Info → Bool)
      → Inside is → Sized k → AllF (λ i g x. Worn k.layout k.states i x) t → AllF (Met is v q) t
      → ((j : ℕ) → 0 < occ j is → cnt j t ≡ 0 → s.moves j (look_at k j) ≡ false)
      → (visit s k is).dirty ≡ (k.dirty || any_f q t)
  a_pass_is_due_where_a_node_moved k is t v q b o w m dead =
      let W : ℕ → ℕ → Info → Type 0 = λ i g x. Worn k.layout k.states i x in
      let P : ℕ → ℕ → Info → Type 0 = λ i g x. W i g x × Met is v q i g x in
      let al : AllF P t = all_both W (Met is v q) t w m in
      any_cases q P t al
      (λ e z.
      let i : ℕ = z.ix in
      let p = z.holds in
      let y = z.yes_it in
      let there : 0 < occ i is = zero_cases (occ i is)
      (λ c. let n = (p.1.1 c).1 in let zz : ◌≡◌ {A = ℕ} 0 1 = cc in absurd (omega arith))
      (λ c. c) in
      a_slot_moved_a_pass_is_due k is b o i there (ap (s.moves i) (worn_is_one_look k i z.load p.0) ∙ (p.1.0 there).1 ∙ y)
      ∙ sym (ap (λ (h : Bool). k.dirty || h) e ∙ or_true k.dirty))
      (λ e none.
      nothing_moved_no_pass_is_due k is b o
      (λ j z. zero_cases (cnt j t)
      (λ c. dead j z c)
      (λ c.
      let r = all_at (λ i g x. P i g x × (q i g x ≡ false)) j t (all_both P (λ i g x. q i g x ≡ false) t al none) c in
      ap (s.moves j) (worn_is_one_look k j r.load r.holds.0.0) ∙ (r.holds.0.1.0 z).1 ∙ r.holds.1))
      ∙ sym (ap (λ (h : Bool). k.dirty || h) e ∙ or_false k.dirty))
