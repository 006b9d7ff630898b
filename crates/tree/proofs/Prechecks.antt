-- What a call on a node gives where it is refused at once, and where it is not; and what a tree that is not broken has. Assumes nothing.
use Rattle.std.specs.Prelude.{Err, Ok, Result}
use mathlib.Core.Path.{◌≡◌, refl, sym, ◌∙◌}
use mathlib.Core.Bool.{Bool, true, false, ◌&&◌}
use mathlib.Core.List.{List, [], ◌∷◌, ◌++◌}
use Prim.Native.Nat.{ℕ, zero, suc, ◌+◌, ◌≤◌, ◌<◌}
use native.Mathlib.Omega.{arith}
use borrow.Author.Tests.{ltb-true}
use lib.Dec.{ltb}
use lib.ListN.{length}
use Rattle.text.specs.declared.refusal.Refusal.{Refusal}
use Rattle.text.specs.declared.refusal.Refusal.TheVariants.{Broken, Missing}
use Rattle.field.specs.declared.NodeId.{NodeId}
use Rattle.arithmetic.specs.Tests.{same, all, occ, head_or, from_to}
use Rattle.arena.specs.Slots.{Slots, NIL, at, is_live, order, chain, kids_at}
use Rattle.tree.specs.Trees.{limit_of}
use Rattle.tree.specs.Broken.{broken}
use Rattle.arena.specs.Rules.{linked, root_well, each_once, aliveness, node_well, free_well}
use Rattle.tree.specs.Calls.{Outcome, refuses, guarded, on_live}
use Rattle.tree.specs.Answers.{precheck}
use Rattle.tree.specs.declared.Ui.{Ui}
use Rattle.arithmetic.proofs.TestLaws.{bool_cases, eq_cases}
use Rattle.arithmetic.proofs.BoolLaws.{no_more}
use Rattle.tree.proofs.RuleParts.{Rules, a_tree_not_broken_keeps_each_rule}

word_is : (v w : Refusal) → ◌≡◌ {A = Result Unit Refusal} (Err v) (Err w) → v ≡ w
word_is v w e = cc

not_both : {G : Type 0} (w : Refusal) → ◌≡◌ {A = Result Unit Refusal} (Ok tt) (Err w) → G
not_both w e = cc

module _ (u : Ui) (d : NodeId) where
  pub refused_at_once : {A : Type 0} (none : A) (o : Outcome A) (word : Refusal) → precheck u d ≡ Err word → on_live u d none o ≡ refuses u word none
  unfolding precheck on_live guarded
  refused_at_once none o word e =
      bool_cases (broken u)
      (λ b. let q : word ≡ Broken = sym (word_is Broken word (rw b at e)) in rw (b, q))
      (λ b. bool_cases (is_live (limit_of u) u.slots d)
      (λ l. not_both word (rw (b, l) at e))
      (λ l. let q : word ≡ Missing = sym (word_is Missing word (rw (b, l) at e)) in rw (b, l, q)))

  pub not_refused : {A : Type 0} (none : A) (o : Outcome A) → precheck u d ≡ (Ok tt) → on_live u d none o ≡ o
  unfolding precheck on_live guarded
  not_refused none o e =
      bool_cases (broken u)
      (λ b. not_both Broken (sym (rw b at e)))
      (λ b. bool_cases (is_live (limit_of u) u.slots d) (λ l. rw (b, l)) (λ l. not_both Missing (sym (rw (b, l) at e))))

  pub not_broken : precheck u d ≡ (Ok tt) → broken u ≡ false
  unfolding precheck
  not_broken e = bool_cases (broken u) (λ b. not_both Broken (sym (rw b at e))) (λ b. b)

  pub lives : precheck u d ≡ (Ok tt) → is_live (limit_of u) u.slots d ≡ true
  unfolding precheck
  lives e = bool_cases (is_live (limit_of u) u.slots d) (λ l. l) (λ l. not_both Missing (sym (rw (not_broken e, l) at e)))

-- ---- a tree that is not broken

first : (a b : Bool) → (a && b) ≡ true → a ≡ true
first true b e = refl
first false b e = e

second_fourth_sixth : (a b c d e f : Bool) → (a && (b && (c && (d && (e && f))))) ≡ true → (b ≡ true) × (d ≡ true) × (f ≡ true)
second_fourth_sixth true true true true true f e = (refl, refl, e)
second_fourth_sixth true true true true false f e = no_more e
second_fourth_sixth true true true false x f e = no_more e
second_fourth_sixth true true false d x f e = no_more e
second_fourth_sixth true false c d x f e = no_more e
second_fourth_sixth false b c d x f e = no_more e

last_of_three : (a b c : Bool) → (a && (b && c)) ≡ true → c ≡ true
last_of_three true true c e = e
last_of_three true false c e = no_more e
last_of_three false b c e = no_more e

order_is_short : (k : ℕ) (s : Slots) (q : List ℕ) → length (order k s q) ≤ k
unfolding order
order_is_short zero s q = omega arith
order_is_short (suc k) s [] = omega arith
order_is_short (suc k) s (i ∷ q) = let r = order_is_short k s (q ++ kids_at s i) in omega arith

head_inside : (n : ℕ) (l : List ℕ) → all (λ (i : ℕ). ltb i n) l ≡ true → (head_or NIL l ≡ NIL → ⊥) → head_or NIL l < n
head_inside n [] e h = absurd (h refl)
head_inside n (i ∷ is) e h = ltb-true i n (first (ltb i n) _ e)

module _ (u : Ui) (b : broken u ≡ false) where
  abbrev reached : List ℕ
  reached = order 128 u.slots (0 ∷ [])

  abbrev free : List ℕ
  free = chain 128 u.slots u.free

  rules : Rules u
  rules = a_tree_not_broken_keeps_each_rule u b

  parts : (each_once (limit_of u) u.slots reached free ≡ true) × (same u.free (head_or NIL free) ≡ true) × (same u.live (length reached) ≡ true)
  unfolding linked
  parts =
      second_fourth_sixth
      (root_well u.slots)
      (each_once (limit_of u) u.slots reached free) (all (node_well u.slots) reached) (same u.free (head_or NIL free)) (free_well u.slots free) (same u.live (length reached)) rules.links

  pub well_linked : linked (limit_of u) u.slots u.free u.live ≡ true
  well_linked = rules.links

  pub few_slots : limit_of u ≤ 128
  few_slots = rules.few_nodes

  pub few_waiting : u.output_count ≤ limit_of u
  few_waiting = rules.few_waiting

  pub few_live : u.live ≤ 128
  few_live =
      let s = order_is_short 128 u.slots (0 ∷ []) in
      eq_cases u.live (length reached) (λ q _ _. omega arith) (λ _ n _. no_more (sym n ∙ parts.2))

  pub free_inside : (u.free ≡ NIL → ⊥) → u.free < 128
  unfolding each_once
  free_inside h =
      let a : all (λ (i : ℕ). ltb i (limit_of u)) free ≡ true = last_of_three
      (all (λ (i : ℕ). same (occ i reached) (aliveness (at u.slots i)) && same (occ i reached + occ i free) 1) (from_to 0 (limit_of u))) (all (λ (i : ℕ). ltb i (limit_of u)) reached) (all (λ (i : ℕ). ltb i (limit_of u)) free) parts.0 in
      let m = few_slots in
      eq_cases u.free (head_or NIL free)
      (λ q _ _. let r = head_inside (limit_of u) free a (λ z. h (q ∙ z)) in omega arith)
      (λ _ n _. no_more (sym n ∙ parts.1))

-- the slot of a live node is one of the 128
pub a_live_id_is_inside : (u : Ui) (d : NodeId) → precheck u d ≡ (Ok tt) → d.index < 128
unfolding is_live
a_live_id_is_inside u d e =
    let few = few_slots u (not_broken u d e) in
    let below = ltb-true d.index (limit_of u) (first _ _ (lives u d e)) in
    omega arith
