-- An id means a node just where the name does: every node has the id at the place of its name, and no two such ids are equal. Assumes nothing.
use Rattle.std.specs.Prelude.{Option, Some, None}
use mathlib.Core.Path.{◌≡◌, refl, sym, ap, subst, ◌∙◌}
use mathlib.Core.Bool.{true, false, cond}
use mathlib.Core.List.{List}
use Prim.Native.Nat.{ℕ, ◌+◌, ◌<◌}
use native.Mathlib.Omega.{arith}
use lib.ListN.{length, get_or}
use Rattle.field.specs.declared.NodeId.{NodeId}
use Rattle.tree.specs.Slots.{Slots, at, id_at, nobody, same_id, is_id}
use Rattle.tree.specs.States.{bits_of}
use Rattle.tree.specs.Wearing.{bits_at}
use Rattle.tree.specs.Forest.{Forest}
use Rattle.tree.specs.Nodes.{Info, is_named, bits_for}
use Rattle.tree.specs.Trees.{limit_of}
use Rattle.tree.specs.declared.Ui.{Ui}
use Rattle.arithmetic.proofs.TestLaws.{eq_cases, same_yes}
use Rattle.tree.proofs.ForestLaws.{cnt}
use Rattle.tree.proofs.Payloads.{AllF, all_map, all_both}
use Rattle.tree.proofs.Ids.{nodes_have_their_slots_generation}
use Rattle.tree.proofs.HitLaws.{Names}
use Rattle.tree.proofs.HitLaws.Names.{neither, one_node}
use Rattle.tree.proofs.Relation.{Below, Links, Naming}
use Rattle.tree.specs.History.{id_named}
use Rattle.desk.proofs.Invariant.{NameIn, NamedBy, OwnName}

pub equal_ids_are_the_same : (d e : NodeId) → d ≡ e → same_id d e ≡ true
equal_ids_are_the_same d e q =
    let a = same_yes d.index e.index (ap (λ (z : NodeId). z.index) q) in
    let b = same_yes d.generation e.generation (ap (λ (z : NodeId). z.generation) q) in
    rw (a, b)

pub id_cases {ℓ} : {G : Type ℓ} (d e : NodeId) → (d ≡ e → same_id d e ≡ true → G) → ((d ≡ e → ⊥) → same_id d e ≡ false → G) → G
id_cases d e f g =
    eq_cases d.index e.index
    (λ p s _. eq_cases d.generation e.generation
    (λ p' s' _. f (λ i. record { index = p i; generation = p' i }) (rw (s, s')))
    (λ p' s' _. g (λ q. p' (ap (λ (z : NodeId). z.generation) q)) (rw (s, s'))))
    (λ p s _. g (λ q. p (ap (λ (z : NodeId). z.index) q)) (rw s))

module _ (s : Slots) (t : Forest Info) (named : List NodeId) (n : Naming s t named) where
  -- of a node, the id says what the name says
  id_says_the_name : (m : Option ℕ) → NameIn named m → (i g : ℕ) (x : Info) → OwnName named i g x
      → is_id (id_named named m) (record { index = i; generation = g }) ≡ is_named m x
  id_says_the_name None h i g x own = refl
  id_says_the_name (Some m) h i g x own =
      eq_cases m x.name
      (λ e r _. equal_ids_are_the_same (get_or named m nobody) (record { index = i; generation = g }) (ap (λ (k : ℕ). get_or named k nobody) e ∙ own.1) ∙ sym r)
      (λ e r _. id_cases (get_or named m nobody) (record { index = i; generation = g })
      (λ q _. absurd (e (n.apart m x.name h own.0 (q ∙ sym own.1))))
      (λ _ q. q ∙ sym r))

  pub ids_say_the_names : (o : Option NodeId) (m : Option ℕ) → NamedBy named o m → AllF (λ i g x. is_id o (record { index = i; generation = g }) ≡ is_named m x) t
  ids_say_the_names o m h =
      all_map (OwnName named)
      (λ i g x. is_id o (record { index = i; generation = g }) ≡ is_named m x) t
      (λ i g x _ own. ap (λ (p : Option NodeId). is_id p (record { index = i; generation = g })) h.is_the_id ∙ id_says_the_name m h.is_in i g x own) n.own

  -- no id that was given is a dead slot's next
  no_id_of_a_dead_slot : (o : Option NodeId) (m : Option ℕ) → NamedBy named o m → (j : ℕ) → cnt j t ≡ 0 → is_id o (id_at s j) ≡ false
  no_id_of_a_dead_slot o m h j c = ap (λ (p : Option NodeId). is_id p (id_at s j)) h.is_the_id ∙ go m h.is_in
    where
      go : (m : Option ℕ) → NameIn named m → is_id (id_named named m) (id_at s j) ≡ false
      go None b = refl
      go (Some m) b =
          let d = get_or named m nobody in
          id_cases d (id_at s j)
          (λ q _.
          let l : Below s t d = n.old m b in
          let e : d.index ≡ j = ap (λ (z : NodeId). z.index) q in
          let f : d.generation ≡ (at s j).generation = ap (λ (z : NodeId). z.generation) q in
          let l' : d.generation < (at s j).generation + cnt j t = subst (λ (i : ℕ). d.generation < (at s i).generation + cnt i t) e l in
          absurd (omega arith))
          (λ _ q. q)

  -- the node that a hit names is the one that the id names
  pub hit_is_named : (o : Option NodeId) (m : Option ℕ) → Names t o m → NamedBy named o m
  hit_is_named _ _ neither = record { is_the_id = refl; is_in = tt }
  hit_is_named _ _ (one_node {d} {m} w) =
      let own = w.known (OwnName named) n.own in
      let e : w.load.name ≡ m = w.named in
      record {
        is_the_id = ap Some (sym (ap (λ (k : ℕ). get_or named k nobody) (sym e) ∙ own.1));
        is_in = subst (λ (k : ℕ). k < length named) e own.0;
      }

-- ---- bits

module _ (k : ℕ) (u : Ui) (t : Forest Info) (named : List NodeId) (l : Links k u t) (n : Naming u.slots t named) (o : Option NodeId) (hover pressed focus : Option ℕ)
    (hn : NamedBy named o hover) (pn : NamedBy named u.interaction.pressed pressed) (fn : NamedBy named u.interaction.focus focus) where
  pub bits_by_names : AllF (λ i g x. bits_at u o i ≡ bits_for hover pressed focus x) t
  unfolding bits_at bits_for
  bits_by_names =
      let I : Option NodeId → Option ℕ → ℕ → ℕ → Info → Type 0 = λ p m i g x. is_id p (record { index = i; generation = g }) ≡ is_named m x in
      let G : ℕ → ℕ → Info → Type 0 = λ i g x. ((at u.slots i).generation ≡ g) × ((at u.slots i).live ≡ true) in
      let p = u.interaction.pressed in
      let f = u.interaction.focus in
      let all4 = all_both (λ i g x. I o hover i g x × I p pressed i g x) (λ i g x. I f focus i g x × G i g x) t
      (all_both (I o hover) (I p pressed) t (ids_say_the_names u.slots t named n o hover hn) (ids_say_the_names u.slots t named n p pressed pn))
      (all_both (I f focus) G t (ids_say_the_names u.slots t named n f focus fn) (nodes_have_their_slots_generation l.rel)) in
      all_map (λ i g x. (I o hover i g x × I p pressed i g x) × (I f focus i g x × G i g x))
      (λ i g x. bits_of (is_id o (id_at u.slots i)) (is_id p (id_at u.slots i)) (is_id f (id_at u.slots i)) ≡ bits_of (is_named hover x) (is_named pressed x) (is_named focus x)) t
      (λ i g x _ q.
      let e : ◌≡◌ {A = NodeId} (id_at u.slots i) (record { index = i; generation = g }) = λ z. record { index = i; generation = q.1.1.0 z } in
      let a : is_id o (id_at u.slots i) ≡ is_named hover x = ap (is_id o) e ∙ q.0.0 in
      let b : is_id p (id_at u.slots i) ≡ is_named pressed x = ap (is_id p) e ∙ q.0.1 in
      let c : is_id f (id_at u.slots i) ≡ is_named focus x = ap (is_id f) e ∙ q.1.0 in
      λ z. bits_of (a z) (b z) (c z)) all4

  pub no_bits_of_dead_slots : (j : ℕ) → j < limit_of u → cnt j t ≡ 0 → bits_at u o j ≡ 0
  unfolding bits_at bits_of
  no_bits_of_dead_slots j b c =
      let x = no_id_of_a_dead_slot u.slots t named n o hover hn j c in
      let y = no_id_of_a_dead_slot u.slots t named n u.interaction.pressed pressed pn j c in
      let z = no_id_of_a_dead_slot u.slots t named n u.interaction.focus focus fn j c in
      λ i. cond (x i) 1 0 + cond (y i) 2 0 + cond (z i) 4 0
