-- An insertion keeps every part: one node more, in the first free slot, with the slot's layout and state as new. Its id is that of the
-- free slot, whose generation is the slot's epoch, so it was never given and no field is its own. Assumes nothing.
use Rattle.std.specs.Prelude.{Option}
use mathlib.Core.Path.{◌≡◌, refl, sym, ap, ◌∙◌}
use mathlib.Core.Logic.{◌≢◌}
use mathlib.Core.Bool.{true}
use mathlib.Core.List.{List, [], ◌∷◌, ◌++◌}
use Prim.Native.Nat.{ℕ, suc, ◌+◌, ◌<◌}
use native.Mathlib.Omega.{arith}
use native.Mathlib.Decide.{dec_lt}
use lib.ListN.{length, get_or, set, length-set, length-append, get_or-append}
use lib.Seq.{get_or_at}
use Rattle.field.specs.declared.NodeId.{NodeId}
use Rattle.arithmetic.specs.Tests.{δ, occ}
use Rattle.arena.specs.Forest.{Forest, nil, node, app, has_id, kids_of, set_kids_of, size}
use Rattle.boxes.specs.Nodes.{Info, new_info}
use Rattle.arena.specs.Slots.{NIL, Slots, at, id_at, nobody}
use Rattle.boxes.specs.Styles.{fresh_layout, fresh_state, fresh_style, layout_at}
use Rattle.arena.specs.Fields.{field_of}
use Rattle.tree.specs.Trees.{limit_of, stated_of, with_nodes}
use Rattle.tree.specs.Calls.{insert_at}
use Rattle.tree.specs.declared.Ui.{Ui}
use Rattle.boxes.specs.declared.LayoutSlot.{LayoutSlot}
use Rattle.boxes.specs.declared.StateSlot.{StateSlot}
use Rattle.arithmetic.proofs.TestLaws.{δ-refl, δ-same}
use Rattle.arena.proofs.Forests.ForestLaws.{cnt, kids, set_kids}
use Rattle.arena.proofs.Forests.Relations.{Rel, once, below}
use Rattle.arena.proofs.Forests.Payloads.{AllF, all_map, all_app, all_kids, all_set}
use Rattle.arena.proofs.Forests.LinkInserts.{insert_rel, insert_size, insert_keeps_generations}
use Rattle.arena.proofs.Forests.Generations.{insert_epochs}
use Rattle.arena.proofs.Forests.Ids.{live_id, kids_of_a_live_id, set_kids_of_a_live_id, free_cases, full_when_none_is_free}
use Rattle.boxes.proofs.Styles.Rounds.{Worn}
use Rattle.boxes.proofs.Styles.WearLaws.{a_stored_state_is_there, other_states_stay, a_stored_layout_is_there, other_layouts_stay, a_fresh_table_has_no_patch}
use Rattle.tree.proofs.StateLaws.{a_stored_state_keeps_of_each}
use Rattle.tree.proofs.WellLaws.{WellIn, a_bare_slot_is_well}
use Rattle.tree.proofs.Relation.{Below, BelowMaybe, Links, Naming, Styled, Texts, marked_in}
use Rattle.tree.proofs.GivenIds.{NoEpochFalls, given_ids_stay_given, given_owners_stay_given, ruled_fields_stay_ruled, a_given_id_is_not_a_free_slots, a_free_slots_id_has_no_field}

-- the forest with a new last child of the node that has the id, in the first free slot and of name m
abbrev pub with_child : Ui → NodeId → ℕ → Forest Info → Forest Info
with_child u d m t = set_kids_of d (app (kids_of d t) (node u.free (at u.slots u.free).generation (new_info m) nil nil)) t

-- below the limit a slot is free
pub a_slot_is_free_below_the_limit : {k : ℕ} {u : Ui} {t : Forest Info} → Links k u t → size t < limit_of u → u.free ≢ NIL
a_slot_is_free_below_the_limit {u = u} {t = t} L h e = let q = full_when_none_is_free (limit_of u) u.slots u.free t L.chain L.rel e in omega arith

-- the free chain begins with the slot taken
record Taken (u : Ui) (t : Forest Info) : Type 0 where
  rest : List ℕ
  rel : Rel (limit_of u) u.slots u.free t (u.free ∷ rest)

module _ {k : ℕ} {u : Ui} {t : Forest Info} (L : Links k u t) (d : NodeId) (h : has_id d t ≡ true) (f : u.free ≢ NIL) (m : ℕ) where
  taken : Taken u t
  taken = free_cases (limit_of u) u.slots u.free t L.chain L.rel (λ e _ _. absurd (f e)) (λ l _ r _ _. record { rest = l; rel = r })

  -- the same forest by the index of the parent
  by_index : with_child u d m t ≡ set_kids d.index (app (kids d.index t) (node u.free (at u.slots u.free).generation (new_info m) nil nil)) t
  by_index = rw (kids_of_a_live_id L.rel d h, set_kids_of_a_live_id L.rel d _ h)

  pub the_slot_taken_is_below_the_limit : u.free < limit_of u
  the_slot_taken_is_below_the_limit = let T = taken in let e = δ-refl u.free in below T.rel u.free (omega arith)

  pub no_node_has_the_slot_taken : cnt u.free t ≡ 0
  no_node_has_the_slot_taken = let T = taken in let e = δ-refl u.free in let o = once T.rel u.free in omega arith

  -- what holds of every node and of the new one
  with_a_child_all : (P : ℕ → ℕ → Info → Type 0) → AllF P t → P u.free (at u.slots u.free).generation (new_info m) → AllF P (with_child u d m t)
  with_a_child_all P q n =
      let p : ℕ = d.index in
      let one : Forest Info = node u.free (at u.slots u.free).generation (new_info m) nil nil in
      rw by_index (all_set P p (app (kids p t) one) t (all_app P (kids p t) one (all_kids P p t q) (n, tt, tt)) q)

  pub an_insertion_raises_one_epoch : (j : ℕ) → (at (insert_at u d.index).slots j).generation + cnt j (with_child u d m t) ≡ (at u.slots j).generation + cnt j t + δ u.free j
  unfolding insert_at with_nodes
  an_insertion_raises_one_epoch j =
      rw by_index (insert_epochs u.slots d.index u.free (at u.slots u.free).generation (new_info m) t j (live_id L.rel d h).0)

  pub no_epoch_falls_by_an_insertion : NoEpochFalls u.slots t (insert_at u d.index).slots (with_child u d m t)
  no_epoch_falls_by_an_insertion j = let e = an_insertion_raises_one_epoch j in omega arith

  pub insert_keeps_below : (e : NodeId) → Below u.slots t e → Below (insert_at u d.index).slots (with_child u d m t) e
  insert_keeps_below = given_ids_stay_given u.slots t (insert_at u d.index).slots (with_child u d m t) no_epoch_falls_by_an_insertion

  pub insert_keeps_below_maybe : (o : Option NodeId) → BelowMaybe u.slots t o → BelowMaybe (insert_at u d.index).slots (with_child u d m t) o
  insert_keeps_below_maybe = given_owners_stay_given u.slots t (insert_at u d.index).slots (with_child u d m t) no_epoch_falls_by_an_insertion

  pub insert_keeps_links : Links (suc k) (insert_at u d.index) (with_child u d m t)
  unfolding insert_at with_nodes
  insert_keeps_links =
      let T = taken in
      let c = (live_id L.rel d h).0 in
      let n = L.count in
      let z = insert_size d.index u.free (at u.slots u.free).generation (new_info m) t c in
      rw by_index record {
        chain = T.rest;
        rel = insert_rel (limit_of u) u.slots u.free t u.free T.rest d.index (new_info m) T.rel c;
        count = omega arith;
        young = λ j. let y = L.young j in let e = insert_keeps_generations u.slots d.index u.free j in omega arith;
      }

  pub insert_keeps_styling : Styled u t → Styled (insert_at u d.index) (with_child u d m t)
  unfolding insert_at with_nodes
  insert_keeps_styling D =
      let i : ℕ = u.free in
      let l : List LayoutSlot = u.layout in
      let s : List StateSlot = u.states in
      let b = the_slot_taken_is_below_the_limit in
      let sm = L.rel.small in
      let z = no_node_has_the_slot_taken in
      let ll = D.sized.0 in
      let ls = D.sized.1 in
      let apart : (j : ℕ) → 0 < cnt j t → j ≢ i = λ j c e. let c' : 0 < cnt i t = rw e at c in omega arith in
      let el = a_stored_layout_is_there l i fresh_layout (omega arith) in
      let es = a_stored_state_is_there s i fresh_state (omega arith) in
      record {
        sized = (length-set l i fresh_layout ∙ ll, length-set s i fresh_state ∙ ls);
        worn = with_a_child_all (λ j g x. Worn (set l i fresh_layout) (set s i fresh_state) j x)
            (all_map (λ j g x. Worn l s j x) (λ j g x. Worn (set l i fresh_layout) (set s i fresh_state) j x) t
            (λ j g x c w. (ap (λ (y : LayoutSlot). y.style) (other_layouts_stay l i j fresh_layout (apart j c)) ∙ w.0, other_states_stay s i j fresh_state (apart j c) ∙ w.1)) D.worn)
            (ap (λ (y : LayoutSlot). y.style) el, es);
        tables = with_a_child_all _ D.tables (sym (a_fresh_table_has_no_patch 0));
        boxed = with_a_child_all (λ j g x. (layout_at (set l i fresh_layout) j).rect ≡ x.rect)
            (all_map (λ j g x. (layout_at l j).rect ≡ x.rect) (λ j g x. (layout_at (set l i fresh_layout) j).rect ≡ x.rect) t
            (λ j g x c w. ap (λ (y : LayoutSlot). y.rect) (other_layouts_stay l i j fresh_layout (apart j c)) ∙ w) D.boxed)
            (ap (λ (y : LayoutSlot). y.rect) el);
        with_bits = with_a_child_all (λ j g x. 0 < x.bits → 0 < occ j (stated_of u)) D.with_bits (λ w. absurd (omega arith));
        dead = λ j jl c.
            let e = an_insertion_raises_one_epoch j in
            let g = insert_keeps_generations u.slots d.index i j in
            other_states_stay s i j fresh_state (λ q. let q' = δ-same i j (sym q) in omega arith) ∙ D.dead j jl (omega arith);
        stated_long = D.stated_long;
        stated_few = D.stated_few;
        stated_once = D.stated_once;
        well = a_stored_state_keeps_of_each (WellIn u.patch_count) (limit_of u) s i fresh_state (omega arith) (a_bare_slot_is_well u.patch_count fresh_style) D.well;
      }

  pub insert_keeps_texts : Texts u.slots u.fields t → Texts (insert_at u d.index).slots u.fields (with_child u d m t)
  insert_keeps_texts X = record {
    eight = X.eight;
    ruled = ruled_fields_stay_ruled u.slots t (insert_at u d.index).slots (with_child u d m t) no_epoch_falls_by_an_insertion u.fields X.ruled;
    owners = X.owners;
    texts = with_a_child_all (λ i g x. x.marked ≡ marked_in (field_of (record { index = i; generation = g }) u.fields)) X.texts
        (ap marked_in (sym (a_free_slots_id_has_no_field u.slots t u.free no_node_has_the_slot_taken u.fields X.ruled)));
  }

-- ---- names

-- a place of a list with one more at its end is one of before, or the new one
last_or_before {ℓ} : {A : Type 0} {G : Type ℓ} (l : List A) (a e : A) (m : ℕ) → m < length (l ++ a ∷ [])
    → (m < length l → get_or (l ++ a ∷ []) m e ≡ get_or l m e → G) → (m ≡ length l → get_or (l ++ a ∷ []) m e ≡ a → G) → G
last_or_before {G = G} l a e m h old new = go (dec_lt m (length l))
  where
    go : Dec (m < length l) → G
    go (yes b) = old b (get_or-append l (a ∷ []) e m b)
    go (no b) = let w = length-append l (a ∷ []) in let q : m ≡ length l = omega arith in new q (get_or_at l a [] e m (sym q))

module _ {k : ℕ} {u : Ui} {t : Forest Info} (L : Links k u t) (d : NodeId) (h : has_id d t ≡ true) (f : u.free ≢ NIL) (named : List NodeId) (N : Naming u.slots t named) where
  -- the id given was never given before
  pub the_id_given_is_new : (m : ℕ) → m < length named → get_or named m nobody ≢ id_at u.slots u.free
  the_id_given_is_new m b e = a_given_id_is_not_a_free_slots u.slots t u.free (no_node_has_the_slot_taken L d h f 0) (get_or named m nobody) (N.old m b) e

  pub insert_keeps_naming : Naming (insert_at u d.index).slots (with_child u d (length named) t) (named ++ id_at u.slots u.free ∷ [])
  insert_keeps_naming =
      let s' : Slots = (insert_at u d.index).slots in
      let t' : Forest Info = with_child u d (length named) t in
      let new : NodeId = id_at u.slots u.free in
      let named' : List NodeId = named ++ new ∷ [] in
      let w = length-append named (new ∷ []) in
      let P : ℕ → ℕ → Info → Type 0 = λ i g x. (x.name < length named) × (get_or named x.name nobody ≡ record { index = i; generation = g }) in
      let P' : ℕ → ℕ → Info → Type 0 = λ i g x. (x.name < length named') × (get_or named' x.name nobody ≡ record { index = i; generation = g }) in
      record {
        own = with_a_child_all L d h f (length named) P'
            (all_map P P' t (λ i g x c q. let b = q.0 in (omega arith, get_or-append named (new ∷ []) nobody x.name b ∙ q.1)) N.own)
            (omega arith, get_or_at named new [] nobody (length named) refl);
        old = λ m b. last_or_before named new nobody m b
            (λ c e. rw e (insert_keeps_below L d h f (length named) (get_or named m nobody) (N.old m c)))
            (λ c e. let r = an_insertion_raises_one_epoch L d h f (length named) u.free in let r' = δ-refl u.free in
            rw e (omega arith));
        apart = λ m m' b b' e. last_or_before named new nobody m b
            (λ c q. last_or_before named new nobody m' b'
            (λ c' q'. N.apart m m' c c' (sym q ∙ e ∙ q'))
            (λ c' q'. absurd (the_id_given_is_new m c (sym q ∙ e ∙ q'))))
            (λ c q. last_or_before named new nobody m' b'
            (λ c' q'. absurd (the_id_given_is_new m' c' (sym q' ∙ sym e ∙ q)))
            (λ c' q'. omega arith));
      }
