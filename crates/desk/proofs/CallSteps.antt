-- Each call is refused as the history says, and an accepted one keeps the invariant. Assumes nothing.
use Rattle.std.specs.Prelude.{None, Option, Some}
use mathlib.Core.Path.{◌≡◌, refl, sym, ap, ap₂, subst, ◌∙◌}
use mathlib.Core.Logic.{◌≢◌}
use mathlib.Core.Bool.{Bool, true, false, ◌&&◌, ◌||◌, not}
use mathlib.Core.List.{List, [], ◌∷◌, ◌++◌}
use Prim.Native.Nat.{ℕ, suc, ◌+◌, ◌≤◌, ◌<◌, ◌^◌}
use native.Mathlib.Omega.{arith}
use borrow.Author.Tests.{lt-ltb, le-ltb, ltb-false}
use lib.Dec.{ltb}
use lib.ListN.{length, length-append, get_or-append}
use lib.Seq.{length-take-le}
use Rattle.text.specs.declared.refusal.Refusal.TheVariants.{Full, Root, Foreign, Long}
use Rattle.field.specs.declared.NodeId.{NodeId}
use Rattle.field.specs.declared.Field.{Field}
use Rattle.arithmetic.specs.Tests.{same, δ, all}
use Rattle.tree.specs.Slots.{NIL, id_at, at, nobody, same_id}
use Rattle.tree.specs.Styles.{no_patch}
use Rattle.tree.specs.States.{in_pool}
use Rattle.tree.specs.Wearing.{styled_at, tabled_at}
use Rattle.tree.specs.Layout.{passed, view_rect, same_view}
use Rattle.tree.specs.Forest.{Forest, nil, node, has_both, size, any_f, cut_of}
use Rattle.tree.specs.Nodes.{Info, change_of, wears, swaps, restyled, with_table, bare, place_f, has_field, bit}
use Rattle.tree.specs.Fields.{field_of, first_field, vacant, reclaimed, claimed}
use Rattle.tree.specs.Trees.{limit_of, waiting_of, with_waiting, with_nodes, with_styles, with_pool, with_fields, with_pass}
use Rattle.tree.specs.Calls as tree
use Rattle.tree.specs.Calls.{on_live, insert_at, remove_at, pooled, take_field}
use Rattle.tree.specs.declared.Ui.{Ui}
use Rattle.tree.specs.Types.{Style, StatePatch, Viewport}
use Rattle.arithmetic.proofs.TestLaws.{bool_cases, same_yes, same_no, eq_cases, δ-other}
use Rattle.tree.proofs.ForestLaws.{cnt, wt}
use Rattle.tree.proofs.Ids.{root_is_live, live_id, free_cases, Known, find_known, find_nothing}
use Rattle.tree.proofs.Relation.{Links, Styled, marked_in}
use Rattle.tree.proofs.StylingParts.{style_keeps_styling, table_keeps_styling, table_dirties, pool_keeps_styling, pool_dirties, pass_keeps_styling}
use Rattle.tree.proofs.InsertParts.{insert_keeps_links, insert_keeps_styling, insert_keeps_texts, insert_keeps_naming, with_child, an_insertion_raises_one_epoch, no_node_has_the_slot_taken}
use Rattle.tree.proofs.RemoveParts.{remove_keeps_links, remove_keeps_naming, remove_keeps_styling, remove_keeps_texts, a_removal_keeps_every_epoch}
use Rattle.tree.proofs.FieldLaws.{a_field_is_vacant_or_every_field_is_a_live_nodes, a_node_with_a_text_has_a_field}
use Rattle.tree.proofs.FieldParts.{a_field_stays, a_field_is_made}
use Rattle.desk.specs.Events as desk
use Rattle.desk.specs.Events.{handled, hit_of, applied_event, take_oldest}
use Rattle.tree.specs.History.{History, Call, Change, has, refusal_of, refusal_of_field, refusal_of_change, after_change, accept, recorded, with_styling, with_tree, grown, keep_marked, field_count, root_id, after_event}
use Rattle.tree.specs.History.Call.{insert, change, ask}
use Rattle.tree.specs.History.Change.{remove, set_style, set_state_table, set_patch_pool, make_field, solve, handle, next_output, confirm, next_ship}
use Rattle.desk.specs.Demand3.{step, Machine, MachineChange}
use Rattle.boxes.specs.declared.UiEvent.{UiEvent}
use Rattle.boxes.specs.declared.UiEvent.TheVariants.{PointerMoved, PointerPressed, PointerReleased, TextEntered, Edit}
use Rattle.boxes.specs.declared.Key.TheVariants.{Char, Op}
use Rattle.desk.proofs.Invariant.{NamedBy, OwnText, Inv, inv_after, styling_under, same_nodes_each, same_nodes_some, same_nodes_placed, with_nodes_lem, with_styling_lem, with_texts, with_outputs}
use Rattle.desk.proofs.AnswerLaws.{Kept, AsSaid, accepted_as_said, refused_as_said, guarded_as_said, live_as_said, only_if, only_unless, change_kept}
use Rattle.desk.proofs.ReadSteps.{asks}
use Rattle.desk.proofs.RefreshSteps.{refresh_agrees}
use Rattle.desk.proofs.PointerSteps.{move_agrees, press_agrees, release_agrees, waiting_length}
use Rattle.desk.proofs.KeySteps.{key_agrees}
use Rattle.desk.proofs.MarkSteps.{confirm_as_said, next_ship_as_said}

-- ---- outputs and events

module _ {k : ℕ} {u : Ui} {h : History} (v : Inv k u h) where
  output_as_said : AsSaid k h (desk.next_output u) 0 (λ _. h)
  unfolding desk.next_output
  output_as_said = guarded_as_said v None (taken (waiting_of u) refl)
    where
      taken : (ds : List NodeId) → waiting_of u ≡ ds → AsSaid k h (take_oldest u ds) 0 (λ _. h)
      taken [] e = accepted_as_said v u None (λ _. h) (inv_after v)
      taken (d ∷ ds) e =
          let n = waiting_length u v.nodes.links.rel.small v.queue in
          let f = v.queue.few in
          let l : length (d ∷ ds) ≡ u.output_count = ap length (sym e) ∙ n in
          accepted_as_said v (with_waiting u ds) (Some d) (λ _. h) (inv_after (with_outputs v ds (omega arith)))

  event_agrees : (e : UiEvent) → Inv k (applied_event u (hit_of u) e) (after_event h e)
  event_agrees (PointerMoved x y) = move_agrees v x y
  event_agrees PointerPressed = press_agrees v
  event_agrees PointerReleased = release_agrees v
  event_agrees (TextEntered ch) = key_agrees v (Char ch)
  event_agrees (Edit op) = key_agrees v (Op op)

  event_as_said : (e : UiEvent) → AsSaid k h (desk.handle u e) 0 (λ _. after_change h (handle e))
  unfolding desk.handle handled
  event_as_said e = guarded_as_said v 0 (accepted_as_said v (handled u e) 0 (λ _. after_change h (handle e)) (inv_after (refresh_agrees (event_agrees e))))

differs : {G : Type 0} → false ≡ true → G
differs e = let z : ◌≡◌ {A = ℕ} 0 1 = cc in absurd (omega arith)

-- what has a name keeps it
still_named : (more : List NodeId) {named : List NodeId} {o : Option NodeId} (m : Option ℕ) → NamedBy named o m → NamedBy (named ++ more) o m
still_named more None n = record { is_the_id = n.is_the_id; is_in = tt }
still_named more {named} (Some m) n = record {
  is_the_id = n.is_the_id ∙ ap Some (sym (get_or-append named more nobody m n.is_in));
  is_in = let e = length-append named more in let b = n.is_in in omega arith;
}

-- ---- calls that change nodes

module _ {k : ℕ} {u : Ui} {h : History} (v : Inv k u h) where
  -- the root keeps its generation where its epoch does
  root_stays : (u' : Ui) (t' : Forest Info) → Links (suc k) u' t' → (x : ℕ)
      → (at u'.slots 0).generation + cnt 0 t' ≡ (at u.slots 0).generation + cnt 0 h.tree + x → x ≡ 0 → (at u'.slots 0).generation ≡ 1
  root_stays u' t' l x e z =
      let a = root_is_live l.rel in let b = root_is_live v.nodes.links.rel in let c = v.nodes.root_is in omega arith

  insert_agrees : (d : NodeId) (hd : has h d ≡ true) (f : u.free ≢ NIL) → Inv (suc k) (insert_at u d.index) (grown h d (id_at u.slots u.free))
  unfolding insert_at with_nodes grown
  insert_agrees d hd f =
      let m = length h.named in
      let new = id_at u.slots u.free in
      let L = insert_keeps_links v.nodes.links d hd f m in
      let apart : δ u.free 0 ≡ 0 = let c = no_node_has_the_slot_taken v.nodes.links d hd f m in δ-other u.free 0 (λ e. let r = root_is_live v.nodes.links.rel in let c' : cnt 0 h.tree ≡ 0 = subst (λ (j : ℕ). cnt j h.tree ≡ 0) e c in omega arith) in
      with_nodes_lem v refl refl
      (record {
        links = L;
        naming = insert_keeps_naming v.nodes.links d hd f h.named v.nodes.naming;
        texts = insert_keeps_texts v.nodes.links d hd f m v.nodes.texts;
        root_is = root_stays (insert_at u d.index) (with_child u d m h.tree) L (δ u.free 0) (an_insertion_raises_one_epoch v.nodes.links d hd f m 0) apart;
        limit_is = v.nodes.limit_is;
      })
      (insert_keeps_styling v.nodes.links d hd f m v.styling.styled)
      (record {
        pointer_is = v.input.pointer_is;
        pressed = still_named (new ∷ []) h.input.pressed v.input.pressed;
        focus = still_named (new ∷ []) h.input.focus v.input.focus;
      })

  insert_as_said : (d : NodeId) → AsSaid k h (tree.insert u d) (refusal_of h (insert d)) (grown h d)
  unfolding refusal_of tree.insert
  insert_as_said d =
      live_as_said v d nobody (λ b.
      free_cases (limit_of u) u.slots u.free h.tree v.nodes.links.chain v.nodes.links.rel
      (λ f s _.
      let n : h.limit ≤ size h.tree = let q = v.nodes.limit_is in omega arith in
      rw (same_yes u.free NIL f, le-ltb (size h.tree) h.limit n) (refused_as_said v Full nobody (grown h d)))
      (λ _ _ _ f s.
      let n : size h.tree < h.limit = let q = v.nodes.limit_is in omega arith in
      rw (same_no u.free NIL f, lt-ltb (size h.tree) h.limit n) (accepted_as_said v (insert_at u d.index) (id_at u.slots u.free) (grown h d) (insert_agrees d b f))))

  -- ---- remove

  remove_agrees : k < 2 ^ 63 → (d : NodeId) (hd : has h d ≡ true) (nz : d.index ≢ 0) → Inv (suc k) (remove_at u d.index) (with_tree h (cut_of d h.tree) true)
  unfolding remove_at with_nodes
  remove_agrees small d hd nz =
      let L = remove_keeps_links v.nodes.links small d hd nz in
      with_nodes_lem v refl refl
      (record {
        links = L;
        naming = remove_keeps_naming v.nodes.links small d hd nz h.named v.nodes.naming;
        texts = remove_keeps_texts v.nodes.links small d hd nz v.nodes.texts;
        root_is = root_stays (remove_at u d.index) (cut_of d h.tree) L 0 (let q = a_removal_keeps_every_epoch v.nodes.links small d hd nz 0 in omega arith) refl;
        limit_is = v.nodes.limit_is;
      })
      (remove_keeps_styling v.nodes.links small d hd nz v.styling.styled) v.input

  -- a live id is the root's just where it has the root's index
  root_by_index : (d : NodeId) → has h d ≡ true → same_id d root_id ≡ same d.index 0
  root_by_index d hd =
      eq_cases d.index 0
      (λ e s _.
      let g : d.generation ≡ 1 = sym (live_id v.nodes.links.rel d hd).1 ∙ ap (λ (i : ℕ). (at u.slots i).generation) e ∙ v.nodes.root_is in
      rw (s, same_yes d.generation 1 g))
      (λ e s _. rw s)

  remove_as_said : k < 2 ^ 63 → (d : NodeId) → AsSaid k h (tree.remove u d) (refusal_of_change h (remove d)) (λ _. after_change h (remove d))
  unfolding tree.remove
  remove_as_said small d =
      live_as_said v d 0 (λ b.
      only_unless v (same d.index 0) (not (same_id d root_id)) (ap not (root_by_index d b)) Root 0 (λ z.
      accepted_as_said v (remove_at u d.index) 0 _ (remove_agrees small d b (λ e. differs (sym z ∙ same_yes d.index 0 e)))))

  -- ---- styles, tables, the pool

  style_agrees : (d : NodeId) (hd : has h d ≡ true) (s : Style) → Inv k (styled_at u d.index s) (with_tree h (change_of d (restyled s) h.tree) true)
  unfolding styled_at with_styles restyled
  style_agrees d hd s =
      with_styling_lem v refl (same_nodes_some (has_both d) (restyled s) (λ x. (refl, refl)) h.tree)
      (styling_under refl v.styling (style_keeps_styling k u h.tree v.nodes.links v.styling.styled d hd s) refl)

  style_as_said : (d : NodeId) (s : Style) → AsSaid k h (tree.set_style u d s) (refusal_of_change h (set_style d s)) (λ _. after_change h (set_style d s))
  unfolding tree.set_style
  style_as_said d s = live_as_said v d 0 (λ b. accepted_as_said v (styled_at u d.index s) 0 _ (inv_after (style_agrees d b s)))

  pool_length : length h.styling.pool ≡ u.patch_count
  pool_length = ap length (sym v.styling.pool_is) ∙ length-take-le u.patch_count u.patches (let a = v.styling.pool.few in let b = v.styling.pool.long in omega arith)

  table_agrees : (d : NodeId) (hd : has h d ≡ true) (table : List ℕ) → all (in_pool u.patch_count) table ≡ true
      → Inv k (tabled_at u d.index table) (after_change h (set_state_table d table))
  unfolding tabled_at with_styles wears
  table_agrees d hd table ok =
      with_styling_lem v refl (same_nodes_some (has_both d) (λ x. wears h.styling.pool x.bits (with_table table x)) (λ x. (refl, refl)) h.tree)
      (styling_under refl v.styling
      (subst (λ (q : List StatePatch). Styled (tabled_at u d.index table) (change_of d (λ x. wears q x.bits (with_table table x)) h.tree)) v.styling.pool_is
      (table_keeps_styling k u h.tree v.nodes.links v.styling.styled d hd table ok))
      (table_dirties k u h.tree v.nodes.links v.styling.styled d hd table
      ∙ ap₂ (λ (b : Bool) (q : List StatePatch). b || any_f (λ i g x. has_both d i g && swaps q x.bits (with_table table x)) h.tree) v.styling.dirty_is v.styling.pool_is))

  table_as_said : (d : NodeId) (table : List ℕ) → AsSaid k h (tree.set_state_table u d table) (refusal_of_change h (set_state_table d table)) (λ _. after_change h (set_state_table d table))
  unfolding tree.set_state_table
  table_as_said d table =
      live_as_said v d 0 (λ b.
      only_if v (all (in_pool u.patch_count) table) (all (in_pool (length h.styling.pool)) table) (ap (λ (n : ℕ). all (in_pool n) table) pool_length) Foreign 0 (λ c.
      accepted_as_said v (tabled_at u d.index table) 0 _ (inv_after (table_agrees d b table c))))

  pool_agrees : (patches : List StatePatch) (count : ℕ) → length patches ≡ 64 → count ≤ 64 → Inv k (pooled u patches count) (after_change h (set_patch_pool patches count))
  unfolding pooled with_pool with_styles bare
  pool_agrees patches count long few =
      with_styling_lem v refl (same_nodes_each (λ i g x. bare x) (λ i g x. (refl, refl)) h.tree)
      (record {
        styled = pool_keeps_styling k u h.tree v.nodes.links v.styling.styled patches count;
        pool = record { long = long; few = few };
        pool_is = refl;
        view_is = v.styling.view_is;
        dirty_is =
            pool_dirties k u h.tree v.nodes.links v.styling.styled patches count
            ∙ ap (λ (b : Bool). b || any_f (λ i g x. not (same x.applied no_patch)) h.tree) v.styling.dirty_is;
      })

  pool_as_said : (patches : List StatePatch) (count : ℕ) → length patches ≡ 64
      → AsSaid k h (tree.set_patch_pool u patches count) (refusal_of_change h (set_patch_pool patches count)) (λ _. after_change h (set_patch_pool patches count))
  unfolding tree.set_patch_pool
  pool_as_said patches count long =
      guarded_as_said v 0 (only_unless v (ltb 64 count) (not (ltb 64 count)) refl Long 0 (λ b.
      accepted_as_said v (pooled u patches count) 0 _ (inv_after (pool_agrees patches count long (ltb-false 64 count b)))))

  -- ---- a field

  count_is_a_sum : (t : Forest Info) → field_count t ≡ wt (λ i g x. bit (has_field x)) t
  count_is_a_sum nil = refl
  count_is_a_sum (node i g x cs sib) = let a = count_is_a_sum cs in let b = count_is_a_sum sib in omega arith

  field_agrees : (d : NodeId) (hd : has h d ≡ true) (f : Field) → field_of d u.fields ≡ None → first_field vacant (reclaimed (limit_of u) u.slots u.fields) ≡ Some f
      → Inv k (with_fields u (claimed d (reclaimed (limit_of u) u.slots u.fields))) (after_change h (make_field d))
  field_agrees d hd f none some =
      with_texts v (λ i g x. has_both d i g) (λ x. keep_marked x.marked) _
      (a_field_is_made k u h.tree v.nodes.links v.nodes.texts d hd keep_marked refl (λ z. refl) f none some)

  -- the node has a field, takes a vacant one, or there is none
  on_a_node : (d : NodeId) (hd : has h d ≡ true) (w : Known (OwnText u.fields) d h.tree) (m : Option Field) → field_of d u.fields ≡ m
      → AsSaid k h (take_field u d m) (refusal_of_field h (Some w.load)) (λ _. after_change h (make_field d))
  on_a_node d hd w (Some f) q =
      let hf : has_field w.load ≡ true = a_node_with_a_text_has_a_field w.load (Some f) (w.holds ∙ ap marked_in q) in
      rw hf (accepted_as_said v u 0 _
      (subst (λ (t : Forest Info). Inv (suc k) u (with_tree h t h.styling.dirty)) (sym (a_field_stays k u h.tree v.nodes.links v.nodes.texts d hd keep_marked refl (λ z. refl) f q)) (inv_after v)))
  on_a_node d hd w None q =
      let hf : has_field w.load ≡ false = a_node_with_a_text_has_a_field w.load None (w.holds ∙ ap marked_in q) in
      let c = count_is_a_sum h.tree in
      let n = v.nodes.texts.eight in
      a_field_is_vacant_or_every_field_is_a_live_nodes v.nodes.links.rel u.fields v.nodes.texts.owners v.nodes.texts.texts
      (λ z s.
      let l : 8 ≤ field_count h.tree = omega arith in
      rw (hf, le-ltb (field_count h.tree) 8 l, z) (refused_as_said v Full 0 _))
      (λ f z s.
      let l : field_count h.tree < 8 = omega arith in
      rw (hf, lt-ltb (field_count h.tree) 8 l, z) (accepted_as_said v (with_fields u (claimed d (reclaimed (limit_of u) u.slots u.fields))) 0 _ (inv_after (field_agrees d hd f q z))))

  field_as_said : (d : NodeId) → AsSaid k h (tree.make_field u d) (refusal_of_change h (make_field d)) (λ _. after_change h (make_field d))
  unfolding tree.make_field
  field_as_said d =
      subst (λ (n : ℕ). AsSaid k h (on_live u d 0 (take_field u d (field_of d u.fields))) n (λ _. after_change h (make_field d)))
      (bool_cases (has h d) (λ b. rw b) (λ b. rw (b, find_nothing d h.tree b)))
      (live_as_said v d 0 (λ b.
      let w = find_known (OwnText u.fields) d h.tree v.nodes.texts.texts b in
      subst (λ (m : Option Info). AsSaid k h (take_field u d (field_of d u.fields)) (refusal_of_field h m) (λ _. after_change h (make_field d))) (sym w.found) (on_a_node d b w (field_of d u.fields) refl)))

  -- ---- a pass

  pass_agrees : (w : Viewport) → Inv k (with_pass u (passed u.slots u.layout w) w)
      (with_styling h (place_f h.tree (view_rect w ∷ [])) (record { pool = h.styling.pool; viewport = w; dirty = false }))
  unfolding with_pass
  pass_agrees w =
      with_styling_lem v refl (same_nodes_placed h.tree (view_rect w ∷ []))
      (record {
        styled = pass_keeps_styling k u h.tree v.nodes.links v.styling.styled w;
        pool = record { long = v.styling.pool.long; few = v.styling.pool.few };
        pool_is = v.styling.pool_is;
        view_is = refl;
        dirty_is = refl;
      })

  pass_as_said : (w : Viewport) → AsSaid k h (tree.solve u w) 0 (λ _. after_change h (solve w))
  unfolding tree.solve
  pass_as_said w =
      let q : (not u.dirty && same_view u.solved_for w) ≡ (not h.styling.dirty && same_view h.styling.viewport w) =
      ap₂ (λ (b : Bool) (z : Viewport). not b && same_view z w) v.styling.dirty_is v.styling.view_is in
      guarded_as_said v 0
      (bool_cases (not h.styling.dirty && same_view h.styling.viewport w)
      (λ b. rw (q, b) (accepted_as_said v u 0 (λ _. h) (inv_after v)))
      (λ b. rw (q, b) (accepted_as_said v (with_pass u (passed u.slots u.layout w) w) 0 _ (inv_after (pass_agrees w)))))

  -- ---- every call

  every_change : k < 2 ^ 63 → (c : Change) → MachineChange c → Kept k u h (change c)
  every_change small (remove d) m = change_kept v (remove d) (remove_as_said small d) refl
  every_change small (set_style d s) m = change_kept v (set_style d s) (style_as_said d s) refl
  every_change small (set_state_table d table) m = change_kept v (set_state_table d table) (table_as_said d table) refl
  every_change small (set_patch_pool patches count) m = change_kept v (set_patch_pool patches count) (pool_as_said patches count m) refl
  every_change small (make_field d) m = change_kept v (make_field d) (field_as_said d) refl
  every_change small (solve w) m = change_kept v (solve w) (pass_as_said w) refl
  every_change small (handle e) m = change_kept v (handle e) (event_as_said v e) refl
  every_change small next_output m = change_kept v next_output (output_as_said v) refl
  every_change small (confirm d) m = change_kept v (confirm d) (confirm_as_said v d) refl
  every_change small next_ship m = change_kept v next_ship (next_ship_as_said v) refl

  pub every_call : k < 2 ^ 63 → (c : Call) → Machine c → Kept k u h c
  unfolding step accept recorded
  every_call small (insert d) m = let x = insert_as_said d in record { refused_so = x.number_is; goes_on = x.goes_on }
  every_call small (change c) m = every_change small c m
  every_call small (ask q) m = asks v q
