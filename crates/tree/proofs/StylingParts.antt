-- Styles, tables, the pool, a pass and a refresh keep the part on looks. Assumes nothing.
use Rattle.std.specs.Prelude.{Option}
use mathlib.Core.Path.{◌≡◌, refl, sym, ◌∙◌}
use mathlib.Core.Bool.{Bool, true, false, ◌&&◌, ◌||◌, not, cond}
use mathlib.Core.List.{List, [], ◌∷◌}
use Prim.Native.Nat.{ℕ, ◌≤◌, ◌<◌}
use native.Mathlib.Omega.{arith}
use lib.ListN.{length}
use Rattle.field.specs.declared.NodeId.{NodeId}
use Rattle.arithmetic.specs.Tests.{same, occ, from_to, all}
use Rattle.boxes.specs.Styles.{no_patch, layout_at}
use Rattle.boxes.specs.States.{Appearance, entry_of, in_pool, bare_all}
use Rattle.tree.specs.Wearing.{appearance_of, bits_at, refreshed, styled_at, tabled_at}
use Rattle.boxes.specs.Layout.{passed, view_rect}
use Rattle.arena.specs.Forest.{Forest, nil, node, has_both, has_id, map_f, any_f}
use Rattle.boxes.specs.Nodes.{Info, change_of, wears, swaps, restyled, with_table, bare, place_f}
use Rattle.arena.specs.Rules.{distinct}
use Rattle.tree.specs.Trees.{limit_of, pool_of, stated_of, with_styles, with_pool, with_stated, with_pass}
use Rattle.tree.specs.Calls.{pooled}
use Rattle.tree.specs.declared.Ui.{Ui}
use Rattle.boxes.specs.declared.Style.{Style}
use Rattle.boxes.specs.declared.StatePatch.{StatePatch}
use Rattle.boxes.specs.declared.Viewport.{Viewport}
use Rattle.arena.proofs.Forests.ForestLaws.{cnt}
use Rattle.arena.proofs.Forests.Relations.{below}
use Rattle.arena.proofs.Forests.Payloads.{AllF, all_map, all_map_f, shape_map, cnt_shape}
use Rattle.arena.proofs.Forests.Ids.{live_id}
use Rattle.boxes.proofs.Styles.Rounds.{Worn}
use Rattle.boxes.proofs.Styles.WearLaws.{Restyled, TablesWorn, nodes_wear_what_their_tables_have, all_slots_bare_is_every_node_bare, bare_nodes_wear_what_their_tables_have}
use Rattle.boxes.proofs.Layouts.PassLaws.{PassOver, a_pass_places_every_node, placing_keeps_what_boxes_leave_alone, placing_keeps_the_shape}
use Rattle.tree.proofs.RefreshLaws.{Refresh, a_refresh_is_every_node_wearing_its_bits, distinct_slots_are_below}
use Rattle.tree.proofs.StylingLaws.{a_styled_slot_is_a_restyled_node, a_tabled_slot_is_a_node_that_wears_a_table, a_restyled_node_wears_what_its_table_has, a_tabled_node_wears_what_its_table_has, changing_one_node_keeps}
use Rattle.tree.proofs.WellLaws.{StatesWell, a_refreshed_tree_is_well, bare_slots_are_well, a_styled_tree_is_well, a_tabled_tree_is_well}
use Rattle.tree.proofs.Relation.{Links, Styled}

-- every node redressed, and no box moved
dress_by : (u u' : Ui) (t : Forest Info) (v : ℕ → ℕ → Info → Info) (m : Bool) → Styled u t → Restyled (appearance_of u) (appearance_of u') t (map_f v t) m
    → ((i g : ℕ) (x : Info) → (v i g x).rect ≡ x.rect) → TablesWorn (map_f v t)
    → AllF (λ i g x. 0 < x.bits → 0 < occ i (stated_of u')) (map_f v t) → length u'.stated ≡ 3 → u'.stated_count ≤ 3 → distinct (limit_of u') (stated_of u') ≡ true
    → StatesWell u'.patch_count (limit_of u') u'.states → Styled u' (map_f v t)
dress_by u u' t v m d r keeps tw wb sl sf so w = record {
  sized = r.sized;
  worn = r.worn;
  tables = tw;
  boxed = all_map_f (λ i g x. (layout_at u'.layout i).rect ≡ x.rect) v t
      (all_map (λ i g x. (layout_at u.layout i).rect ≡ x.rect) (λ i g x. (layout_at u'.layout i).rect ≡ (v i g x).rect) t
      (λ i g x _ e. r.rects i ∙ e ∙ sym (keeps i g x)) d.boxed);
  with_bits = wb;
  dead = λ j h c.
      let c' : cnt j t ≡ 0 = sym (cnt_shape j (map_f v t) t (shape_map v t)) ∙ c in
      r.dead j c' ∙ d.dead j h c';
  stated_long = sl;
  stated_few = sf;
  stated_once = so;
  well = w;
}

in_array : (k : ℕ) (u : Ui) (t : Forest Info) → Links k u t → (d : NodeId) → has_id d t ≡ true → d.index < 128
in_array k u t l d h = let c = (live_id l.rel d h).0 in let b = below l.rel d.index (omega arith) in let m = l.rel.small in omega arith

-- a refresh changes looks and stated slots alone
pub refresh_keeps_the_limit : (u : Ui) (hover : Option NodeId) → limit_of (refreshed u hover) ≡ limit_of u
unfolding refreshed with_stated with_styles
refresh_keeps_the_limit u hover = refl

pub refresh_keeps_the_count : (u : Ui) (hover : Option NodeId) → (refreshed u hover).patch_count ≡ u.patch_count
unfolding refreshed with_stated with_styles
refresh_keeps_the_count u hover = refl

-- what one node keeps, all keep
picked_rect : (b : Bool) (x y : Info) → y.rect ≡ x.rect → (cond b y x).rect ≡ x.rect
picked_rect true x y e = e
picked_rect false x y e = refl

module _ (k : ℕ) (u : Ui) (t : Forest Info) (l : Links k u t) (r : Styled u t) where
  pub style_keeps_styling : (d : NodeId) (h : has_id d t ≡ true) (y : Style) → Styled (styled_at u d.index y) (change_of d (restyled y) t)
  unfolding styled_at with_styles restyled
  style_keeps_styling d h y =
      dress_by u (styled_at u d.index y) t (λ i g x. cond (has_both d i g) (restyled y x) x) _ r
      (a_styled_slot_is_a_restyled_node u l.rel r.sized r.worn d h y)
      (λ i g x. picked_rect (has_both d i g) x (restyled y x) refl)
      (a_restyled_node_wears_what_its_table_has d y t r.tables)
      (changing_one_node_keeps (λ i g x. 0 < x.bits → 0 < occ i (stated_of u)) d (restyled y) t (λ i g x p. p) r.with_bits)
      r.stated_long r.stated_few r.stated_once
      (a_styled_tree_is_well u.patch_count (limit_of u) u d.index y r.sized (in_array k u t l d h) r.well)

  pub table_keeps_styling : (d : NodeId) (h : has_id d t ≡ true) (table : List ℕ) → all (in_pool u.patch_count) table ≡ true
      → Styled (tabled_at u d.index table) (change_of d (λ x. wears (pool_of u) x.bits (with_table table x)) t)
  unfolding tabled_at with_styles wears
  table_keeps_styling d h table ok =
      let f : Info → Info = λ x. wears (pool_of u) x.bits (with_table table x) in
      dress_by u (tabled_at u d.index table) t (λ i g x. cond (has_both d i g) (f x) x) _ r
      (a_tabled_slot_is_a_node_that_wears_a_table u l.rel r.sized r.worn d h table)
      (λ i g x. picked_rect (has_both d i g) x (f x) refl)
      (a_tabled_node_wears_what_its_table_has d (pool_of u) table t r.tables)
      (changing_one_node_keeps (λ i g x. 0 < x.bits → 0 < occ i (stated_of u)) d f t (λ i g x p. p) r.with_bits)
      r.stated_long r.stated_few r.stated_once
      (a_tabled_tree_is_well u.patch_count (limit_of u) u d.index table r.sized (in_array k u t l d h) ok r.well)

  bare_no_bits : (f : Forest Info) (P : ℕ → Type 0) → AllF (λ i g x. 0 < x.bits → P i) (map_f (λ i g x. bare x) f)
  unfolding bare
  bare_no_bits nil P = tt
  bare_no_bits (node i g x cs sib) P = ((λ b. absurd (omega arith)), bare_no_bits cs P, bare_no_bits sib P)

  abbrev bare_looks : Appearance
  bare_looks = bare_all (appearance_of u) (from_to 0 (limit_of u))

  pool_redresses : Restyled (appearance_of u) bare_looks t (map_f (λ i g x. bare x) t) (any_f (λ i g x. not (same x.applied no_patch)) t)
  pool_redresses = all_slots_bare_is_every_node_bare (appearance_of u) (limit_of u) t l.rel.small r.sized (λ j c. below l.rel j (omega arith)) r.worn
      (λ j b c. r.dead j (let m = l.rel.small in omega arith) c)

  pub pool_keeps_styling : (patches : List StatePatch) (count : ℕ) → Styled (pooled u patches count) (map_f (λ i g x. bare x) t)
  unfolding pooled with_pool with_styles bare distinct
  pool_keeps_styling patches count =
      dress_by u (pooled u patches count) t (λ i g x. bare x) _ r pool_redresses (λ i g x. refl) (bare_nodes_wear_what_their_tables_have t)
      (bare_no_bits t (λ i. 0 < occ i (stated_of (pooled u patches count)))) r.stated_long (omega arith) refl
      (bare_slots_are_well count (limit_of u) (appearance_of u) l.rel.small r.sized)

  pub pool_dirties : (patches : List StatePatch) (count : ℕ) → (pooled u patches count).dirty ≡ (u.dirty || any_f (λ i g x. not (same x.applied no_patch)) t)
  unfolding pooled with_pool with_styles
  pool_dirties patches count = pool_redresses.due

  pub table_dirties : (d : NodeId) (h : has_id d t ≡ true) (table : List ℕ)
      → (tabled_at u d.index table).dirty ≡ (u.dirty || any_f (λ i g x. has_both d i g && swaps (pool_of u) x.bits (with_table table x)) t)
  table_dirties d h table = (a_tabled_slot_is_a_node_that_wears_a_table u l.rel r.sized r.worn d h table).due

  pub pass_keeps_styling : (v : Viewport) → Styled (with_pass u (passed u.slots u.layout v) v) (place_f t (view_rect v ∷ []))
  unfolding with_pass
  pass_keeps_styling v =
      let l' = passed u.slots u.layout v in
      let p : PassOver u.layout l' t v = a_pass_places_every_node l.rel u.layout v r.sized.0
      (all_map (λ i g x. Worn u.layout u.states i x) (λ i g x. (layout_at u.layout i).style ≡ x.style) t (λ i g x _ w. w.0) r.worn) in
      let rs = view_rect v ∷ [] in
      record {
        sized = (p.long, r.sized.1);
        worn = placing_keeps_what_boxes_leave_alone (λ i g x. Worn l' u.states i x) (λ i g x _ w. w) t rs
            (all_map (λ i g x. Worn u.layout u.states i x) (λ i g x. Worn l' u.states i x) t (λ i g x _ w. (p.styles i ∙ w.0, w.1)) r.worn);
        tables = placing_keeps_what_boxes_leave_alone (λ i g x. x.applied ≡ entry_of x.table x.bits) (λ i g x _ w. w) t rs r.tables;
        boxed = p.placed;
        with_bits = placing_keeps_what_boxes_leave_alone (λ i g x. 0 < x.bits → 0 < occ i (stated_of u)) (λ i g x _ w. w) t rs r.with_bits;
        dead = λ j h c. r.dead j h (cnt_shape j t (place_f t rs) (placing_keeps_the_shape t rs) ∙ c);
        stated_long = r.stated_long;
        stated_few = r.stated_few;
        stated_once = r.stated_once;
        well = r.well;
      }

  module _ (hover : Option NodeId) (bits : ℕ → ℕ → Info → ℕ) (agree : AllF (λ i g x. bits_at u hover i ≡ bits i g x) t)
      (none : (j : ℕ) → j < limit_of u → cnt j t ≡ 0 → bits_at u hover j ≡ 0) where
    refreshes : Refresh u (refreshed u hover) t (map_f (λ i g x. wears (pool_of u) (bits i g x) x) t) (any_f (λ i g x. swaps (pool_of u) (bits i g x) x) t)
    refreshes = a_refresh_is_every_node_wearing_its_bits u hover bits l.rel r.sized r.stated_long r.worn r.tables r.with_bits
        (distinct_slots_are_below (limit_of u) (stated_of u) r.stated_once) (λ j b c. r.dead j (let m = l.rel.small in omega arith) c) agree none

    pub refresh_keeps_styling : Styled (refreshed u hover) (map_f (λ i g x. wears (pool_of u) (bits i g x) x) t)
    unfolding wears
    refresh_keeps_styling =
        let s = refreshes in
        let n : limit_of (refreshed u hover) ≡ limit_of u = refresh_keeps_the_limit u hover in
        let c : (refreshed u hover).patch_count ≡ u.patch_count = refresh_keeps_the_count u hover in
        dress_by u (refreshed u hover) t (λ i g x. wears (pool_of u) (bits i g x) x) _ r s.looks (λ i g x. refl)
        (nodes_wear_what_their_tables_have (pool_of u) bits t) s.with_bits s.stated_long s.stated_few
        (rw n s.stated_once)
        (rw (n, c) (a_refreshed_tree_is_well u.patch_count (limit_of u) u hover l.rel.small r.sized (distinct_slots_are_below (limit_of u) (stated_of u) r.stated_once) r.well))

    pub refresh_dirties : (refreshed u hover).dirty ≡ (u.dirty || any_f (λ i g x. swaps (pool_of u) (bits i g x) x) t)
    refresh_dirties = refreshes.looks.due
