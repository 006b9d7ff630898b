-- Fields made and edited, as texts of nodes: only texts change, so looks and names are kept. Assumes nothing.
use Rattle.std.specs.Prelude.{None, Option, Some}
use mathlib.Core.Path.{◌≡◌, refl, sym, ap, subst, ◌∙◌}
use mathlib.Core.Bool.{Bool, true, false, cond}
use mathlib.Core.List.{List, [], ◌∷◌, map}
use Prim.Native.Nat.{ℕ, ◌<◌}
use native.Mathlib.Omega.{arith}
use lib.ListN.{length, get_or, length-map}
use Rattle.field.specs.Marks.{Marked, new_marked}
use Rattle.field.specs.Fields.{empty_field, field_ok, marked_of}
use Rattle.field.specs.declared.NodeId.{NodeId}
use Rattle.field.specs.declared.Field.{Field}
use Rattle.field.proofs.Laws.{empty_field_keeps_the_rules}
use Rattle.arithmetic.specs.Tests.{occ}
use Rattle.arena.specs.Slots.{Slots, is_live, nobody, same_id}
use Rattle.boxes.specs.Styles.{layout_at}
use Rattle.boxes.specs.States.{entry_of}
use Rattle.arena.specs.Forest.{Forest, nil, node, has_both, has_id, map_f}
use Rattle.boxes.specs.Nodes.{Info, with_field, change_of}
use Rattle.arena.specs.Fields.{owns, field_of, first_field, vacant, reclaimed, claimed, change_first}
use Rattle.tree.specs.Trees.{limit_of, stated_of}
use Rattle.tree.specs.declared.Ui.{Ui}
use Rattle.arithmetic.proofs.TestLaws.{bool_cases}
use Rattle.arena.proofs.Forests.Payloads.{AllF, all_map, all_both, all_map_f, shape, shape_map, cnt_shape}
use Rattle.arena.proofs.Forests.Ids.{live_id, live_just_where_a_node_has_it}
use Rattle.boxes.proofs.Styles.Rounds.{Worn}
use Rattle.tree.proofs.Relation.{Below, BelowMaybe, Links, Naming, Styled, Ruled, AllFields, marked_in, Texts}
use Rattle.tree.proofs.ShapeParts.{naming_by_shape, ruled_by_shape}
use Rattle.tree.proofs.FieldLaws.{one_id_is_the_other, to_have_an_id_is_to_be_named_by_it, an_edit_keeps_of_each, an_edit_keeps_the_number_of_fields, an_edit_is_of_the_nodes_field, an_edit_leaves_other_nodes_fields, an_edit_keeps_owners_apart, edit_in, a_change_of_all_keeps_of_each, a_change_of_all_is_of_each_nodes_field, a_change_of_all_keeps_owners_apart, clearing_keeps_of_each, clearing_keeps_the_number_of_fields, clearing_keeps_owners_apart, clearing_leaves_a_live_nodes_field, a_claim_keeps_of_each, a_claim_keeps_the_number_of_fields, a_claim_keeps_owners_apart, a_nodes_new_field_is_ok, who_has_no_field_owns_nothing, a_field_made_is_an_empty_text}

-- equal changes at every node
pub equal_at_each_node : (v w : ℕ → ℕ → Info → Info) (t : Forest Info) → AllF (λ i g x. v i g x ≡ w i g x) t → map_f v t ≡ map_f w t
equal_at_each_node v w nil h = refl
equal_at_each_node v w (node i g x cs sib) h =
    let a = equal_at_each_node v w cs h.1 in
    let b = equal_at_each_node v w sib h.2 in
    λ z. node i g (h.0 z) (a z) (b z)

-- some nodes get another text
module _ (b : ℕ → ℕ → Info → Bool) (y : Info → Option Marked) where
  abbrev pub retexted : ℕ → ℕ → Info → Info
  retexted i g x = cond (b i g x) (with_field x (y x)) x

  pub what_texts_leave_alone : (P : ℕ → ℕ → Info → Type 0) → ((i g : ℕ) (x : Info) (z : Option Marked) → P i g x → P i g (with_field x z)) → (t : Forest Info) → AllF P t → AllF P (map_f retexted t)
  what_texts_leave_alone P h t a =
      all_map_f P retexted t (all_map P (λ i g x. P i g (retexted i g x)) t
      (λ i g x _ p. bool_cases (b i g x) (λ e. rw e (h i g x (y x) p)) (λ e. rw e p)) a)

  pub texts_keep_styling : (u : Ui) (t : Forest Info) → Styled u t → Styled u (map_f retexted t)
  texts_keep_styling u t d = record {
    sized = d.sized;
    worn = what_texts_leave_alone (λ i g x. Worn u.layout u.states i x) (λ i g x z p. p) t d.worn;
    tables = what_texts_leave_alone (λ i g x. x.applied ≡ entry_of x.table x.bits) (λ i g x z p. p) t d.tables;
    boxed = what_texts_leave_alone (λ i g x. (layout_at u.layout i).rect ≡ x.rect) (λ i g x z p. p) t d.boxed;
    with_bits = what_texts_leave_alone (λ i g x. 0 < x.bits → 0 < occ i (stated_of u)) (λ i g x z p. p) t d.with_bits;
    dead = λ j h c. d.dead j h (sym (cnt_shape j (map_f retexted t) t (shape_map retexted t)) ∙ c);
    stated_long = d.stated_long;
    stated_few = d.stated_few;
    stated_once = d.stated_once;
    well = d.well;
  }

  pub texts_keep_naming : (s : Slots) (t : Forest Info) (named : List NodeId) → Naming s t named → Naming s (map_f retexted t) named
  texts_keep_naming s t named n =
      naming_by_shape t (map_f retexted t) (sym (shape_map retexted t)) s named n
      (what_texts_leave_alone (λ i g x. (x.name < length named) × (get_or named x.name nobody ≡ record { index = i; generation = g })) (λ i g x z p. p) t n.own)

-- ---- an edit

-- a field that is found is one of them
pub found_field_is_ruled : (P : Field → Type 0) (d : NodeId) (fs : List Field) (f : Field) → AllFields P fs → field_of d fs ≡ Some f → P f
unfolding field_of
found_field_is_ruled P d [] f a e = let z : ◌≡◌ {A = ℕ} 0 1 = cc in absurd (omega arith)
found_field_is_ruled P d (g ∷ fs) f a e =
    bool_cases (owns d g)
    (λ b. let q : Some g ≡ Some f = sym (rw b) ∙ e in let r : g ≡ f = cc in subst P r a.0)
    (λ b. let q : first_field (owns d) fs ≡ Some f = sym (rw b) ∙ e in found_field_is_ruled P d fs f a.1 q)

-- where no node has an id, none is it
pub no_node_is_a_dead_id : (d : NodeId) (t : Forest Info) → has_id d t ≡ false → AllF (λ i g x. same_id d (record { index = i; generation = g }) ≡ false) t
no_node_is_a_dead_id d nil e = tt
no_node_is_a_dead_id d (node i g x cs sib) e =
    bool_cases (has_both d i g)
    (λ b. let q : true ≡ false = sym (rw b) ∙ e in let z : ◌≡◌ {A = ℕ} 0 1 = cc in absurd (omega arith))
    (λ b. bool_cases (has_id d cs)
    (λ c. let q : true ≡ false = sym (rw (b, c)) ∙ e in let z : ◌≡◌ {A = ℕ} 0 1 = cc in absurd (omega arith))
    (λ c. let q : has_id d sib ≡ false = sym (rw (b, c)) ∙ e in
    (sym (to_have_an_id_is_to_be_named_by_it d i g) ∙ b, no_node_is_a_dead_id d cs c, no_node_is_a_dead_id d sib q)))

module _ (s : Slots) (t : Forest Info) (fs : List Field) (x₀ : Texts s fs t) (d : NodeId) (c : Field → Field) (w : Marked → Marked)
    (b : ℕ → ℕ → Info → Bool) (is_d : AllF (λ i g x. same_id d (record { index = i; generation = g }) ≡ b i g x) t)
    (M : Option Marked → Option Marked) (M-none : M None ≡ None) (M-some : (z : Marked) → M (Some z) ≡ Some (w z)) where
  abbrev pub texted : Forest Info
  texted = map_f (retexted b (λ x. M x.marked)) t

  texted_shape : shape t ≡ shape texted
  texted_shape = sym (shape_map (retexted b (λ x. M x.marked)) t)

  -- the node's field was edited
  pub edit_keeps_texts : ((f : Field) → (c f).owner ≡ f.owner)
      → ((f : Field) → field_of d fs ≡ Some f → field_ok f ≡ true → length f.bytes ≡ 64 → (field_ok (c f) ≡ true) × (length (c f).bytes ≡ 64) × (marked_of (c f) ≡ w (marked_of f)))
      → Texts s (change_first (owns d) c fs) texted
  unfolding field_of
  edit_keeps_texts keeps rules = record {
    eight = an_edit_keeps_the_number_of_fields (owns d) c fs ∙ x₀.eight;
    ruled = ruled_by_shape t texted texted_shape s (change_first (owns d) c fs)
        (an_edit_keeps_of_each (Ruled s t) (owns d) c fs
        (λ f e r. let q = rules f e r.0 r.1 in (q.0, q.1, subst (BelowMaybe s t) (sym (keeps f)) r.2)) x₀.ruled);
    owners = an_edit_keeps_owners_apart c keeps d fs x₀.owners;
    texts = all_map_f (λ i g x. x.marked ≡ marked_in (field_of (record { index = i; generation = g }) fs')) (retexted b (λ x. M x.marked)) t
        (all_map (λ i g x. (x.marked ≡ marked_in (field_of (record { index = i; generation = g }) fs)) × (same_id d (record { index = i; generation = g }) ≡ b i g x))
        (λ i g x. (retexted b (λ y. M y.marked) i g x).marked ≡ marked_in (field_of (record { index = i; generation = g }) fs')) t
        (λ i g x _ q. one i g x q.0 q.1)
        (all_both (λ i g x. x.marked ≡ marked_in (field_of (record { index = i; generation = g }) fs)) (λ i g x. same_id d (record { index = i; generation = g }) ≡ b i g x) t x₀.texts is_d));
  }
    where
      fs' : List Field
      fs' = change_first (owns d) c fs

      found : (m : Option Field) → field_of d fs ≡ m → M (marked_in m) ≡ marked_in (edit_in c m)
      found None e = M-none
      found (Some f) e =
          let r = found_field_is_ruled (Ruled s t) d fs f x₀.ruled e in
          M-some (marked_of f) ∙ ap (λ (z : Marked). Some z) (sym (rules f e r.0 r.1).2)

      one : (i g : ℕ) (x : Info) → x.marked ≡ marked_in (field_of (record { index = i; generation = g }) fs) → same_id d (record { index = i; generation = g }) ≡ b i g x
          → (cond (b i g x) (with_field x (M x.marked)) x).marked ≡ marked_in (field_of (record { index = i; generation = g }) fs')
      one i g x tx e =
          bool_cases (b i g x)
          (λ k.
          let q : d ≡ record { index = i; generation = g } = one_id_is_the_other d (record { index = i; generation = g }) (e ∙ k) in
          let tx' : x.marked ≡ marked_in (field_of d fs) = tx ∙ ap (λ (z : NodeId). marked_in (field_of z fs)) (sym q) in
          rw k (ap M tx' ∙ found (field_of d fs) refl ∙ ap marked_in (sym (an_edit_is_of_the_nodes_field c keeps d fs)) ∙ ap (λ (z : NodeId). marked_in (field_of z fs')) q))
          (λ k. rw k (tx ∙ ap marked_in (sym (an_edit_leaves_other_nodes_fields c keeps d (record { index = i; generation = g }) fs (e ∙ k)))))

  -- there was none to edit
  pub no_edit_keeps_texts : AllF (λ i g x. b i g x ≡ true → x.marked ≡ None) t → Texts s fs texted
  no_edit_keeps_texts none = record {
    eight = x₀.eight;
    ruled = ruled_by_shape t texted texted_shape s fs x₀.ruled;
    owners = x₀.owners;
    texts = all_map_f (λ i g x. x.marked ≡ marked_in (field_of (record { index = i; generation = g }) fs)) (retexted b (λ x. M x.marked)) t
        (all_map (λ i g x. (x.marked ≡ marked_in (field_of (record { index = i; generation = g }) fs)) × (b i g x ≡ true → x.marked ≡ None))
        (λ i g x. (retexted b (λ y. M y.marked) i g x).marked ≡ marked_in (field_of (record { index = i; generation = g }) fs)) t
        (λ i g x _ q. bool_cases (b i g x)
        (λ k. let e = q.1 k in rw k (ap M e ∙ M-none ∙ sym e ∙ q.0))
        (λ k. rw k q.0))
        (all_both (λ i g x. x.marked ≡ marked_in (field_of (record { index = i; generation = g }) fs)) (λ i g x. b i g x ≡ true → x.marked ≡ None) t x₀.texts none));
  }

  pub no_edit_of_a_dead_id : has_id d t ≡ false → Texts s fs texted
  no_edit_of_a_dead_id h =
      no_edit_keeps_texts (all_map (λ i g x. (same_id d (record { index = i; generation = g }) ≡ b i g x) × (same_id d (record { index = i; generation = g }) ≡ false))
      (λ i g x. b i g x ≡ true → x.marked ≡ None) t
      (λ i g x _ q k. let z : false ≡ true = sym q.1 ∙ q.0 ∙ k in let y : ◌≡◌ {A = ℕ} 0 1 = cc in absurd (omega arith))
      (all_both (λ i g x. same_id d (record { index = i; generation = g }) ≡ b i g x) (λ i g x. same_id d (record { index = i; generation = g }) ≡ false) t is_d (no_node_is_a_dead_id d t h)))

  pub no_edit_without_a_field : field_of d fs ≡ None → Texts s fs texted
  no_edit_without_a_field h =
      no_edit_keeps_texts (all_map (λ i g x. (same_id d (record { index = i; generation = g }) ≡ b i g x) × (x.marked ≡ marked_in (field_of (record { index = i; generation = g }) fs)))
      (λ i g x. b i g x ≡ true → x.marked ≡ None) t
      (λ i g x _ q k. let e = one_id_is_the_other d (record { index = i; generation = g }) (q.0 ∙ k) in q.1 ∙ ap (λ (z : NodeId). marked_in (field_of z fs)) (sym e) ∙ ap marked_in h)
      (all_both (λ i g x. same_id d (record { index = i; generation = g }) ≡ b i g x) (λ i g x. x.marked ≡ marked_in (field_of (record { index = i; generation = g }) fs)) t is_d x₀.texts))

-- every field was edited
pub edit_of_all_keeps_texts : (s : Slots) (t : Forest Info) (fs : List Field) → Texts s fs t → (c : Field → Field) (w : Marked → Marked)
    (M : Option Marked → Option Marked) (M-none : M None ≡ None) (M-some : (z : Marked) → M (Some z) ≡ Some (w z))
    → ((f : Field) → (c f).owner ≡ f.owner)
    → ((f : Field) → field_ok f ≡ true → length f.bytes ≡ 64 → (field_ok (c f) ≡ true) × (length (c f).bytes ≡ 64) × (marked_of (c f) ≡ w (marked_of f)))
    → Texts s (map c fs) (map_f (λ i g x. with_field x (M x.marked)) t)
edit_of_all_keeps_texts s t fs x₀ c w M M-none M-some keeps rules = record {
  eight = length-map fs c ∙ x₀.eight;
  ruled = ruled_by_shape t _ (sym (shape_map (λ i g x. with_field x (M x.marked)) t)) s (map c fs)
      (a_change_of_all_keeps_of_each (Ruled s t) c (λ f r. let q = rules f r.0 r.1 in (q.0, q.1, subst (BelowMaybe s t) (sym (keeps f)) r.2)) fs x₀.ruled);
  owners = a_change_of_all_keeps_owners_apart c keeps nobody fs x₀.owners;
  texts = all_map_f (λ i g x. x.marked ≡ marked_in (field_of (record { index = i; generation = g }) (map c fs))) (λ i g x. with_field x (M x.marked)) t
      (all_map (λ i g x. x.marked ≡ marked_in (field_of (record { index = i; generation = g }) fs)) (λ i g x. M x.marked ≡ marked_in (field_of (record { index = i; generation = g }) (map c fs))) t
      (λ i g x _ q.
      let d : NodeId = record { index = i; generation = g } in
      ap M q ∙ found d (field_of d fs) refl ∙ ap marked_in (sym (a_change_of_all_is_of_each_nodes_field c keeps nobody d fs))) x₀.texts);
}
  where
    found : (d : NodeId) (m : Option Field) → field_of d fs ≡ m → M (marked_in m) ≡ marked_in (edit_in c m)
    found d None e = M-none
    found d (Some f) e =
        let r = found_field_is_ruled (Ruled s t) d fs f x₀.ruled e in
        M-some (marked_of f) ∙ ap (λ (z : Marked). Some z) (sym (rules f r.0 r.1).2)

-- ---- a field made

pub unchanged_at_each_node : (v : ℕ → ℕ → Info → Info) (t : Forest Info) → AllF (λ i g x. v i g x ≡ x) t → map_f v t ≡ t
unchanged_at_each_node v nil h = refl
unchanged_at_each_node v (node i g x cs sib) h =
    let a = unchanged_at_each_node v cs h.1 in
    let b = unchanged_at_each_node v sib h.2 in
    λ z. node i g (h.0 z) (a z) (b z)

module _ (k : ℕ) (u : Ui) (t : Forest Info) (l : Links k u t) (x₀ : Texts u.slots u.fields t) (d : NodeId) (live : has_id d t ≡ true)
    (K : Option Marked → Option Marked) (K-none : K None ≡ Some new_marked) (K-some : (z : Marked) → K (Some z) ≡ Some z) where
  abbrev pub kept : Forest Info
  kept = change_of d (λ x. with_field x (K x.marked)) t

  -- the node's text, by the id
  entry_of_the_node : AllF (λ i g x. has_both d i g ≡ true → x.marked ≡ marked_in (field_of d u.fields)) t
  entry_of_the_node =
      all_map (λ i g x. x.marked ≡ marked_in (field_of (record { index = i; generation = g }) u.fields)) (λ i g x. has_both d i g ≡ true → x.marked ≡ marked_in (field_of d u.fields)) t
      (λ i g x _ q b.
      let e = one_id_is_the_other d (record { index = i; generation = g }) (sym (to_have_an_id_is_to_be_named_by_it d i g) ∙ b) in
      q ∙ ap (λ (z : NodeId). marked_in (field_of z u.fields)) (sym e)) x₀.texts

  pub a_field_stays : (f : Field) → field_of d u.fields ≡ Some f → kept ≡ t
  a_field_stays f e =
      unchanged_at_each_node (λ i g x. cond (has_both d i g) (with_field x (K x.marked)) x) t
      (all_map (λ i g x. has_both d i g ≡ true → x.marked ≡ marked_in (field_of d u.fields)) (λ i g x. cond (has_both d i g) (with_field x (K x.marked)) x ≡ x) t
      (λ i g x _ q. bool_cases (has_both d i g)
      (λ b.
      let y : x.marked ≡ Some (marked_of f) = q b ∙ ap marked_in e in
      let z : K x.marked ≡ x.marked = ap K y ∙ K-some (marked_of f) ∙ sym y in
      rw b (ap (with_field x) z))
      (λ b. rw b)) entry_of_the_node)

  abbrev pub made : List Field
  made = claimed d (reclaimed (limit_of u) u.slots u.fields)

  pub a_field_is_made : (f : Field) → field_of d u.fields ≡ None → first_field vacant (reclaimed (limit_of u) u.slots u.fields) ≡ Some f → Texts u.slots made kept
  unfolding empty_field
  a_field_is_made f none some =
      let R : List Field = reclaimed (limit_of u) u.slots u.fields in
      let e : kept ≡ change_of d (λ x. with_field x (Some new_marked)) t =
      equal_at_each_node (λ i g x. cond (has_both d i g) (with_field x (K x.marked)) x) (λ i g x. cond (has_both d i g) (with_field x (Some new_marked)) x) t
      (all_map (λ i g x. has_both d i g ≡ true → x.marked ≡ marked_in (field_of d u.fields))
      (λ i g x. cond (has_both d i g) (with_field x (K x.marked)) x ≡ cond (has_both d i g) (with_field x (Some new_marked)) x) t
      (λ i g x _ q. bool_cases (has_both d i g)
      (λ b. rw b (ap (with_field x) (ap K (q b ∙ ap marked_in none) ∙ K-none)))
      (λ b. rw b)) entry_of_the_node) in
      let live-d = live_id l.rel d live in
      let below-d : Below u.slots t d = let a = live-d.0 in let g = live-d.1 in omega arith in
      let lives : is_live (limit_of u) u.slots d ≡ true = live_just_where_a_node_has_it l.rel d ∙ live in
      let shp = sym (shape_map (λ i g x. cond (has_both d i g) (with_field x (K x.marked)) x) t) in
      record {
        eight = a_claim_keeps_the_number_of_fields d R ∙ clearing_keeps_the_number_of_fields (limit_of u) u.slots u.fields ∙ x₀.eight;
        ruled = ruled_by_shape t kept shp u.slots made
            (a_claim_keeps_of_each (Ruled u.slots t) d (a_nodes_new_field_is_ok d, refl, below-d) R
            (clearing_keeps_of_each (Ruled u.slots t) (empty_field_keeps_the_rules, refl, tt) (limit_of u) u.slots u.fields x₀.ruled));
        owners = a_claim_keeps_owners_apart d R
            ((clearing_leaves_a_live_nodes_field (limit_of u) u.slots u.fields d lives).1 ∙ who_has_no_field_owns_nothing d u.fields none)
            (clearing_keeps_owners_apart (limit_of u) u.slots u.fields x₀.owners);
        texts = rw e (a_field_made_is_an_empty_text l.rel u.fields d live none f some x₀.texts);
      }
