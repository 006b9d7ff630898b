-- A key edits the field of the node in focus, and the text of the node that the history's focus names: the same node, if it lives. Assumes nothing.
use Rattle.std.specs.Prelude.{Option, Some, None}
use mathlib.Core.Path.{◌≡◌, refl, sym, subst, ◌∙◌}
use mathlib.Core.Bool.{true, ◌&&◌, cond}
use mathlib.Core.List.{List}
use Prim.Native.Nat.{ℕ, ◌+◌, ◌<◌}
use lib.Dec.{leb}
use lib.ListN.{length, get_or}
use Rattle.text.specs.Utf8.{is_scalar, encoded}
use Rattle.field.specs.Fields.{in_range, field_ok, moved, cut_out, put_in, edited_in, edited, inserted, marked_of}
use Rattle.field.specs.declared.NodeId.{NodeId}
use Rattle.field.specs.declared.Field.{Field}
use Rattle.field.specs.declared.EditOp.{EditOp}
use Rattle.field.specs.declared.EditOp.TheVariants.{Backspace, Delete, Left, Right, Home, End}
use Rattle.field.proofs.Laws.{edit_keeps_the_rules, edit_keeps_64_bytes, edit_is_the_texts, edit_marks_a_change, insert_keeps_the_rules, insert_keeps_64_bytes, insert_is_the_texts, insert_marks_a_change}
use Rattle.tree.specs.Slots.{same_id, nobody}
use Rattle.tree.specs.Forest.{Forest, nil, node, has_id, map_f}
use Rattle.tree.specs.Nodes.{Info, with_field, is_named, change_named}
use Rattle.tree.specs.Fields.{owns, field_of, change_first}
use Rattle.tree.specs.Trees.{with_interaction, with_fields}
use Rattle.tree.specs.declared.Ui.{Ui}
use Rattle.tree.specs.declared.Interaction.{Interaction}
use Rattle.arithmetic.proofs.TestLaws.{bool_cases}
use Rattle.tree.proofs.Payloads.{AllF}
use Rattle.tree.proofs.Ids.{live_just_where_a_node_has_it}
use Rattle.tree.proofs.Relation.{Texts}
use Rattle.tree.proofs.FieldParts.{retexted, edit_keeps_texts, no_edit_of_a_dead_id, no_edit_without_a_field, unchanged_at_each_node}
use Rattle.desk.specs.Events.{keyed_field, has_changed, edit_fold, folded_by, edit_field, edit_focused}
use Rattle.tree.specs.History.{History, with_tree, id_named, key_marked, map_maybe, typed_into}
use Rattle.boxes.specs.declared.Key.{Key}
use Rattle.boxes.specs.declared.Key.TheVariants.{Char, Op}
use Rattle.desk.proofs.Invariant.{NameIn, InputAgrees, Inv, with_input_lem, with_texts}
use Rattle.desk.proofs.NameLaws.{ids_say_the_names}

-- ---- what a key does to a field

op_keeps_owner : (f : Field) (op : EditOp) → (edited_in f op).owner ≡ f.owner
unfolding edited_in cut_out moved
op_keeps_owner f Backspace = refl
op_keeps_owner f Delete = refl
op_keeps_owner f Left = refl
op_keeps_owner f Right = refl
op_keeps_owner f Home = refl
op_keeps_owner f End = refl

pub key_keeps_owner : (key : Key) (f : Field) → (keyed_field key f).owner ≡ f.owner
unfolding inserted put_in edited
key_keeps_owner (Char c) f = bool_cases (in_range f && (is_scalar c && leb (f.len + length (encoded c)) 64)) (λ e. rw e) (λ e. rw e)
key_keeps_owner (Op op) f = bool_cases (in_range f) (λ e. rw e (op_keeps_owner f op)) (λ e. rw e)

pub key_keeps_rules : (key : Key) (f : Field) → field_ok f ≡ true → length f.bytes ≡ 64
    → (field_ok (keyed_field key f) ≡ true) × (length (keyed_field key f).bytes ≡ 64) × (marked_of (keyed_field key f) ≡ key_marked key (marked_of f))
key_keeps_rules (Char c) f h l =
    (insert_keeps_the_rules f h l c, insert_keeps_64_bytes f h l c, λ i. record { text = insert_is_the_texts f h l c i; mark = insert_marks_a_change f h l c i })
key_keeps_rules (Op op) f h l =
    (edit_keeps_the_rules f h l op, edit_keeps_64_bytes f h l op, λ i. record { text = edit_is_the_texts f h l op i; mark = edit_marks_a_change f h l op i })

-- ---- the invariant with other texts

module _ (k : ℕ) (u : Ui) (h : History) (v : Inv k u h) (key : Key) (fo : Option ℕ) where
  abbrev named_text : Forest Info
  named_text = map_f (retexted (λ i g x. is_named fo x) (λ x. map_maybe (key_marked key) x.marked)) h.tree

  abbrev after_key : History
  after_key = with_tree h named_text h.styling.dirty

  -- the same tree but for fields and the fold of edits
  with_keyed : (fs : List Field) (a : Interaction) → InputAgrees a h.named h.input → Texts u.slots fs named_text → Inv k (with_interaction (with_fields u fs) a) after_key
  with_keyed fs a i x = with_input_lem (with_texts v (λ i g x. is_named fo x) (λ x. map_maybe (key_marked key) x.marked) fs x) a h.input i

  -- the tree as it was
  same_tree : Texts u.slots u.fields named_text → Inv k u after_key
  unfolding with_interaction with_fields
  same_tree x = with_keyed u.fields u.interaction v.input x

  module _ (m : ℕ) (b : m < length h.named) (e : fo ≡ Some m) where
    abbrev d : NodeId
    d = get_or h.named m nobody

    is_d : AllF (λ i g x. same_id d (record { index = i; generation = g }) ≡ is_named fo x) h.tree
    is_d = rw e (ids_say_the_names u.slots h.tree h.named v.nodes.naming (Some d) (Some m) (record { is_the_id = refl; is_in = b }))

    edits : (mf : Option Field) → field_of d u.fields ≡ mf → Inv k (edit_field u d key mf) after_key
    edits None q =
        same_tree (no_edit_without_a_field u.slots h.tree u.fields v.nodes.texts d (keyed_field key) (key_marked key) (λ i g x. is_named fo x) is_d (map_maybe (key_marked key)) refl (λ z. refl) q)
    edits (Some f) q =
        bool_cases (has_changed f (keyed_field key f))
        (λ c. rw c (with_keyed (change_first (owns d) (keyed_field key) u.fields) (folded_by u.interaction (edit_fold u d key)) (record { pointer_is = v.input.pointer_is; pressed = v.input.pressed; focus = v.input.focus }) edited_texts))
        (λ c. rw c (with_keyed (change_first (owns d) (keyed_field key) u.fields) u.interaction v.input edited_texts))
      where
        edited_texts : Texts u.slots (change_first (owns d) (keyed_field key) u.fields) named_text
        edited_texts =
            edit_keeps_texts u.slots h.tree u.fields v.nodes.texts d (keyed_field key) (key_marked key) (λ i g x. is_named fo x) is_d (map_maybe (key_marked key)) refl (λ z. refl)
            (key_keeps_owner key) (λ f _. key_keeps_rules key f)

    into_the_node : Inv k (edit_focused u key (Some d)) after_key
    into_the_node =
        let l = live_just_where_a_node_has_it v.nodes.links.rel d in
        bool_cases (has_id d h.tree)
        (λ c. rw (l ∙ c) (edits (field_of d u.fields) refl))
        (λ c. rw (l ∙ c)
        (same_tree (no_edit_of_a_dead_id u.slots h.tree u.fields v.nodes.texts d (keyed_field key) (key_marked key) (λ i g x. is_named fo x) is_d (map_maybe (key_marked key)) refl (λ z. refl) c)))

-- ---- a key

-- what holds of whatever a node is holds of all
pub of_all_nodes : (P : ℕ → ℕ → Info → Type 0) → ((i g : ℕ) (x : Info) → P i g x) → (t : Forest Info) → AllF P t
of_all_nodes P h nil = tt
of_all_nodes P h (node i g x cs sib) = (h i g x, of_all_nodes P h cs, of_all_nodes P h sib)

module _ {k : ℕ} {u : Ui} {h : History} (v : Inv k u h) (key : Key) where
  key_into : (fo : Option ℕ) → NameIn h.named fo → Inv k (edit_focused u key (id_named h.named fo)) (with_tree h (change_named fo (λ x. with_field x (map_maybe (key_marked key) x.marked)) h.tree) h.styling.dirty)
  key_into None n =
      subst (λ (t : Forest Info). Inv k u (with_tree h t h.styling.dirty))
      (sym (unchanged_at_each_node (λ i g x. cond (is_named None x) (with_field x (map_maybe (key_marked key) x.marked)) x) h.tree (of_all_nodes _ (λ i g x. refl) h.tree))) v
  key_into (Some m) n = into_the_node k u h v key (Some m) m n refl

  pub key_agrees : Inv k (edit_focused u key u.interaction.focus) (typed_into h key)
  key_agrees =
      subst (λ (o : Option NodeId). Inv k (edit_focused u key o) (typed_into h key)) (sym v.input.focus.is_the_id) (key_into h.input.focus v.input.focus.is_in)
