-- Reads answer what the forest says: an id is live just where a node has it, and of a live node the box, the text, the caret and the metres
-- are those known of it, since its slot holds the box and its field holds the text. The links from child to child go through the children
-- in order. Assumes nothing.
use Rattle.std.specs.Prelude.{None, Option, Some}
use mathlib.Core.Path.{◌≡◌, refl, sym, ap, ◌∙◌, subst}
use mathlib.Core.Bool.{Bool, true, false, cond}
use mathlib.Core.List.{List, [], ◌∷◌}
use Prim.Native.Nat.{ℕ, zero, suc, ◌≤◌, ◌<◌}
use native.Mathlib.Omega.{arith}
use lib.ListN.{length}
use Rattle.text.specs.Refusal.{Answer, accepted, refused}
use Rattle.text.specs.declared.refusal.Refusal.TheVariants.{Missing}
use Rattle.field.specs.Text.{bytes_of, caret_of}
use Rattle.field.specs.Fields.{field_ok, shown_of, text_of, marked_of, field_metres}
use Rattle.field.specs.Metres.{metres_of}
use Rattle.field.specs.Marks.{Marked}
use Rattle.field.specs.declared.NodeId.{NodeId}
use Rattle.field.specs.declared.Field.{Field}
use Rattle.field.proofs.Laws.{held_is_the_texts, length_is_the_texts, caret_is_the_texts}
use Rattle.arena.specs.Forest.{Forest, nil, node, has_both, has_id, kids_of, find, ids, first_id, next_id, size}
use Rattle.boxes.specs.Nodes.{Info}
use Rattle.boxes.specs.History.{of_marked, of_node, padded}
use Rattle.arena.specs.Slots.{NIL, Slots, at}
use Rattle.boxes.specs.Styles.{no_rect, layout_at}
use Rattle.arena.specs.Fields.{first_field, owns, field_of, Shown, no_text}
use Rattle.tree.specs.Broken.{broken}
use Rattle.tree.specs.Calls.{Outcome, shown, gives, guarded, on_live, of_field, on_field, field_text, field_cursor, rect, live, first_child, next_sibling}
use Rattle.tree.specs.declared.Ui.{Ui}
use Rattle.arena.specs.declared.Slot.{Slot}
use Rattle.arithmetic.proofs.TestLaws.{δ-refl, bool_cases}
use Rattle.arena.proofs.Forests.ForestLaws.{cnt, kids, cnt_kids_le, wt_rest, size_is_a_sum}
use Rattle.arena.proofs.Forests.Segments.{SegR}
use Rattle.arena.proofs.Forests.Orders.{rel_size}
use Rattle.arena.proofs.Forests.Ids.{live_just_where_a_node_has_it, live_id, kids_of_a_live_id, slots_id_is_live, find_nothing, find_known}
use Rattle.arena.proofs.Forests.ChildLinks.{first_link, no_node_is_none, children_segment, first_child_of_a_live_id, next_sibling_of_a_live_id}
use Rattle.boxes.proofs.Layouts.PassLaws.{Boxed}
use Rattle.tree.proofs.Relation.{Ruled, AllFields, marked_in, Links, Texts}

-- the children of a node in order, by the calls for the first child and the next sibling
abbrev pub siblings : ℕ → Ui → Option NodeId → List NodeId
siblings zero u m = []
siblings (suc k) u None = []
siblings (suc k) u (Some d) = d ∷ siblings k u (next_sibling u d).answer.value

abbrev pub children_by : Ui → NodeId → List NodeId
children_by u d = siblings 128 u (first_child u d).answer.value

-- ---- a field by the rules reads as its text

abbrev pub FoundBy : (Field → Type 0) → Option Field → Type 0
FoundBy P None = Unit {0}
FoundBy P (Some f) = P f

pub the_first_field_is_one_of_all : (P : Field → Type 0) (p : Field → Bool) (fs : List Field) → AllFields P fs → FoundBy P (first_field p fs)
the_first_field_is_one_of_all P p [] q = tt
the_first_field_is_one_of_all P p (f ∷ fs) q = bool_cases (p f) (λ e. rw e q.0) (λ e. rw e (the_first_field_is_one_of_all P p fs q.1))

module _ (f : Field) (h : field_ok f ≡ true) (long : length f.bytes ≡ 64) where
  pub a_field_shows_its_text : shown f ≡ padded (text_of f)
  unfolding shown_of
  a_field_shows_its_text = rw (length_is_the_texts f h long, held_is_the_texts f h)

  pub a_fields_metres_are_its_texts : field_metres f ≡ metres_of (bytes_of (text_of f))
  unfolding field_metres
  a_fields_metres_are_its_texts = rw (h, held_is_the_texts f h)

-- ---- the forest says the children of no node as none

no_kids_of_no_node : (d : NodeId) (f : Forest Info) → has_id d f ≡ false → kids_of d f ≡ nil
no_kids_of_no_node d nil h = refl
no_kids_of_no_node d (node i g x cs sib) h =
    bool_cases (has_both d i g)
    (λ b. let q : ◌≡◌ {A = Bool} true false = rw b at h in let z : ◌≡◌ {A = ℕ} 0 1 = cc in absurd (omega arith))
    (λ b. bool_cases (has_id d cs)
    (λ c. let q : ◌≡◌ {A = Bool} true false = rw (b, c) at h in let z : ◌≡◌ {A = ℕ} 0 1 = cc in absurd (omega arith))
    (λ c. let q : has_id d sib ≡ false = rw (b, c) at h in rw (b, no_kids_of_no_node d cs c, no_kids_of_no_node d sib q)))

module _ {k : ℕ} {u : Ui} {t : Forest Info} (L : Links k u t) (b : broken u ≡ false) where
  pub live_answers_whether_a_node_has_it : (d : NodeId) → (live u d).answer ≡ accepted (has_id d t)
  unfolding live guarded
  live_answers_whether_a_node_has_it d = rw (b, live_just_where_a_node_has_it L.rel d)

  -- a call on a node: of no node it is refused, else it is what it does of the node
  pub a_call_on_a_node_answers : {A : Type 0} (none : A) (o : Outcome A) (d : NodeId) → (on_live u d none o).answer ≡ cond (has_id d t) o.answer (refused Missing none)
  unfolding on_live guarded
  a_call_on_a_node_answers none o d =
      rw (b, live_just_where_a_node_has_it L.rel d) (bool_cases (has_id d t) (λ e. rw e) (λ e. rw e))

  pub rect_answers_the_nodes_box : Boxed u.layout t → (d : NodeId) → (rect u d).answer ≡ of_node no_rect (λ x. accepted x.rect) (find d t)
  unfolding rect
  rect_answers_the_nodes_box B d =
      a_call_on_a_node_answers no_rect (gives u (layout_at u.layout d.index).rect) d
      ∙ bool_cases (has_id d t)
      (λ e. let K = find_known (λ i g x. (layout_at u.layout i).rect ≡ x.rect) d t B e in rw (e, K.found, K.holds))
      (λ e. rw (e, find_nothing d t e))

  -- ---- fields

  module _ (X : Texts u.slots u.fields t) where
    -- what reads a field by its text and mark reads the node's
    pub a_read_of_the_field_answers_of_the_text : {A : Type 0} (none : A) (read : Field → Outcome A) (said : Marked → Answer A)
        → ((f : Field) → field_ok f ≡ true → length f.bytes ≡ 64 → (read f).answer ≡ said (marked_of f))
        → (d : NodeId) → (on_field u d none read).answer ≡ of_node none (λ x. of_marked none said x.marked) (find d t)
    unfolding on_field field_of
    a_read_of_the_field_answers_of_the_text none read said law d =
        a_call_on_a_node_answers none (of_field u none read (field_of d u.fields)) d
        ∙ bool_cases (has_id d t)
        (λ e.
        let K = find_known (λ i g x. x.marked ≡ marked_in (field_of (record { index = i; generation = g }) u.fields)) d t X.texts e in
        rw (e, K.found) (go (field_of d u.fields) (the_first_field_is_one_of_all (Ruled u.slots t) (owns d) u.fields X.ruled) ∙ ap (of_marked none said) (sym K.holds)))
        (λ e. rw (e, find_nothing d t e))
      where
        go : (m : Option Field) → FoundBy (Ruled u.slots t) m → (of_field u none read m).answer ≡ of_marked none said (marked_in m)
        go None q = refl
        go (Some f) q = law f q.0 q.1

    pub field_text_answers_the_nodes_text : (d : NodeId) → (field_text u d).answer ≡ of_node no_text (λ x. of_marked no_text (λ e. accepted (padded e.text)) x.marked) (find d t)
    unfolding field_text
    field_text_answers_the_nodes_text d =
        a_read_of_the_field_answers_of_the_text no_text (λ f. gives u (shown f)) (λ e. accepted (padded e.text)) (λ f h l. ap (λ (s : Shown). accepted s) (a_field_shows_its_text f h l)) d

    pub field_cursor_answers_the_nodes_caret : (d : NodeId) → (field_cursor u d).answer ≡ of_node 0 (λ x. of_marked 0 (λ e. accepted (caret_of e.text)) x.marked) (find d t)
    unfolding field_cursor
    field_cursor_answers_the_nodes_caret d =
        a_read_of_the_field_answers_of_the_text 0 (λ f. gives u f.cursor) (λ e. accepted (caret_of e.text)) (λ f h l. ap (λ (c : ℕ). accepted c) (sym (caret_is_the_texts f h l))) d

    pub metres_of_the_field_are_the_nodes : (d : NodeId)
        → (on_field u d 0 (λ f. record { next = u; answer = field_metres f })).answer ≡ of_node 0 (λ x. of_marked 0 (λ e. metres_of (bytes_of e.text)) x.marked) (find d t)
    metres_of_the_field_are_the_nodes d =
        a_read_of_the_field_answers_of_the_text 0 (λ f. record { next = u; answer = field_metres f }) (λ e. metres_of (bytes_of e.text)) (λ f h l. a_fields_metres_are_its_texts f h l) d

  -- ---- children

  pub first_child_answers_the_first : (d : NodeId) → (first_child u d).answer ≡ accepted (first_id (kids_of d t))
  unfolding first_child guarded
  first_child_answers_the_first d =
      rw (b, live_just_where_a_node_has_it L.rel d)
      (bool_cases (has_id d t)
      (λ e. rw e (ap (λ (m : Option NodeId). accepted m) (first_child_of_a_live_id L.rel d e)))
      (λ e. rw (e, no_kids_of_no_node d t e)))

  pub next_sibling_answers_the_node_after : (d : NodeId) → (next_sibling u d).answer ≡ cond (has_id d t) (accepted (next_id d t)) (refused Missing None)
  unfolding next_sibling
  next_sibling_answers_the_node_after d =
      a_call_on_a_node_answers None _ d
      ∙ bool_cases (has_id d t) (λ e. rw e (ap (λ (m : Option NodeId). accepted m) (next_sibling_of_a_live_id L.rel d e))) (λ e. rw e)

  -- of a node in a row of siblings, the next is the one after it
  pub next_sibling_answers_the_next : (p pv i g : ℕ) (x : Info) (cs sib : Forest Info) → SegR u.slots p pv (node i g x cs sib) NIL → 0 < cnt i t → cnt NIL sib ≡ 0
      → (next_sibling u (record { index = i; generation = g })).answer ≡ accepted (first_id sib)
  unfolding next_sibling
  next_sibling_answers_the_next p pv i g x cs sib r c z =
      let s : Slots = u.slots in
      let e : (at s i).generation ≡ g = ap (λ (q : Slot). q.generation) r.0 in
      let n = ap (λ (q : Slot). q.next_sibling) r.0 in
      let l : has_id (record { index = i; generation = g }) t ≡ true = subst (λ (m : ℕ). has_id (record { index = i; generation = m }) t ≡ true) e (slots_id_is_live L.rel i c) in
      a_call_on_a_node_answers None _ (record { index = i; generation = g })
      ∙ rw (l, n) (ap (λ (m : Option NodeId). accepted m) (first_link s sib p i NIL r.2 z))

  siblings_from_the_first : (m p pv : ℕ) (f : Forest Info) → SegR u.slots p pv f NIL → ((j : ℕ) → cnt j f ≤ cnt j t) → size f ≤ m → siblings m u (first_id f) ≡ ids f
  siblings_from_the_first zero p pv nil r w h = refl
  siblings_from_the_first zero p pv (node i g x cs sib) r w h = absurd (omega arith)
  siblings_from_the_first (suc m) p pv nil r w h = refl
  siblings_from_the_first (suc m) p pv (node i g x cs sib) r w h =
      let d = δ-refl i in
      let c = w i in
      let z = no_node_is_none L.rel in
      let zn = w NIL in
      let e : (next_sibling u (record { index = i; generation = g })).answer.value ≡ first_id sib =
      ap (λ (q : Answer (Option NodeId)). q.value) (next_sibling_answers_the_next p pv i g x cs sib r (omega arith) (omega arith)) in
      ap (λ (l : List NodeId). record { index = i; generation = g } ∷ l)
      (ap (λ (q : Option NodeId). siblings m u q) e ∙ siblings_from_the_first m p i sib r.2 (λ j. let v = w j in omega arith) (omega arith))

  pub children_by_the_links_are_the_nodes : (d : NodeId) → children_by u d ≡ ids (kids_of d t)
  children_by_the_links_are_the_nodes d =
      ap (λ (a : Answer (Option NodeId)). siblings 128 u a.value) (first_child_answers_the_first d)
      ∙ bool_cases (has_id d t)
      (λ e.
      let c = (live_id L.rel d e).0 in
      let i : ℕ = d.index in
      let w = wt_rest (λ i g x. 1) i t c in
      let w1 = size_is_a_sum t in
      let w2 = size_is_a_sum (kids i t) in
      let m = rel_size L.rel in
      rw (kids_of_a_live_id L.rel d e)
      (siblings_from_the_first 128 i NIL (kids i t) (children_segment L.rel i c) (λ j. let v = cnt_kids_le j i t (omega arith) in omega arith) (omega arith)))
      (λ e. rw (no_kids_of_no_node d t e))
