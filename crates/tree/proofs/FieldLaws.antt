-- The fields by owner. A live node's field is left alone when those of dead owners are cleared, and when another node claims one. Each
-- field is vacant after the clearing or some live node's: so none is vacant just where as many live nodes have a field as there are
-- fields. Assumes nothing.
use Rattle.std.specs.Prelude.{None, Option, Some}
use mathlib.Core.Path.{◌≡◌, refl, sym, ap, ◌∙◌, subst}
use mathlib.Core.Bool.{Bool, true, false, not, ◌&&◌, cond}
use mathlib.Core.List.{List, [], ◌∷◌, map}
use Prim.Native.Nat.{ℕ, suc, ◌+◌, ◌≤◌, ◌<◌}
use native.Mathlib.Omega.{arith}
use lib.ListN.{length}
use Rattle.arithmetic.proofs.BoolLaws.{and_left, and_right}
use Rattle.field.specs.Text.{Text}
use Rattle.field.specs.Marks.{Marked, new_marked}
use Rattle.field.specs.Fields.{empty_field, field_ok, text_ok, mark_ok, in_range, text_of, marked_of, own_field}
use Rattle.field.proofs.Laws.{empty_field_keeps_the_rules, empty_field_has_no_text}
use Rattle.field.specs.declared.NodeId.{NodeId}
use Rattle.field.specs.declared.Field.{Field}
use Rattle.field.specs.declared.Mark.{Mark}
use Rattle.field.specs.declared.Mark.TheVariants.{Untouched}
use Rattle.arithmetic.specs.Tests.{same, all}
use Rattle.arena.specs.Slots.{Slots, at, is_live, id_at, is_id, same_id}
use Rattle.arena.specs.Fields.{first_field, owns, field_of, owner_dead, reclaimed, vacant, change_first, claimed}
use Rattle.arena.specs.Rules.{owners_well}
use Rattle.arena.specs.Forest.{Forest, nil, node, has_both, has_id}
use Rattle.boxes.specs.Nodes.{Info, bit, has_field, with_field, change_of}
use Rattle.tree.proofs.Relation.{AllFields, marked_in}
use Rattle.arithmetic.proofs.TestLaws.{same_yes, same_no, same_refl, δ-same, eq_cases, zero_cases, bool_cases}
use Rattle.arena.proofs.Forests.ForestLaws.{cnt, wt}
use Rattle.arena.proofs.Forests.Relations.{Rel, once}
use Rattle.arena.proofs.Forests.Payloads.{AllF, all_map, all_both, all_map_f}
use Rattle.arena.proofs.Forests.Ids.{no_id_without_its_index, live_just_where_a_node_has_it, slots_id_is_live, nodes_have_their_slots_generation}
use Rattle.arena.proofs.Checks.RuleLaws.{both_true}

-- ---- ids

pub one_id_is_the_other : (d e : NodeId) → same_id d e ≡ true → d ≡ e
one_id_is_the_other d e h =
    eq_cases d.index e.index
    (λ q s _. eq_cases d.generation e.generation
    (λ q' s' _. λ k. record { index = q k; generation = q' k })
    (λ q' s' _. let h' : ◌≡◌ {A = Bool} false true = sym (rw (s, s')) ∙ h in let z : ◌≡◌ {A = ℕ} 0 1 = cc in absurd (omega arith)))
    (λ q s _. let h' : ◌≡◌ {A = Bool} false true = sym (rw s) ∙ h in let z : ◌≡◌ {A = ℕ} 0 1 = cc in absurd (omega arith))

pub an_id_is_itself : (d : NodeId) → same_id d d ≡ true
an_id_is_itself d = rw (same_refl d.index, same_refl d.generation)

same_sym : (i j : ℕ) → same i j ≡ same j i
same_sym i j = eq_cases i j (λ e s _. s ∙ sym (same_yes j i (sym e))) (λ e s _. s ∙ sym (same_no j i (λ q. e (sym q))))

pub to_have_an_id_is_to_be_named_by_it : (d : NodeId) (i g : ℕ) → has_both d i g ≡ same_id d (record { index = i; generation = g })
to_have_an_id_is_to_be_named_by_it d i g = rw (same_sym i d.index, same_sym g d.generation)

-- ---- what holds of each field, and an edit of one

pub a_test_of_all_is_of_each : (p : Field → Bool) (fs : List Field) → all p fs ≡ true → AllFields (λ f. p f ≡ true) fs
a_test_of_all_is_of_each p [] e = tt
a_test_of_all_is_of_each p (f ∷ fs) e = (and_left (p f) (all p fs) e, a_test_of_all_is_of_each p fs (and_right (p f) (all p fs) e))

pub a_test_of_each_is_of_all : (p : Field → Bool) (fs : List Field) → AllFields (λ f. p f ≡ true) fs → all p fs ≡ true
a_test_of_each_is_of_all p [] e = refl
a_test_of_each_is_of_all p (f ∷ fs) e = both_true (p f) (all p fs) e.0 (a_test_of_each_is_of_all p fs e.1)

-- the one that is changed is the first that passes the test
pub an_edit_keeps_of_each : (P : Field → Type 0) (p : Field → Bool) (c : Field → Field) (fs : List Field) → ((f : Field) → first_field p fs ≡ Some f → P f → P (c f)) → AllFields P fs → AllFields P (change_first p c fs)
an_edit_keeps_of_each P p c [] e h = tt
an_edit_keeps_of_each P p c (f ∷ fs) e h = bool_cases (p f) (λ q. rw q (e f (rw q) h.0, h.1)) (λ q. rw q (h.0, an_edit_keeps_of_each P p c fs (λ g k. e g (rw q k)) h.1))

pub an_edit_keeps_the_number_of_fields : (p : Field → Bool) (c : Field → Field) (fs : List Field) → length (change_first p c fs) ≡ length fs
an_edit_keeps_the_number_of_fields p c [] = refl
an_edit_keeps_the_number_of_fields p c (f ∷ fs) = bool_cases (p f) (λ q. rw q) (λ q. rw q (ap suc (an_edit_keeps_the_number_of_fields p c fs)))

-- every field is changed
pub a_change_of_all_keeps_of_each : (P : Field → Type 0) (c : Field → Field) → ((f : Field) → P f → P (c f)) → (fs : List Field) → AllFields P fs → AllFields P (map c fs)
a_change_of_all_keeps_of_each P c e [] h = tt
a_change_of_all_keeps_of_each P c e (f ∷ fs) h = (e f h.0, a_change_of_all_keeps_of_each P c e fs h.1)

-- ---- counts

-- how many fields the node owns, and how many nobody does
abbrev pub owned : NodeId → List Field → ℕ
owned d [] = 0
owned d (f ∷ fs) = bit (owns d f) + owned d fs

abbrev pub vacants : List Field → ℕ
vacants [] = 0
vacants (f ∷ fs) = bit (vacant f) + vacants fs

abbrev pub is_field : Option Field → Bool
is_field None = false
is_field (Some f) = true

pub who_owns_nothing_has_no_field : (d : NodeId) (fs : List Field) → owned d fs ≡ 0 → field_of d fs ≡ None
unfolding field_of
who_owns_nothing_has_no_field d [] z = refl
who_owns_nothing_has_no_field d (f ∷ fs) z =
    bool_cases (owns d f)
    (λ q. let z' : 1 + owned d fs ≡ 0 = rw q at z in absurd (omega arith))
    (λ q. let z' : 0 + owned d fs ≡ 0 = rw q at z in rw q (who_owns_nothing_has_no_field d fs (omega arith)))

pub who_owns_one_has_a_field : (d : NodeId) (fs : List Field) → owned d fs ≤ 1 → bit (is_field (field_of d fs)) ≡ owned d fs
unfolding field_of
who_owns_one_has_a_field d [] z = refl
who_owns_one_has_a_field d (f ∷ fs) z =
    bool_cases (owns d f)
    (λ q. let z' : 1 + owned d fs ≤ 1 = rw q at z in rw q (omega arith))
    (λ q. let z' : 0 + owned d fs ≤ 1 = rw q at z in let h = who_owns_one_has_a_field d fs (omega arith) in rw q (h ∙ omega arith))

pub an_id_that_owns_no_field : (d : NodeId) (fs : List Field) → AllFields (λ f. owns d f ≡ false) fs → owned d fs ≡ 0
an_id_that_owns_no_field d [] h = refl
an_id_that_owns_no_field d (f ∷ fs) h = let I = an_id_that_owns_no_field d fs h.1 in rw h.0 (omega arith)

pub no_vacant_field_is_found : (fs : List Field) → first_field vacant fs ≡ None → vacants fs ≡ 0
no_vacant_field_is_found [] e = refl
no_vacant_field_is_found (f ∷ fs) e =
    bool_cases (vacant f)
    (λ q. let e' : Some f ≡ None = sym (rw q) ∙ e in let z : ◌≡◌ {A = ℕ} 0 1 = cc in absurd (omega arith))
    (λ q. let e' : first_field vacant fs ≡ None = sym (rw q) ∙ e in let I = no_vacant_field_is_found fs e' in rw q (omega arith))

pub a_vacant_field_is_found : (fs : List Field) (f : Field) → first_field vacant fs ≡ Some f → 0 < vacants fs
a_vacant_field_is_found [] f e = let z : ◌≡◌ {A = ℕ} 0 1 = cc in absurd (omega arith)
a_vacant_field_is_found (h ∷ fs) f e =
    bool_cases (vacant h)
    (λ q. rw q (omega arith))
    (λ q. let e' : first_field vacant fs ≡ Some f = sym (rw q) ∙ e in let I = a_vacant_field_is_found fs f e' in rw q (omega arith))

-- ---- a vacant field is nobody's

abbrev is_vacant : Option NodeId → Bool
is_vacant None = true
is_vacant (Some d) = false

vacant_by_owner : (o : Option NodeId) (bytes : List ℕ) (len cursor : ℕ) (mark : Mark) → vacant (record { owner = o; bytes = bytes; len = len; cursor = cursor; mark = mark }) ≡ is_vacant o
vacant_by_owner None bytes len cursor mark = refl
vacant_by_owner (Some d) bytes len cursor mark = refl

vacant_is : (f : Field) → vacant f ≡ is_vacant f.owner
vacant_is f = vacant_by_owner f.owner f.bytes f.len f.cursor f.mark

nobody_owns : (o : Option NodeId) (d : NodeId) → is_vacant o ≡ true → is_id o d ≡ false
nobody_owns None d e = refl
nobody_owns (Some e') d e = let z : ◌≡◌ {A = ℕ} 0 1 = cc in absurd (omega arith)

vacant_owns : (f : Field) (d : NodeId) → vacant f ≡ true → owns d f ≡ false
vacant_owns f d e = nobody_owns f.owner d (sym (vacant_is f) ∙ e)

-- a dead owner is none of the living
dead_owns : (n : ℕ) (s : Slots) (o : Option NodeId) (d : NodeId) → owner_dead n s o ≡ true → is_live n s d ≡ true → is_id o d ≡ false
dead_owns n s None d e h = refl
dead_owns n s (Some e') d e h =
    bool_cases (same_id e' d)
    (λ q.
    let h' : is_live n s e' ≡ true = subst (λ (z : NodeId). is_live n s z ≡ true) (sym (one_id_is_the_other e' d q)) h in
    let w : ◌≡◌ {A = Bool} false true = sym (rw h') ∙ e in
    let z : ◌≡◌ {A = ℕ} 0 1 = cc in absurd (omega arith))
    (λ q. q)

empty_owns : (d : NodeId) → owns d empty_field ≡ false
unfolding empty_field
empty_owns d = refl

empty_is_vacant : vacant empty_field ≡ true
unfolding empty_field
empty_is_vacant = refl

-- ---- the fields of the dead are cleared

pub clearing_leaves_a_live_nodes_field : (n : ℕ) (s : Slots) (fs : List Field) (d : NodeId) → is_live n s d ≡ true
    → (field_of d (reclaimed n s fs) ≡ field_of d fs) × (owned d (reclaimed n s fs) ≡ owned d fs)
unfolding field_of reclaimed
clearing_leaves_a_live_nodes_field n s [] d h = (refl, refl)
clearing_leaves_a_live_nodes_field n s (f ∷ fs) d h =
    let I = clearing_leaves_a_live_nodes_field n s fs d h in
    bool_cases (owner_dead n s f.owner)
    (λ q.
    let z : owns d f ≡ false = dead_owns n s f.owner d q h in
    rw (q, empty_owns d, z) (I.0, ap (λ (m : ℕ). 0 + m) I.1))
    (λ q. rw q (ap (λ (m : Option Field). cond (owns d f) (Some f) m) I.0, ap (λ (m : ℕ). bit (owns d f) + m) I.1))

pub clearing_gives_nobody_a_field : (n : ℕ) (s : Slots) (fs : List Field) (d : NodeId) → owned d (reclaimed n s fs) ≤ owned d fs
unfolding reclaimed
clearing_gives_nobody_a_field n s [] d = omega arith
clearing_gives_nobody_a_field n s (f ∷ fs) d =
    let I = clearing_gives_nobody_a_field n s fs d in
    bool_cases (owner_dead n s f.owner) (λ q. rw (q, empty_owns d) (omega arith)) (λ q. rw q (omega arith))

pub clearing_keeps_the_number_of_fields : (n : ℕ) (s : Slots) (fs : List Field) → length (reclaimed n s fs) ≡ length fs
unfolding reclaimed
clearing_keeps_the_number_of_fields n s [] = refl
clearing_keeps_the_number_of_fields n s (f ∷ fs) = ap suc (clearing_keeps_the_number_of_fields n s fs)

pub clearing_keeps_of_each : (P : Field → Type 0) → P empty_field → (n : ℕ) (s : Slots) (fs : List Field) → AllFields P fs → AllFields P (reclaimed n s fs)
unfolding reclaimed
clearing_keeps_of_each P e n s [] h = tt
clearing_keeps_of_each P e n s (f ∷ fs) h =
    (bool_cases (owner_dead n s f.owner) (λ q. rw q e) (λ q. rw q h.0), clearing_keeps_of_each P e n s fs h.1)

pub clearing_keeps_a_test : (p : Field → Bool) → p empty_field ≡ true → (n : ℕ) (s : Slots) (fs : List Field) → all p fs ≡ true → all p (reclaimed n s fs) ≡ true
clearing_keeps_a_test p e n s fs h = a_test_of_each_is_of_all p (reclaimed n s fs) (clearing_keeps_of_each (λ f. p f ≡ true) e n s fs (a_test_of_all_is_of_each p fs h))

-- ---- a field is claimed

pub a_claimed_field_is_the_nodes : (d : NodeId) (fs : List Field) → 0 < vacants fs → owned d fs ≡ 0 → (field_of d (claimed d fs) ≡ Some (own_field d)) × (owned d (claimed d fs) ≡ 1)
unfolding field_of claimed
a_claimed_field_is_the_nodes d [] v z = absurd (omega arith)
a_claimed_field_is_the_nodes d (f ∷ fs) v z =
    bool_cases (vacant f)
    (λ q.
    let no : owns d f ≡ false = vacant_owns f d q in
    let z' : 0 + owned d fs ≡ 0 = rw no at z in
    rw (q, an_id_is_itself d) (refl, omega arith))
    (λ q.
    let v' : 0 < 0 + vacants fs = rw q at v in
    bool_cases (owns d f)
    (λ w. let z' : 1 + owned d fs ≡ 0 = rw w at z in absurd (omega arith))
    (λ w.
    let z' : 0 + owned d fs ≡ 0 = rw w at z in
    let I = a_claimed_field_is_the_nodes d fs (omega arith) (omega arith) in
    rw (q, w) (I.0, omega (arith, I.1))))

pub a_claim_leaves_other_nodes_fields : (d e : NodeId) (fs : List Field) → same_id d e ≡ false → (field_of e (claimed d fs) ≡ field_of e fs) × (owned e (claimed d fs) ≡ owned e fs)
unfolding field_of claimed
a_claim_leaves_other_nodes_fields d e [] h = (refl, refl)
a_claim_leaves_other_nodes_fields d e (f ∷ fs) h =
    let I = a_claim_leaves_other_nodes_fields d e fs h in
    bool_cases (vacant f)
    (λ q. let z : owns e f ≡ false = vacant_owns f e q in rw (q, h, z) (refl, refl))
    (λ q. rw q (ap (λ (m : Option Field). cond (owns e f) (Some f) m) I.0, ap (λ (m : ℕ). bit (owns e f) + m) I.1))

pub a_claim_keeps_the_number_of_fields : (d : NodeId) (fs : List Field) → length (claimed d fs) ≡ length fs
unfolding claimed
a_claim_keeps_the_number_of_fields d fs = an_edit_keeps_the_number_of_fields vacant (λ (f : Field). own_field d) fs

pub a_claim_keeps_of_each : (P : Field → Type 0) (d : NodeId) → P (own_field d) → (fs : List Field) → AllFields P fs → AllFields P (claimed d fs)
unfolding claimed
a_claim_keeps_of_each P d e fs h = an_edit_keeps_of_each P vacant (λ (f : Field). own_field d) fs (λ f _ _. e) h

pub a_claim_keeps_a_test : (p : Field → Bool) (d : NodeId) → p (own_field d) ≡ true → (fs : List Field) → all p fs ≡ true → all p (claimed d fs) ≡ true
a_claim_keeps_a_test p d e fs h = a_test_of_each_is_of_all p (claimed d fs) (a_claim_keeps_of_each (λ f. p f ≡ true) d e fs (a_test_of_all_is_of_each p fs h))

-- ---- the rules

pub a_nodes_new_field_is_ok : (d : NodeId) → field_ok (own_field d) ≡ true
unfolding field_ok text_ok mark_ok in_range empty_field
a_nodes_new_field_is_ok d = empty_field_keeps_the_rules

pub a_nodes_new_field_is_newly_marked : (d : NodeId) → marked_of (own_field d) ≡ new_marked
unfolding text_of empty_field
a_nodes_new_field_is_newly_marked d = ap (λ (t : Text). record { text = t; mark = Untouched }) empty_field_has_no_text

-- no two fields with one owner: each id owns at most one
none_owned_passes : (d : NodeId) (fs : List Field) → owned d fs ≡ 0 → all (λ (g : Field). not (is_id g.owner d)) fs ≡ true
none_owned_passes d [] z = refl
none_owned_passes d (f ∷ fs) z =
    bool_cases (is_id f.owner d)
    (λ q. let z' : 1 + owned d fs ≡ 0 = rw q at z in absurd (omega arith))
    (λ q. let z' : 0 + owned d fs ≡ 0 = rw q at z in rw q (none_owned_passes d fs (omega arith)))

passes_none_owned : (d : NodeId) (fs : List Field) → all (λ (g : Field). not (is_id g.owner d)) fs ≡ true → owned d fs ≡ 0
passes_none_owned d [] e = refl
passes_none_owned d (f ∷ fs) e =
    bool_cases (is_id f.owner d)
    (λ q. let e' : ◌≡◌ {A = Bool} false true = rw q at e in let z : ◌≡◌ {A = ℕ} 0 1 = cc in absurd (omega arith))
    (λ q. let e' : all (λ (g : Field). not (is_id g.owner d)) fs ≡ true = rw q at e in let I = passes_none_owned d fs e' in rw q (omega arith))

abbrev alone_in : List Field → Option NodeId → Bool
alone_in fs None = true
alone_in fs (Some d) = all (λ (g : Field). not (is_id g.owner d)) fs

owners_by_owner : (o : Option NodeId) (bytes : List ℕ) (len cursor : ℕ) (mark : Mark) (fs : List Field)
    → owners_well (record { owner = o; bytes = bytes; len = len; cursor = cursor; mark = mark } ∷ fs) ≡ (alone_in fs o && owners_well fs)
unfolding owners_well
owners_by_owner None bytes len cursor mark fs = refl
owners_by_owner (Some d) bytes len cursor mark fs = refl

owners_first : (f : Field) (fs : List Field) → owners_well (f ∷ fs) ≡ (alone_in fs f.owner && owners_well fs)
owners_first f fs = owners_by_owner f.owner f.bytes f.len f.cursor f.mark fs

alone_counts : (o : Option NodeId) (fs : List Field) → alone_in fs o ≡ true → (d : NodeId) → is_id o d ≡ true → owned d fs ≡ 0
alone_counts None fs a d e = let z : ◌≡◌ {A = ℕ} 0 1 = cc in absurd (omega arith)
alone_counts (Some e') fs a d e = subst (λ (x : NodeId). owned x fs ≡ 0) (one_id_is_the_other e' d e) (passes_none_owned e' fs a)

counts_alone : (o : Option NodeId) (fs : List Field) → ((d : NodeId) → is_id o d ≡ true → owned d fs ≡ 0) → alone_in fs o ≡ true
counts_alone None fs h = refl
counts_alone (Some e) fs h = none_owned_passes e fs (h e (an_id_is_itself e))

pub each_id_owns_one_at_most : (fs : List Field) → owners_well fs ≡ true → (d : NodeId) → owned d fs ≤ 1
each_id_owns_one_at_most [] e d = omega arith
each_id_owns_one_at_most (f ∷ fs) e d =
    let e' = sym (owners_first f fs) ∙ e in
    let I = each_id_owns_one_at_most fs (and_right (alone_in fs f.owner) (owners_well fs) e') d in
    bool_cases (owns d f)
    (λ q. let z = alone_counts f.owner fs (and_left (alone_in fs f.owner) (owners_well fs) e') d q in rw q (omega arith))
    (λ q. rw q (omega arith))

pub owners_are_well_if_each_owns_one_at_most : (fs : List Field) → ((d : NodeId) → owned d fs ≤ 1) → owners_well fs ≡ true
unfolding owners_well
owners_are_well_if_each_owns_one_at_most [] h = refl
owners_are_well_if_each_owns_one_at_most (f ∷ fs) h =
    owners_first f fs
    ∙ both_true (alone_in fs f.owner) (owners_well fs)
    (counts_alone f.owner fs (λ d q. let v : 1 + owned d fs ≤ 1 = rw q at (h d) in omega arith))
    (owners_are_well_if_each_owns_one_at_most fs (λ d. let v = h d in omega arith))

pub clearing_keeps_owners_apart : (n : ℕ) (s : Slots) (fs : List Field) → owners_well fs ≡ true → owners_well (reclaimed n s fs) ≡ true
clearing_keeps_owners_apart n s fs e =
    owners_are_well_if_each_owns_one_at_most (reclaimed n s fs) (λ d. let a = each_id_owns_one_at_most fs e d in let b = clearing_gives_nobody_a_field n s fs d in omega arith)

claim_at_most : (d : NodeId) (fs : List Field) → owned d (claimed d fs) ≤ 1 + owned d fs
unfolding claimed
claim_at_most d [] = omega arith
claim_at_most d (f ∷ fs) =
    let I = claim_at_most d fs in
    bool_cases (vacant f) (λ q. rw (q, an_id_is_itself d) (omega arith)) (λ q. rw q (omega arith))

pub a_claim_keeps_owners_apart : (d : NodeId) (fs : List Field) → owned d fs ≡ 0 → owners_well fs ≡ true → owners_well (claimed d fs) ≡ true
a_claim_keeps_owners_apart d fs z e =
    owners_are_well_if_each_owns_one_at_most (claimed d fs) (λ x. bool_cases (same_id d x)
    (λ q. let m = claim_at_most d fs in subst (λ (y : NodeId). owned y (claimed d fs) ≤ 1) (one_id_is_the_other d x q) (omega arith))
    (λ q. let c = (a_claim_leaves_other_nodes_fields d x fs q).1 in let a = each_id_owns_one_at_most fs e x in omega arith))

-- ---- how many fields are vacant once those of the dead are cleared

module _ {X : Type 0} where
  sum_of_none : (t : Forest X) → wt (λ i g x. 0) t ≡ 0
  sum_of_none nil = refl
  sum_of_none (node i g x cs sib) = let h = sum_of_none cs in let h' = sum_of_none sib in omega arith

  sum_of_both : (v w : ℕ → ℕ → X → ℕ) (t : Forest X) → wt (λ i g x. v i g x + w i g x) t ≡ wt v t + wt w t
  sum_of_both v w nil = omega arith
  sum_of_both v w (node i g x cs sib) = let h = sum_of_both v w cs in let h' = sum_of_both v w sib in omega arith

  pub equal_at_each_node_equal_in_sum : (v w : ℕ → ℕ → X → ℕ) (t : Forest X) → AllF (λ i g x. v i g x ≡ w i g x) t → wt v t ≡ wt w t
  equal_at_each_node_equal_in_sum v w nil r = refl
  equal_at_each_node_equal_in_sum v w (node i g x cs sib) r =
      let h = equal_at_each_node_equal_in_sum v w cs r.1 in let h' = equal_at_each_node_equal_in_sum v w sib r.2 in let q = r.0 in omega arith

  -- 1 where a node is that of the owner
  abbrev hers : Option NodeId → ℕ → ℕ → X → ℕ
  hers o i g x = bit (is_id o (record { index = i; generation = g }))

  -- nodes that own a field, by field
  abbrev owners : List Field → Forest X → ℕ
  owners [] t = 0
  owners (f ∷ fs) t = wt (hers f.owner) t + owners fs t

  -- both sums are over the pairs of a node and a field of its own
  count_both : (fs : List Field) (t : Forest X) → wt (λ i g x. owned (record { index = i; generation = g }) fs) t ≡ owners fs t
  count_both [] t = sum_of_none t
  count_both (f ∷ fs) t =
      let h = sum_of_both (hers f.owner) (λ i g x. owned (record { index = i; generation = g }) fs) t in
      let h' = count_both fs t in omega arith

  id_none : (d : NodeId) (t : Forest X) → cnt d.index t ≡ 0 → wt (hers (Some d)) t ≡ 0
  id_none d nil z = refl
  id_none d (node i g x cs sib) z =
      eq_cases d.index i
      (λ e s q. let c = δ-same i d.index (sym e) in absurd (omega arith))
      (λ e s q. let h = id_none d cs (omega arith) in let h' = id_none d sib (omega arith) in rw s (omega arith))

  id_count : (d : NodeId) (t : Forest X) → cnt d.index t ≤ 1 → wt (hers (Some d)) t ≡ bit (has_id d t)
  id_count d nil z = refl
  id_count d (node i g x cs sib) z =
      let b = to_have_an_id_is_to_be_named_by_it d i g in
      eq_cases i d.index
      (λ e s q.
      let h = id_none d cs (omega arith) in let h' = id_none d sib (omega arith) in
      rw (b, no_id_without_its_index d cs (omega arith), no_id_without_its_index d sib (omega arith))
      (bool_cases (same_id d (record { index = i; generation = g })) (λ c. rw c (omega arith)) (λ c. rw c (omega arith))))
      (λ e s q.
      let no : same_id d (record { index = i; generation = g }) ≡ false = rw (same_no d.index i (λ q'. e (sym q'))) in
      zero_cases (cnt d.index cs)
      (λ c. let h = id_none d cs c in let h' = id_count d sib (omega arith) in rw (b, no, no_id_without_its_index d cs c) (omega arith))
      (λ c. let h = id_none d sib (omega arith) in let h' = id_count d cs (omega arith) in
      rw (b, no, no_id_without_its_index d sib (omega arith)) (bool_cases (has_id d cs) (λ w. let h'' = rw w at h' in rw w (omega arith)) (λ w. let h'' = rw w at h' in rw w (omega arith)))))

  module _ {n : ℕ} {s : Slots} {free : ℕ} {t : Forest X} {fl : List ℕ} (r : Rel n s free t fl) where
    one_or_the_other : (o : Option NodeId) (bytes : List ℕ) (len cursor : ℕ) (mark : Mark)
        → bit (vacant (cond (owner_dead n s o) empty_field (record { owner = o; bytes = bytes; len = len; cursor = cursor; mark = mark }))) + wt (hers o) t ≡ 1
    one_or_the_other None bytes len cursor mark = let z = sum_of_none t in omega arith
    one_or_the_other (Some d) bytes len cursor mark =
        let o = once r d.index in
        let c = id_count d t (omega arith) in
        let l = live_just_where_a_node_has_it r d in
        bool_cases (has_id d t)
        (λ b. let c' : wt (hers (Some d)) t ≡ 1 = rw b at c in let a : is_live n s d ≡ true = l ∙ b in rw a (omega arith))
        (λ b. let c' : wt (hers (Some d)) t ≡ 0 = rw b at c in let a : is_live n s d ≡ false = l ∙ b in rw (a, empty_is_vacant) (omega arith))

    vacant_or_owned : (fs : List Field) → vacants (reclaimed n s fs) + owners fs t ≡ length fs
    unfolding reclaimed
    vacant_or_owned [] = omega arith
    vacant_or_owned (f ∷ fs) =
        let I = vacant_or_owned fs in
        let o = one_or_the_other f.owner f.bytes f.len f.cursor f.mark in omega arith

    -- every field is vacant after the clearing, or a live node's
    pub vacant_fields_and_nodes_with_one : (has : X → Bool) (fs : List Field) → owners_well fs ≡ true
        → AllF (λ i g x. has x ≡ is_field (field_of (record { index = i; generation = g }) fs)) t
        → vacants (reclaimed n s fs) + wt (λ i g x. bit (has x)) t ≡ length fs
    vacant_fields_and_nodes_with_one has fs ow al =
        let v = vacant_or_owned fs in
        let w = count_both fs t in
        let e = equal_at_each_node_equal_in_sum (λ i g x. bit (has x)) (λ i g x. owned (record { index = i; generation = g }) fs) t
        (all_map (λ i g x. has x ≡ is_field (field_of (record { index = i; generation = g }) fs)) (λ i g x. bit (has x) ≡ owned (record { index = i; generation = g }) fs) t
        (λ i g x _ q. ap bit q ∙ who_owns_one_has_a_field (record { index = i; generation = g }) fs (each_id_owns_one_at_most fs ow (record { index = i; generation = g }))) al) in
        omega arith

-- ---- a node's text is its field's

-- the fields hold the node's text
abbrev pub Texted : List Field → ℕ → ℕ → Info → Type 0
Texted fs i g x = x.marked ≡ marked_in (field_of (record { index = i; generation = g }) fs)

has_by_field : (x : Info) (m : Option Field) → has_field (with_field x (marked_in m)) ≡ is_field m
has_by_field x None = refl
has_by_field x (Some f) = refl

pub a_node_with_a_text_has_a_field : (x : Info) (m : Option Field) → x.marked ≡ marked_in m → has_field x ≡ is_field m
a_node_with_a_text_has_a_field x m e = ap (λ (z : Option Marked). has_field (with_field x z)) e ∙ has_by_field x m

pub who_has_no_field_owns_nothing : (d : NodeId) (fs : List Field) → field_of d fs ≡ None → owned d fs ≡ 0
unfolding field_of
who_has_no_field_owns_nothing d [] e = refl
who_has_no_field_owns_nothing d (f ∷ fs) e =
    bool_cases (owns d f)
    (λ q. let e' : Some f ≡ None = sym (rw q) ∙ e in let z : ◌≡◌ {A = ℕ} 0 1 = cc in absurd (omega arith))
    (λ q. let e' : first_field (owns d) fs ≡ None = sym (rw q) ∙ e in let I = who_has_no_field_owns_nothing d fs e' in rw q (omega arith))

module _ {n : ℕ} {s : Slots} {free : ℕ} {t : Forest Info} {fl : List ℕ} (r : Rel n s free t fl) where
  -- 8 live nodes with a field, or a vacant one
  pub a_field_is_vacant_or_every_field_is_a_live_nodes {ℓ} : {G : Type ℓ} (fs : List Field) → owners_well fs ≡ true → AllF (Texted fs) t
      → (first_field vacant (reclaimed n s fs) ≡ None → wt (λ i g x. bit (has_field x)) t ≡ length fs → G)
      → ((f : Field) → first_field vacant (reclaimed n s fs) ≡ Some f → wt (λ i g x. bit (has_field x)) t < length fs → G) → G
  a_field_is_vacant_or_every_field_is_a_live_nodes {G = G} fs ow tx none some = go (first_field vacant (reclaimed n s fs)) refl
    where
      sum : vacants (reclaimed n s fs) + wt (λ i g x. bit (has_field x)) t ≡ length fs
      sum = vacant_fields_and_nodes_with_one r has_field fs ow
          (all_map (Texted fs) (λ i g x. has_field x ≡ is_field (field_of (record { index = i; generation = g }) fs)) t
          (λ i g x _ q. a_node_with_a_text_has_a_field x (field_of (record { index = i; generation = g }) fs) q) tx)

      go : (m : Option Field) → first_field vacant (reclaimed n s fs) ≡ m → G
      go None e = let v = no_vacant_field_is_found (reclaimed n s fs) e in let w = sum in none e (omega arith)
      go (Some f) e = let v = a_vacant_field_is_found (reclaimed n s fs) f e in let w = sum in some f e (omega arith)

  -- what the nodes' ids are
  nodes_ids_are_live : AllF (λ i g x. is_live n s (record { index = i; generation = g }) ≡ true) t
  nodes_ids_are_live =
      all_map (λ i g x. ((at s i).generation ≡ g) × ((at s i).live ≡ true)) (λ i g x. is_live n s (record { index = i; generation = g }) ≡ true) t
      (λ i g x c q. subst (λ (m : ℕ). is_live n s (record { index = i; generation = m }) ≡ true) q.0 (live_just_where_a_node_has_it r (id_at s i) ∙ slots_id_is_live r i c))
      (nodes_have_their_slots_generation r)

  pub a_field_made_is_an_empty_text : (fs : List Field) (d : NodeId) → has_id d t ≡ true → field_of d fs ≡ None → (f : Field) → first_field vacant (reclaimed n s fs) ≡ Some f
      → AllF (Texted fs) t → AllF (Texted (claimed d (reclaimed n s fs))) (change_of d (λ x. with_field x (Some new_marked)) t)
  a_field_made_is_an_empty_text fs d live none f some tx =
      let R : List Field = reclaimed n s fs in
      let u : ℕ → ℕ → Info → Info = λ i g x. cond (has_both d i g) (with_field x (Some new_marked)) x in
      let L : ℕ → ℕ → Info → Type 0 = λ i g x. is_live n s (record { index = i; generation = g }) ≡ true in
      let ld : is_live n s d ≡ true = live_just_where_a_node_has_it r d ∙ live in
      let z : owned d R ≡ 0 = (clearing_leaves_a_live_nodes_field n s fs d ld).1 ∙ who_has_no_field_owns_nothing d fs none in
      let own = (a_claimed_field_is_the_nodes d R (a_vacant_field_is_found R f some) z).0 in
      all_map_f (Texted (claimed d R)) u t (all_map (λ i g x. Texted fs i g x × L i g x) (λ i g x. Texted (claimed d R) i g (u i g x)) t
      (λ i g x _ q.
      let e : NodeId = record { index = i; generation = g } in
      let h = to_have_an_id_is_to_be_named_by_it d i g in
      bool_cases (same_id d e)
      (λ b. subst (λ (c : Bool). Texted (claimed d R) i g (cond c (with_field x (Some new_marked)) x)) (sym (h ∙ b))
      (subst (λ (y : NodeId). Some new_marked ≡ marked_in (field_of y (claimed d R))) (one_id_is_the_other d e b)
      (sym (ap marked_in own ∙ ap (λ (y : Marked). Some y) (a_nodes_new_field_is_newly_marked d)))))
      (λ b. subst (λ (c : Bool). Texted (claimed d R) i g (cond c (with_field x (Some new_marked)) x)) (sym (h ∙ b))
      (q.0 ∙ ap marked_in (sym ((a_claim_leaves_other_nodes_fields d e R b).0 ∙ (clearing_leaves_a_live_nodes_field n s fs e q.1).0)))))
      (all_both (Texted fs) L t tx nodes_ids_are_live))

-- ---- an edit of a node's field, which keeps the owner

abbrev pub edit_in : (Field → Field) → Option Field → Option Field
edit_in c None = None
edit_in c (Some f) = Some (c f)

module _ (c : Field → Field) (keeps : (f : Field) → (c f).owner ≡ f.owner) (d : NodeId) where
  owns_edited : (e : NodeId) (f : Field) → owns e (c f) ≡ owns e f
  owns_edited e f = ap (λ (o : Option NodeId). is_id o e) (keeps f)

  pub an_edit_is_of_the_nodes_field : (fs : List Field) → field_of d (change_first (owns d) c fs) ≡ edit_in c (field_of d fs)
  unfolding field_of
  an_edit_is_of_the_nodes_field [] = refl
  an_edit_is_of_the_nodes_field (f ∷ fs) =
      bool_cases (owns d f)
      (λ b. rw (b, owns_edited d f, b))
      (λ b. rw (b, b) (an_edit_is_of_the_nodes_field fs))

  pub an_edit_leaves_other_nodes_fields : (e : NodeId) (fs : List Field) → same_id d e ≡ false → field_of e (change_first (owns d) c fs) ≡ field_of e fs
  unfolding field_of
  an_edit_leaves_other_nodes_fields e [] h = refl
  an_edit_leaves_other_nodes_fields e (f ∷ fs) h =
      bool_cases (owns d f)
      (λ b. let z = not_hers f.owner e b h in rw (b, owns_edited e f, z))
      (λ b. rw b (ap (λ (m : Option Field). cond (owns e f) (Some f) m) (an_edit_leaves_other_nodes_fields e fs h)))
    where
      not_hers : (o : Option NodeId) (e : NodeId) → is_id o d ≡ true → same_id d e ≡ false → is_id o e ≡ false
      not_hers None e b h = refl
      not_hers (Some x) e b h = ap (λ (y : NodeId). same_id y e) (one_id_is_the_other x d b) ∙ h

  pub an_edit_keeps_what_each_id_owns : (e : NodeId) (fs : List Field) → owned e (change_first (owns d) c fs) ≡ owned e fs
  an_edit_keeps_what_each_id_owns e [] = refl
  an_edit_keeps_what_each_id_owns e (f ∷ fs) =
      bool_cases (owns d f)
      (λ b. rw (b, owns_edited e f))
      (λ b. rw b (ap (λ (m : ℕ). bit (owns e f) + m) (an_edit_keeps_what_each_id_owns e fs)))

  pub an_edit_keeps_owners_apart : (fs : List Field) → owners_well fs ≡ true → owners_well (change_first (owns d) c fs) ≡ true
  an_edit_keeps_owners_apart fs e =
      owners_are_well_if_each_owns_one_at_most (change_first (owns d) c fs) (λ x. let a = each_id_owns_one_at_most fs e x in let b = an_edit_keeps_what_each_id_owns x fs in omega arith)

  -- every field edited
  pub a_change_of_all_is_of_each_nodes_field : (e : NodeId) (fs : List Field) → field_of e (map c fs) ≡ edit_in c (field_of e fs)
  unfolding field_of
  a_change_of_all_is_of_each_nodes_field e [] = refl
  a_change_of_all_is_of_each_nodes_field e (f ∷ fs) =
      bool_cases (owns e f)
      (λ b. rw (owns_edited e f, b))
      (λ b. rw (owns_edited e f, b) (a_change_of_all_is_of_each_nodes_field e fs))

  a_change_of_all_keeps_what_each_id_owns : (e : NodeId) (fs : List Field) → owned e (map c fs) ≡ owned e fs
  a_change_of_all_keeps_what_each_id_owns e [] = refl
  a_change_of_all_keeps_what_each_id_owns e (f ∷ fs) = rw (owns_edited e f) (ap (λ (m : ℕ). bit (owns e f) + m) (a_change_of_all_keeps_what_each_id_owns e fs))

  pub a_change_of_all_keeps_owners_apart : (fs : List Field) → owners_well fs ≡ true → owners_well (map c fs) ≡ true
  a_change_of_all_keeps_owners_apart fs e =
      owners_are_well_if_each_owns_one_at_most (map c fs) (λ x. let a = each_id_owns_one_at_most fs e x in let b = a_change_of_all_keeps_what_each_id_owns x fs in omega arith)
