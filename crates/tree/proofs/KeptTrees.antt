-- A tree that is not broken, with arrays of their lengths, in parts: limit, links, looks, stated slots, pool, queue, fields. Each part reads
-- its own share of the tree, so that a call's law is about what it changes; the calls that leave the links alone keep every part. Assumes nothing.
use Rattle.std.specs.Prelude.{Option, None}
use mathlib.Core.Path.{◌≡◌, refl, sym, subst, ◌∙◌}
use mathlib.Core.Bool.{true, false}
use mathlib.Core.List.{List, ◌++◌}
use Prim.Native.Nat.{ℕ, ◌≤◌, ◌<◌}
use native.Mathlib.Omega.{arith}
use lib.ListN.{length, take, drop, length-append, length-drop}
use Rattle.text.specs.Refusal.{Answer}
use Rattle.field.specs.Fields.{empty_field, field_ok}
use Rattle.field.specs.declared.NodeId.{NodeId}
use Rattle.field.specs.declared.Field.{Field}
use Rattle.field.proofs.Laws.{empty_field_keeps_the_rules}
use Rattle.arithmetic.specs.Tests.{all, from_to}
use Rattle.arithmetic.proofs.BoolLaws.{pick_of}
use Rattle.arena.specs.Slots.{Slots, is_live, backwards}
use Rattle.boxes.specs.States.{Appearance, in_pool}
use Rattle.boxes.specs.Layout.{passed}
use Rattle.arena.specs.Fields.{field_of, reclaimed, claimed}
use Rattle.arena.specs.Rules.{linked, distinct, owners_well}
use Rattle.boxes.specs.declared.Style.{Style}
use Rattle.boxes.specs.declared.StateSlot.{StateSlot}
use Rattle.boxes.specs.declared.StatePatch.{StatePatch}
use Rattle.boxes.specs.declared.Viewport.{Viewport}
use Rattle.tree.specs.Broken.{broken}
use Rattle.tree.specs.Trees.{limit_of, pool_of, stated_of, with_styles, with_pool, with_stated, with_fields, with_pass, with_interaction, with_waiting}
use Rattle.tree.specs.Wearing.{appearance_of, bits_at, styled_at, tabled_at, refreshed}
use Rattle.tree.specs.Calls.{Outcome, guarded, on_live, pooled}
use Rattle.tree.specs.declared.Ui.{Ui}
use Rattle.tree.specs.declared.Interaction.{Interaction}
use Rattle.arena.proofs.Checks.RuleLaws.{occurs_below}
use Rattle.boxes.proofs.Styles.Rounds.{Sized, Inside, a_round_keeps_lengths}
use Rattle.boxes.proofs.Layouts.PassLengths.{a_pass_keeps_the_number_of_layout_slots}
use Rattle.boxes.proofs.Styles.WearLaws.{wear_step, bare_step, wear_all_is_a_round, bare_all_is_a_round}
use Rattle.tree.proofs.StateLaws.{EachState, a_changed_slot_keeps_of_each, a_round_keeps_of_each}
use Rattle.tree.proofs.WellLaws.{StatesWell, states_well_together, a_styled_tree_is_well, a_tabled_tree_is_well, a_tree_with_a_new_pool_is_well, a_refreshed_tree_is_well}
use Rattle.tree.proofs.RefreshLaws.{three, distinct_slots_are_below, the_slots_of_a_refresh_are_below_the_limit, what_a_refresh_states}
use Rattle.tree.proofs.StylingLaws.{style_step, table_step}
use Rattle.tree.proofs.Relation.{AllFields, what_follows_of_each}
use Rattle.tree.proofs.FieldLaws.{a_test_of_each_is_of_all, clearing_keeps_of_each, clearing_keeps_the_number_of_fields, clearing_keeps_owners_apart, clearing_leaves_a_live_nodes_field, a_claim_keeps_of_each, a_claim_keeps_the_number_of_fields, a_claim_keeps_owners_apart, a_nodes_new_field_is_ok, who_has_no_field_owns_nothing}
use Rattle.tree.proofs.RuleParts.{a_tree_that_keeps_each_rule_is_not_broken}

-- ---- the parts

pub record LinksKept (n : ℕ) (s : Slots) (free live : ℕ) : Type 0 where
  pub some : 1 ≤ n
  pub small : n ≤ 128
  pub long : length s ≡ 128
  pub well : linked n s free live ≡ true

-- a table of 16
abbrev pub Tabled : StateSlot → Type 0
Tabled s = length s.table ≡ 16

pub record LooksKept (n count : ℕ) (k : Appearance) : Type 0 where
  pub sized : Sized k
  pub tables : EachState Tabled 128 k.states
  pub well : StatesWell count n k.states

pub record StatedKept (n : ℕ) (stated : List ℕ) (count : ℕ) : Type 0 where
  pub long : length stated ≡ 3
  pub few : count ≤ 3
  pub each_only_once : distinct n (take count stated) ≡ true

pub record PoolKept (patches : List StatePatch) (count : ℕ) : Type 0 where
  pub long : length patches ≡ 64
  pub few : count ≤ 64

pub record QueueKept (n : ℕ) (outputs : List NodeId) (count : ℕ) : Type 0 where
  pub long : length outputs ≡ 128
  pub few : count ≤ n

-- by its rules, of 64 bytes
abbrev pub FieldKept : Field → Type 0
FieldKept f = (field_ok f ≡ true) × (length f.bytes ≡ 64)

pub record FieldsKept (fs : List Field) : Type 0 where
  pub eight : length fs ≡ 8
  pub ruled : AllFields FieldKept fs
  pub owners : owners_well fs ≡ true

pub record Kept (u : Ui) : Type 0 where
  pub links : LinksKept (limit_of u) u.slots u.free u.live
  pub looks : LooksKept (limit_of u) u.patch_count (appearance_of u)
  pub stated : StatedKept (limit_of u) u.stated u.stated_count
  pub pool : PoolKept u.patches u.patch_count
  pub queue : QueueKept (limit_of u) u.outputs u.output_count
  pub fields : FieldsKept u.fields

pub a_kept_tree_is_not_broken : {u : Ui} → Kept u → broken u ≡ false
a_kept_tree_is_not_broken {u} k =
    let ls = k.looks.sized.1 in
    let sm = k.links.small in
    a_tree_that_keeps_each_rule_is_not_broken u (record {
      some_nodes = k.links.some;
      few_nodes = k.links.small;
      few_patches = k.pool.few;
      links = k.links.well;
      states = states_well_together u.patch_count (limit_of u) u.states (omega arith) k.looks.well;
      few_stated = k.stated.few;
      stated_once = k.stated.each_only_once;
      few_waiting = k.queue.few;
      owners = k.fields.owners;
      fields = a_test_of_each_is_of_all field_ok u.fields (what_follows_of_each {P = FieldKept} {Q = λ f. field_ok f ≡ true} (λ f r. r.0) u.fields k.fields.ruled);
    })

-- ---- one part changes

module _ {u : Ui} (k : Kept u) where
  -- a base style, and a table
  other_looks_keep_the_tree : (a : Appearance) → LooksKept (limit_of u) u.patch_count a → Kept (with_styles u a.layout a.states a.dirty)
  unfolding with_styles
  other_looks_keep_the_tree a l = record { links = k.links; looks = l; stated = k.stated; pool = k.pool; queue = k.queue; fields = k.fields }

  pub a_style_keeps_the_tree : (i : ℕ) → i < 128 → (y : Style) → Kept (styled_at u i y)
  unfolding styled_at with_styles
  a_style_keeps_the_tree i h y =
      let S = style_step u i y k.looks.sized h in
      other_looks_keep_the_tree (appearance_of (styled_at u i y)) (record {
        sized = S.sized;
        tables = a_changed_slot_keeps_of_each Tabled 128 i S (λ e v. v) k.looks.tables;
        well = a_styled_tree_is_well u.patch_count (limit_of u) u i y k.looks.sized h k.looks.well;
      })

  pub a_table_keeps_the_tree : (i : ℕ) → i < 128 → (table : List ℕ) → length table ≡ 16 → all (in_pool u.patch_count) table ≡ true → Kept (tabled_at u i table)
  unfolding tabled_at with_styles
  a_table_keeps_the_tree i h table l e =
      let S = table_step u i table k.looks.sized h in
      other_looks_keep_the_tree (appearance_of (tabled_at u i table)) (record {
        sized = S.sized;
        tables = a_changed_slot_keeps_of_each Tabled 128 i S (λ _ _. l) k.looks.tables;
        well = a_tabled_tree_is_well u.patch_count (limit_of u) u i table k.looks.sized h e k.looks.well;
      })

  -- another pool
  pub a_pool_keeps_the_tree : (patches : List StatePatch) (count : ℕ) → length patches ≡ 64 → count ≤ 64 → Kept (pooled u patches count)
  unfolding pooled with_pool with_styles distinct
  a_pool_keeps_the_tree patches count l few =
      let is : List ℕ = from_to 0 (limit_of u) in
      let m = k.links.small in
      let b : Inside is = λ i z. let q = occurs_below (limit_of u) i z in omega arith in
      let e = bare_all_is_a_round (appearance_of u) is in
      record {
        links = k.links;
        queue = k.queue;
        fields = k.fields;
        looks = record {
          sized = subst Sized (sym e) (a_round_keeps_lengths bare_step (appearance_of u) is b k.looks.sized);
          tables = subst (λ (a : Appearance). EachState Tabled 128 a.states) (sym e) (a_round_keeps_of_each Tabled 128 bare_step (appearance_of u) is b k.looks.sized (λ _ _ _. refl) k.looks.tables);
          well = a_tree_with_a_new_pool_is_well u patches count k.links.small k.looks.sized;
        };
        stated = record { long = k.stated.long; few = omega arith; each_only_once = refl };
        pool = record { long = l; few = few };
      }

  -- the bits refreshed
  pub a_refresh_keeps_the_tree : (hover : Option NodeId) → Kept (refreshed u hover)
  unfolding refreshed with_stated with_styles
  a_refresh_keeps_the_tree hover =
      let m = k.links.small in
      let sb = distinct_slots_are_below (limit_of u) (stated_of u) k.stated.each_only_once in
      let b : Inside (backwards (stated_of u) ++ three u hover) = λ j z. let h = the_slots_of_a_refresh_are_below_the_limit u hover sb j z in omega arith in
      let e = wear_all_is_a_round (pool_of u) (bits_at u hover) (appearance_of u) (backwards (stated_of u) ++ three u hover) in
      let T = what_a_refresh_states u hover k.stated.long in
      record {
        links = k.links;
        pool = k.pool;
        queue = k.queue;
        fields = k.fields;
        looks = record {
          sized = subst Sized (sym e) (a_round_keeps_lengths (wear_step (pool_of u) (bits_at u hover)) (appearance_of u) (backwards (stated_of u) ++ three u hover) b k.looks.sized);
          tables = subst (λ (a : Appearance). EachState Tabled 128 a.states) (sym e)
              (a_round_keeps_of_each Tabled 128 (wear_step (pool_of u) (bits_at u hover)) (appearance_of u) (backwards (stated_of u) ++ three u hover) b k.looks.sized (λ _ _ v. v) k.looks.tables);
          well = a_refreshed_tree_is_well u.patch_count (limit_of u) u hover k.links.small k.looks.sized sb k.looks.well;
        };
        stated = record { long = T.long; few = T.few; each_only_once = T.each_only_once };
      }

  -- a pass
  pub a_pass_keeps_the_tree : (v : Viewport) → Kept (with_pass u (passed u.slots u.layout v) v)
  unfolding with_pass
  a_pass_keeps_the_tree v = record {
    links = k.links;
    stated = k.stated;
    pool = k.pool;
    queue = k.queue;
    fields = k.fields;
    looks = record {
      sized = (a_pass_keeps_the_number_of_layout_slots u.slots u.layout v ∙ k.looks.sized.0, k.looks.sized.1);
      tables = k.looks.tables;
      well = k.looks.well;
    };
  }

  pub other_fields_keep_the_tree : (fs : List Field) → FieldsKept fs → Kept (with_fields u fs)
  unfolding with_fields
  other_fields_keep_the_tree fs f = record { links = k.links; looks = k.looks; stated = k.stated; pool = k.pool; queue = k.queue; fields = f }

  pub another_interaction_keeps_the_tree : (a : Interaction) → Kept (with_interaction u a)
  unfolding with_interaction
  another_interaction_keeps_the_tree a = record { links = k.links; looks = k.looks; stated = k.stated; pool = k.pool; queue = k.queue; fields = k.fields }

  pub other_outputs_keep_the_tree : (ds : List NodeId) → length ds ≤ limit_of u → Kept (with_waiting u ds)
  unfolding with_waiting
  other_outputs_keep_the_tree ds b = record {
    links = k.links;
    looks = k.looks;
    stated = k.stated;
    pool = k.pool;
    fields = k.fields;
    queue = record {
      long = let a = length-append ds (drop (length ds) u.outputs) in let c = length-drop (length ds) u.outputs in let l = k.queue.long in let m = k.links.small in omega arith;
      few = b;
    };
  }

  -- a field made
  pub a_field_made_keeps_the_tree : (d : NodeId) → is_live (limit_of u) u.slots d ≡ true → field_of d u.fields ≡ None
      → Kept (with_fields u (claimed d (reclaimed (limit_of u) u.slots u.fields)))
  unfolding empty_field
  a_field_made_keeps_the_tree d live none =
      let R : List Field = reclaimed (limit_of u) u.slots u.fields in
      other_fields_keep_the_tree (claimed d R) (record {
        eight = a_claim_keeps_the_number_of_fields d R ∙ clearing_keeps_the_number_of_fields (limit_of u) u.slots u.fields ∙ k.fields.eight;
        ruled = a_claim_keeps_of_each FieldKept d (a_nodes_new_field_is_ok d, refl) R
            (clearing_keeps_of_each FieldKept (empty_field_keeps_the_rules, refl) (limit_of u) u.slots u.fields k.fields.ruled);
        owners = a_claim_keeps_owners_apart d R
            ((clearing_leaves_a_live_nodes_field (limit_of u) u.slots u.fields d live).1 ∙ who_has_no_field_owns_nothing d u.fields none)
            (clearing_keeps_owners_apart (limit_of u) u.slots u.fields k.fields.owners);
      })

-- ---- what a call gives

pub record Keeps {A : Type 0} (o : Outcome A) : Type 0 where
  pub next_kept : Kept o.next

module _ {u : Ui} (k : Kept u) where
  pub the_same_tree_is_kept : {A : Type 0} {a : Answer A} → Keeps (record { next = u; answer = a })
  the_same_tree_is_kept = record { next_kept = k }

  pub guarded_keeps : {A : Type 0} (none : A) {o : Outcome A} → Keeps o → Keeps (guarded u none o)
  unfolding guarded
  guarded_keeps none x = pick_of Keeps (broken u) (λ _. the_same_tree_is_kept) (λ _. x)

  pub live_keeps : {A : Type 0} (d : NodeId) (none : A) {o : Outcome A} → (is_live (limit_of u) u.slots d ≡ true → Keeps o) → Keeps (on_live u d none o)
  unfolding on_live
  live_keeps d none x = guarded_keeps none (pick_of Keeps (is_live (limit_of u) u.slots d) x (λ _. the_same_tree_is_kept))
