-- The new tree of n slots, wherever its pointer is, has every part: the root alone, named first, its slots, layout, states and fields as new. Assumes nothing.
use Rattle.std.specs.Prelude.{Option}
use Rattle.boxes.specs.declared.Pixel.{Pixel}
use mathlib.Core.Path.{◌≡◌, refl, sym}
use mathlib.Core.List.{List, [], ◌∷◌}
use Prim.Native.Nat.{ℕ, zero, suc, ◌+◌, ◌-◌, ◌≤◌, ◌<◌}
use native.Mathlib.Omega.{arith}
use lib.ListN.{get_or, replicate, length-replicate, get_or-replicate}
use Rattle.field.specs.Fields.{empty_field}
use Rattle.field.specs.declared.NodeId.{NodeId}
use Rattle.field.proofs.Laws.{empty_field_keeps_the_rules}
use Rattle.arithmetic.specs.Tests.{from_to}
use Rattle.arena.specs.Forest.{Forest, nil, node}
use Rattle.boxes.specs.Nodes.{Info, new_info}
use Rattle.arena.specs.Slots.{Slots, at, nobody}
use Rattle.boxes.specs.Styles.{fresh_layout, fresh_state, fresh_style, no_state, layout_at, state_at}
use Rattle.arena.specs.Fields.{field_of}
use Rattle.arena.specs.Rules.{distinct, owners_well}
use Rattle.tree.specs.Calls.{fresh}
use Rattle.arithmetic.proofs.TestLaws.{δ-refl}
use Rattle.arena.proofs.Forests.ForestLaws.{cnt}
use Rattle.arena.proofs.Forests.Starts.{start_rel, start_generations, start_root_generation}
use Rattle.boxes.proofs.Styles.WearLaws.{a_fresh_table_has_no_patch}
use Rattle.tree.proofs.WellLaws.{a_bare_slot_is_well}
use Rattle.tree.proofs.Relation.{Ruled, AllFields, Links, Naming, Styled, Pool, Texts, Queue}

abbrev pub only_root : Forest Info
only_root = node 0 1 (new_info 0) nil nil

abbrev pub only_name : List NodeId
only_name = (record { index = 0; generation = 1 }) ∷ []

all_states_are_fresh : (j : ℕ) → j < 128 → state_at (replicate 128 fresh_state) j ≡ fresh_state
unfolding state_at
all_states_are_fresh j h = get_or-replicate 128 j fresh_state no_state h

the_roots_layout_is_fresh : layout_at (replicate 128 fresh_layout) 0 ≡ fresh_layout
unfolding layout_at
the_roots_layout_is_fresh = refl

empty_fields_are_ruled : (s : Slots) (t : Forest Info) (m : ℕ) → AllFields (Ruled s t) (replicate m empty_field)
unfolding empty_field
empty_fields_are_ruled s t zero = tt
empty_fields_are_ruled s t (suc m) = ((empty_field_keeps_the_rules, refl, tt), empty_fields_are_ruled s t m)

module _ (p : Option Pixel) (n : ℕ) (l : 1 ≤ n) (h : n ≤ 128) where
  pub start_has_links : Links 0 (fresh p n) only_root
  unfolding fresh
  start_has_links = record { chain = from_to 1 (n - 1); rel = start_rel n (new_info 0) l h; count = refl; young = start_generations n }

  pub start_has_names : Naming (fresh p n).slots only_root only_name
  unfolding fresh
  start_has_names = record {
    own = ((omega arith, refl), tt, tt);
    old = λ m b. go m b;
    apart = λ m m' b b' e. omega arith;
  }
    where
      go : (m : ℕ) → m < 1 → (get_or only_name m nobody).generation < (at (fresh p n).slots (get_or only_name m nobody).index).generation + cnt (get_or only_name m nobody).index only_root
      go zero b = let e = start_root_generation n in let q = δ-refl 0 in omega arith
      go (suc m) b = absurd (omega arith)

  pub start_has_styling : Styled (fresh p n) only_root
  unfolding fresh distinct
  start_has_styling = record {
    sized = (length-replicate 128 fresh_layout, length-replicate 128 fresh_state);
    worn = ((rw the_roots_layout_is_fresh, all_states_are_fresh 0 (omega arith)), tt, tt);
    tables = (sym (a_fresh_table_has_no_patch 0), tt, tt);
    boxed = (rw the_roots_layout_is_fresh, tt, tt);
    with_bits = ((λ b. absurd (omega arith)), tt, tt);
    dead = λ j b _. all_states_are_fresh j b;
    stated_long = refl;
    stated_few = omega arith;
    stated_once = refl;
    well = λ j b. rw (all_states_are_fresh j (omega arith)) (a_bare_slot_is_well 0 fresh_style);
  }

  pub start_has_a_pool : Pool (fresh p n)
  unfolding fresh
  start_has_a_pool = record { long = refl; few = omega arith }

  pub start_has_texts : Texts (fresh p n).slots (fresh p n).fields only_root
  unfolding fresh owners_well field_of empty_field
  start_has_texts = record {
    eight = refl;
    ruled = empty_fields_are_ruled (fresh p n).slots only_root 8;
    owners = refl;
    texts = (refl, tt, tt);
  }

  pub start_has_a_queue : Queue (fresh p n)
  unfolding fresh
  start_has_a_queue = record { long = length-replicate 128 nobody; few = omega arith }
