-- The link rules taken apart: a tree is not broken just where it keeps each of them. Assumes nothing.
use mathlib.Core.Path.{◌≡◌, refl, sym}
use mathlib.Core.Bool.{Bool, true, false, ◌&&◌, not}
use Prim.Native.Nat.{◌≤◌}
use borrow.Author.Tests.{leb-true, le-leb}
use lib.Dec.{leb}
use lib.ListN.{take}
use Rattle.field.specs.Fields.{field_ok}
use Rattle.arithmetic.specs.Tests.{all}
use Rattle.arena.specs.Rules.{linked, distinct, owners_well}
use Rattle.boxes.specs.States.{state_well}
use Rattle.tree.specs.Broken.{broken, links_well}
use Rattle.tree.specs.Trees.{limit_of, stated_of}
use Rattle.tree.specs.declared.Ui.{Ui}
use Rattle.arithmetic.proofs.BoolLaws.{no_more}

pub record Rules (u : Ui) : Type 0 where
  pub some_nodes : 1 ≤ limit_of u
  pub few_nodes : limit_of u ≤ 128
  pub few_patches : u.patch_count ≤ 64
  pub links : linked (limit_of u) u.slots u.free u.live ≡ true
  pub states : all (state_well u.patch_count) (take (limit_of u) u.states) ≡ true
  pub few_stated : u.stated_count ≤ 3
  pub stated_once : distinct (limit_of u) (stated_of u) ≡ true
  pub few_waiting : u.output_count ≤ limit_of u
  pub owners : owners_well u.fields ≡ true
  pub fields : all field_ok u.fields ≡ true

ten : (a b c d e f g h i j : Bool) → not ((a && b) && (c && (d && (e && (f && (g && (h && (i && j)))))))) ≡ false
    → (a ≡ true) × (b ≡ true) × (c ≡ true) × (d ≡ true) × (e ≡ true) × (f ≡ true) × (g ≡ true) × (h ≡ true) × (i ≡ true) × (j ≡ true)
ten true true true true true true true true true true z = (refl, refl, refl, refl, refl, refl, refl, refl, refl, refl)
ten true true true true true true true true true false z = no_more (sym z)
ten true true true true true true true true false j z = no_more (sym z)
ten true true true true true true true false i j z = no_more (sym z)
ten true true true true true true false h i j z = no_more (sym z)
ten true true true true true false g h i j z = no_more (sym z)
ten true true true true false f g h i j z = no_more (sym z)
ten true true true false e f g h i j z = no_more (sym z)
ten true true false d e f g h i j z = no_more (sym z)
ten true false c d e f g h i j z = no_more (sym z)
ten false b c d e f g h i j z = no_more (sym z)

pub a_tree_not_broken_keeps_each_rule : (u : Ui) → broken u ≡ false → Rules u
unfolding broken links_well
a_tree_not_broken_keeps_each_rule u b =
    let q = ten (leb 1 (limit_of u)) (leb (limit_of u) 128) (leb u.patch_count 64) (linked (limit_of u) u.slots u.free u.live)
    (all (state_well u.patch_count) (take (limit_of u) u.states)) (leb u.stated_count 3) (distinct (limit_of u) (stated_of u))
    (leb u.output_count (limit_of u)) (owners_well u.fields) (all field_ok u.fields) b in
    record {
      some_nodes = leb-true 1 (limit_of u) q.0;
      few_nodes = leb-true (limit_of u) 128 q.1;
      few_patches = leb-true u.patch_count 64 q.2;
      links = q.3;
      states = q.4;
      few_stated = leb-true u.stated_count 3 q.5;
      stated_once = q.6;
      few_waiting = leb-true u.output_count (limit_of u) q.7;
      owners = q.8;
      fields = q.9;
    }

pub a_tree_that_keeps_each_rule_is_not_broken : (u : Ui) → Rules u → broken u ≡ false
unfolding broken links_well
a_tree_that_keeps_each_rule_is_not_broken u r =
    rw (
      le-leb 1 (limit_of u) r.some_nodes,
      le-leb (limit_of u) 128 r.few_nodes,
      le-leb u.patch_count 64 r.few_patches,
      r.links,
      r.states,
      le-leb u.stated_count 3 r.few_stated,
      r.stated_once,
      le-leb u.output_count (limit_of u) r.few_waiting,
      r.owners,
      r.fields,
    )
