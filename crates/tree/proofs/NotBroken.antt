-- A tree of which the parts hold keeps the link rules, one by one, so that no call refuses it as broken. Assumes nothing.
use mathlib.Core.Path.{◌≡◌}
use mathlib.Core.Bool.{true, false}
use mathlib.Core.List.{List}
use Prim.Native.Nat.{ℕ}
use native.Mathlib.Omega.{arith}
use Rattle.field.specs.Fields.{field_ok}
use Rattle.field.specs.declared.Field.{Field}
use Rattle.arithmetic.specs.Tests.{all}
use Rattle.arena.specs.Forest.{Forest}
use Rattle.boxes.specs.Nodes.{Info}
use Rattle.arena.specs.Slots.{Slots}
use Rattle.tree.specs.Broken.{broken}
use Rattle.tree.specs.Trees.{limit_of}
use Rattle.tree.specs.declared.Ui.{Ui}
use Rattle.arena.proofs.Checks.RuleLaws.{links_are_well}
use Rattle.tree.proofs.RuleParts.{a_tree_that_keeps_each_rule_is_not_broken}
use Rattle.tree.proofs.WellLaws.{states_well_together}
use Rattle.tree.proofs.FieldLaws.{a_test_of_each_is_of_all}
use Rattle.arena.proofs.Forests.Ids.{limit_is_positive}
use Rattle.tree.proofs.Relation.{Ruled, AllFields, Links, Styled, Pool, Texts, Queue, what_follows_of_each}

pub ruled_fields_keep_the_rules : (s : Slots) (t : Forest Info) (fs : List Field) → AllFields (Ruled s t) fs → all field_ok fs ≡ true
ruled_fields_keep_the_rules s t fs q = a_test_of_each_is_of_all field_ok fs (what_follows_of_each {P = Ruled s t} {Q = λ f. field_ok f ≡ true} (λ f r. r.0) fs q)

pub not_broken : {k : ℕ} {u : Ui} {t : Forest Info} → Links k u t → Styled u t → Pool u → Texts u.slots u.fields t → Queue u → broken u ≡ false
not_broken {k} {u} {t} L D P X Q =
    let sm = L.rel.small in
    let ls = D.sized.1 in
    a_tree_that_keeps_each_rule_is_not_broken u (record {
      some_nodes = limit_is_positive L.rel;
      few_nodes = sm;
      few_patches = P.few;
      links = links_are_well (limit_of u) u.slots u.free u.live t L.chain L.rel L.count;
      states = states_well_together u.patch_count (limit_of u) u.states (omega arith) D.well;
      few_stated = D.stated_few;
      stated_once = D.stated_once;
      few_waiting = Q.few;
      owners = X.owners;
      fields = ruled_fields_keep_the_rules u.slots t u.fields X.ruled;
    })
