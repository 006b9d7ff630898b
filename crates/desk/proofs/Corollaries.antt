-- What follows from demand 3, as specs/Corollaries.antt states it. Assumes nothing.
use Rattle.std.specs.Prelude.{None, Option, Some}
use mathlib.Core.Path.{◌≡◌, refl, ap, ◌∙◌}
use mathlib.Core.Bool.{true}
use mathlib.Core.List.{List, [], ◌∷◌}
use Prim.Native.Nat.{ℕ, ◌<◌, ◌^◌}
use native.Mathlib.Omega.{arith}
use lib.ListN.{length}
use Rattle.text.specs.Refusal.{Answer, accepted, refused}
use Rattle.text.specs.declared.refusal.Refusal.TheVariants.{Empty}
use Rattle.text.specs.Utf8.{encoded_all}
use Rattle.field.specs.Text.{Text, text, bytes_of, caret_of, typed, keyed}
use Rattle.field.specs.Metres.{is_space, metres_of}
use Rattle.field.proofs.Blanks.{Blank, typed_blank, keyed_blank, blank_is_empty}
use Rattle.field.specs.declared.NodeId.{NodeId}
use Rattle.arithmetic.specs.Tests.{all}
use Rattle.tree.specs.Forest.{find}
use Rattle.tree.specs.Nodes.{Info}
use Rattle.tree.specs.Calls as tree
use Rattle.tree.specs.Types.{StartKind}
use Rattle.tree.specs.Pointers.{first_pointer}
use Rattle.arithmetic.proofs.BoolLaws.{both}
use Rattle.tree.specs.Fields.{no_text}
use Rattle.desk.specs.Events as desk
use Rattle.tree.specs.History.{Input, Call, id_named, start, padded, of_marked, of_node, text_said, caret_said, metres_said}
use Rattle.desk.specs.Demand3.{feed, Machines}
use Rattle.desk.specs.Keys.{typed_on, text_of_keys, is_blank, no_keys}
use Rattle.desk.specs.Corollaries.{new_one, tree_after, history_after, keys_after, HasField, Corollaries}
use Rattle.boxes.specs.declared.Key.{Key}
use Rattle.boxes.specs.declared.Key.TheVariants.{Char, Op}
use Rattle.desk.proofs.Demand3.{demand_3}
use Rattle.desk.proofs.FirstMoves.{untouched, nothing_is_touched}
use Rattle.field.specs.Marks.{Marked}
use Rattle.desk.proofs.KeyLogs.{ByKeys}
use Rattle.desk.proofs.Standing.{Standing, all_logged, found_holds}
use Rattle.desk.proofs.NewTrees.{the_new_tree_is_not_broken, no_call_is_refused_by_1}

-- keys that type only spaces leave a text of spaces
keys_blank : (ks : List Key) (t : Text) → all is_blank ks ≡ true → Blank t → Blank (typed_on t ks)
keys_blank [] t b k = k
keys_blank (Char c ∷ ks) t b k = let m = both (is_space c) (all is_blank ks) b in keys_blank ks (typed c t) m.1 (typed_blank c m.0 t k)
keys_blank (Op op ∷ ks) t b k = keys_blank ks (keyed op t) b (keyed_blank op t k)

module _ (kind : StartKind) (limit : ℕ) (cs : List Call) (n : length cs < 2 ^ 63) (m : Machines cs) where
  -- a node that has a field has the text of its keys
  pub text_of_keys_lem : (d : NodeId) (x : Info) → HasField kind limit cs d x → (o : Option Marked) → x.marked ≡ o
      → (e : Marked) × (x.marked ≡ Some e) × ByKeys (Standing kind limit cs) (keys_after kind limit cs) d.index d.generation x
  text_of_keys_lem d x f None e = let b = f.1 in let z : ◌≡◌ {A = ℕ} 0 1 = cc in absurd (omega arith)
  text_of_keys_lem d x f (Some y) e = (y, e, found_holds (ByKeys (Standing kind limit cs) (keys_after kind limit cs)) d (history_after kind limit cs).tree (all_logged kind limit cs n m) x f.0)

  -- what is said of a field is said of the text of its keys
  of_keys : {A : Type 0} (none : A) (read : Text → Answer A) (d : NodeId) (x : Info) → HasField kind limit cs d x
      → of_node none (λ y. of_marked none (λ e. read e.text) y.marked) (find d (history_after kind limit cs).tree) ≡ read (text_of_keys (keys_after kind limit cs x.name))
  of_keys none read d x f = let w = text_of_keys_lem d x f x.marked refl in rw (f.0, w.1) (ap read (w.2 w.0 w.1).0)

pub corollaries : Corollaries
unfolding first_pointer start text_said caret_said metres_said bytes_of caret_of encoded_all
corollaries kind limit l cs n m =
    let h = demand_3 kind limit l cs n m in
    let a = h.agree in
    let text' : (d : NodeId) (x : Info) → HasField kind limit cs d x → (tree.field_text (tree_after kind limit cs) d).answer ≡ accepted (padded (text_of_keys (keys_after kind limit cs x.name))) =
    λ d x f. a.text_is d ∙ of_keys kind limit cs n m no_text (λ t. accepted (padded t)) d x f in
    let caret' : (d : NodeId) (x : Info) → HasField kind limit cs d x → (tree.field_cursor (tree_after kind limit cs) d).answer ≡ accepted (caret_of (text_of_keys (keys_after kind limit cs x.name))) =
    λ d x f. a.caret_is d ∙ of_keys kind limit cs n m 0 (λ t. accepted (caret_of t)) d x f in
    let metres' : (d : NodeId) (x : Info) → HasField kind limit cs d x → (desk.metres (tree_after kind limit cs) d).answer ≡ metres_of (bytes_of (text_of_keys (keys_after kind limit cs x.name))) =
    λ d x f. a.metres_are d ∙ of_keys kind limit cs n m 0 (λ t. metres_of (bytes_of t)) d x f in
    let spaces' : (d : NodeId) (x : Info) → HasField kind limit cs d x → all is_blank (keys_after kind limit cs x.name) ≡ true → (desk.metres (tree_after kind limit cs) d).answer ≡ refused Empty 0 =
    λ d x f b. let ks = keys_after kind limit cs x.name in metres' d x f ∙ blank_is_empty (text_of_keys ks) (keys_blank ks (text [] []) b (refl, refl)) in
    record {
      no_id_is_given_twice = h.ids_differ;
      number_1_never_comes = let w = the_new_tree_is_not_broken kind limit in no_call_is_refused_by_1 (new_one kind limit cs) cs w.0 w.1 m;
      a_text_is_its_keys = text';
      a_caret_is_its_keys = caret';
      metres_are_of_its_keys = metres';
      an_untouched_field_is_empty = λ d x f e. (
        text' d x f ∙ ap (λ (ks : List Key). accepted (padded (text_of_keys ks))) e,
        caret' d x f ∙ ap (λ (ks : List Key). accepted (caret_of (text_of_keys ks))) e,
        spaces' d x f (ap (all is_blank) e),
      );
      a_field_of_spaces_is_empty = spaces';
      nothing_is_hit_before_a_move = λ e s.
          let first : (start kind limit).input ≡ untouched = ap (λ (k : StartKind). (start k limit).input) e in
          let t = nothing_is_touched (start kind limit) cs (feed (new_one kind limit cs) cs) no_keys first (λ name. refl) s in
          let names = (history_after kind limit cs).named in
          (a.press_is ∙ ap (λ (i : Input). id_named names i.pressed) t.0, a.focus_is ∙ ap (λ (i : Input). id_named names i.focus) t.0, t.1);
    }
