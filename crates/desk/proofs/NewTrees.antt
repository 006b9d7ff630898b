-- The new tree of either start is not broken, and the two share all but the pointer. So no call after a start is refused by 1, however many there are. Assumes nothing.
use Rattle.std.specs.Prelude.{Option}
use mathlib.Core.Path.{◌≡◌, refl, sym, subst, ◌∙◌}
use mathlib.Core.Bool.{Bool, true, false}
use mathlib.Core.List.{List, [], ◌∷◌}
use Prim.Native.Nat.{ℕ, zero, suc}
use lib.Dec.{ltb}
use lib.ListN.{length, replicate}
use Rattle.arithmetic.specs.Tests.{same, all}
use Rattle.arithmetic.proofs.TestLaws.{same_refl, bool_cases}
use Rattle.tree.specs.Styles.{fresh_state}
use Rattle.tree.specs.Broken.{broken}
use Rattle.tree.specs.Trees.{with_interaction}
use Rattle.tree.specs.Calls as tree
use Rattle.tree.specs.Calls.{fresh}
use Rattle.tree.specs.Types.{StateSlot, Pixel}
use Rattle.tree.specs.Pointers.{first_pointer}
use Rattle.tree.specs.History.{Call, limit_from}
use Rattle.tree.specs.declared.Ui.{Ui}
use Rattle.arithmetic.proofs.BoolLaws.{no_more}
use Rattle.tree.proofs.Relation.{what_follows_of_each}
use Rattle.tree.proofs.KeptTrees.{FieldKept, Kept, a_kept_tree_is_not_broken}
use Rattle.desk.specs.Demand3.{step, numbers, Machines}
use Rattle.desk.specs.CallLaws.{MachineTree, TheNewTreeIsNotBroken, TheStartsShareAllButThePointer}
use Rattle.desk.specs.Corollaries.{NeverOne}
use Rattle.desk.proofs.AnswerLaws.{sound}
use Rattle.desk.proofs.Demand3.{new_is_fresh, starts}
use Rattle.desk.proofs.CallLaws.{only_a_broken_tree_is_refused_by_1}
use Rattle.desk.proofs.NotBrokenStays.{all_bytes, kept_if_not_broken, call_keeps}

all_of_one : {A : Type 0} (p : A → Bool) (x : A) (n : ℕ) → p x ≡ true → all p (replicate n x) ≡ true
all_of_one p x zero e = refl
all_of_one p x (suc n) e = rw e (all_of_one p x n e)

fresh_tables : (p : Option Pixel) (n : ℕ) → all (λ (s : StateSlot). same (length s.table) 16) (fresh p n).states ≡ true
unfolding fresh
fresh_tables p n = all_of_one (λ (s : StateSlot). same (length s.table) 16) fresh_state 128 (same_refl 16)

pub the_new_tree_is_not_broken : TheNewTreeIsNotBroken
the_new_tree_is_not_broken kind limit =
    let u : Ui = (tree.new_tree kind limit).next in
    let v = starts kind limit in (
      record {
        slots = v.nodes.links.rel.len;
        layout = v.styling.styled.sized.0;
        states = v.styling.styled.sized.1;
        tables = subst (λ (w : Ui). all (λ (s : StateSlot). same (length s.table) 16) w.states ≡ true) (sym (new_is_fresh kind limit)) (fresh_tables (first_pointer kind) (limit_from limit));
        patches = v.styling.pool.long;
        stated = v.styling.styled.stated_long;
        outputs = v.queue.long;
        fields = v.nodes.texts.eight;
        bytes = all_bytes u.fields (what_follows_of_each {Q = FieldKept} (λ f r. (r.0, r.1)) u.fields v.nodes.texts.ruled);
      },
      sound v,
    )

pub the_starts_share_all_but_the_pointer : TheStartsShareAllButThePointer
unfolding tree.new_tree fresh with_interaction
the_starts_share_all_but_the_pointer limit = bool_cases (ltb 128 limit) (λ b. rw b (refl, refl)) (λ b. rw b (refl, refl))

-- of any tree that is not broken
pub no_call_is_refused_by_1 : (u : Ui) (cs : List Call) → MachineTree u → broken u ≡ false → Machines cs → NeverOne (numbers u cs)
no_call_is_refused_by_1 u cs l b m = go u cs (kept_if_not_broken u l b) m
  where
    go : (w : Ui) (ds : List Call) → Kept w → Machines ds → NeverOne (numbers w ds)
    go w [] k m = tt
    go w (d ∷ ds) k m =
        ((λ e. no_more (sym (a_kept_tree_is_not_broken k) ∙ only_a_broken_tree_is_refused_by_1 w d e)), go (step w d).next ds (call_keeps k d m.0) m.1)
