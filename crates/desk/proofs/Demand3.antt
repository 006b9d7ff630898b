-- Demand 3 holds: the invariant holds at the start and after every call, and gives what the calls answer. Assumes nothing.
use mathlib.Core.Path.{◌≡◌, refl, sym, ap, ap₂, subst, ◌∙◌}
use mathlib.Core.Bool.{Bool, true, false, ◌&&◌, not, cond}
use mathlib.Core.List.{List, [], ◌∷◌, ◌++◌, append_assoc, append-nil}
use Prim.Native.Nat.{ℕ, zero, suc, ◌+◌, ◌≤◌, ◌<◌, ◌^◌}
use native.Mathlib.Omega.{arith}
use borrow.Author.Tests.{ltb-false}
use lib.Dec.{ltb}
use lib.ListN.{length, get_or}
use Rattle.field.specs.declared.NodeId.{NodeId}
use Rattle.arithmetic.specs.Tests.{same}
use Rattle.tree.specs.Calls as tree
use Rattle.tree.specs.Calls.{fresh}
use Rattle.tree.specs.declared.Ui.{Ui}
use Rattle.tree.specs.Types.{StartKind}
use Rattle.tree.specs.Pointers.{first_pointer}
use Rattle.arithmetic.proofs.TestLaws.{bool_cases, eq_cases}
use Rattle.tree.proofs.Starts.{start_root_generation}
use Rattle.tree.proofs.StartParts.{start_has_links, start_has_names, start_has_styling, start_has_a_pool, start_has_texts, start_has_a_queue}
use Rattle.tree.specs.History.{History, Call, Change, limit_from, start, refusal_of, after_change, accept, recorded, grown, refresh, after_event}
use Rattle.tree.specs.History.Call.{insert, change, ask}
use Rattle.tree.specs.History.Change.{remove, set_style, set_state_table, set_patch_pool, make_field, solve, handle, next_output, confirm, next_ship}
use Rattle.desk.specs.Demand3.{step, run, numbers, feed, id_given, given, Machines, follow, refusals, Others, Distinct, HoldsFrom, Demand3}
use Rattle.boxes.specs.declared.UiEvent.{UiEvent}
use Rattle.boxes.specs.declared.UiEvent.TheVariants.{PointerMoved, PointerPressed, PointerReleased, TextEntered, Edit}
use Rattle.desk.proofs.Invariant.{Inv}
use Rattle.desk.proofs.NameLaws.{id_cases}
use Rattle.desk.proofs.AnswerLaws.{Kept}
use Rattle.desk.proofs.ReadSteps.{agrees}
use Rattle.desk.proofs.CallSteps.{every_call}
use Rattle.tree.specs.Slots.{nobody}
use Rattle.tree.specs.Layout.{same_view}

-- ---- the start

limit_in_range : (limit : ℕ) → (1 ≤ limit_from limit) × (limit_from limit ≤ 128)
unfolding limit_from
limit_in_range limit =
    bool_cases (ltb 128 limit)
    (λ b. rw b (omega arith, omega arith))
    (λ b. let l = ltb-false 128 limit b in
    eq_cases limit 0 (λ e s _. rw (b, s) (omega arith, omega arith)) (λ e s _. rw (b, s) (nonzero limit e, l)))
  where
    nonzero : (n : ℕ) → (n ≡ 0 → ⊥) → 1 ≤ n
    nonzero zero e = absurd (e refl)
    nonzero (suc n) e = omega arith

pub new_is_fresh : (kind : StartKind) (limit : ℕ) → (tree.new_tree kind limit).next ≡ fresh (first_pointer kind) (limit_from limit)
unfolding tree.new_tree limit_from
new_is_fresh kind limit = bool_cases (ltb 128 limit) (λ b. rw b) (λ b. rw b)

starts_fresh : (kind : StartKind) (limit : ℕ) → Inv 0 (fresh (first_pointer kind) (limit_from limit)) (start kind limit)
unfolding start fresh
starts_fresh kind limit =
    let p = first_pointer kind in
    let n = limit_from limit in
    let r = limit_in_range limit in
    record {
      nodes = record {
        links = start_has_links p n r.0 r.1;
        naming = start_has_names p n r.0 r.1;
        texts = start_has_texts p n r.0 r.1;
        root_is = start_root_generation n;
        limit_is = refl;
      };
      styling = record { styled = start_has_styling p n r.0 r.1; pool = start_has_a_pool p n r.0 r.1; pool_is = refl; view_is = refl; dirty_is = refl };
      input = record { pointer_is = refl; pressed = record { is_the_id = refl; is_in = tt }; focus = record { is_the_id = refl; is_in = tt } };
      queue = start_has_a_queue p n r.0 r.1;
    }

pub starts : (kind : StartKind) (limit : ℕ) → Inv 0 (tree.new_tree kind limit).next (start kind limit)
starts kind limit = subst (λ (u : Ui). Inv 0 u (start kind limit)) (sym (new_is_fresh kind limit)) (starts_fresh kind limit)

-- ---- the names that were made are the ids that were given

event_keeps_names : (h : History) (e : UiEvent) → (after_event h e).named ≡ h.named
event_keeps_names h (PointerMoved x y) = refl
event_keeps_names h PointerPressed = refl
event_keeps_names h PointerReleased = refl
event_keeps_names h (TextEntered ch) = refl
event_keeps_names h (Edit op) = refl

refresh_keeps_names : (h : History) → (refresh h).named ≡ h.named
unfolding refresh
refresh_keeps_names h = refl

change_keeps_names : (h : History) (c : Change) → (after_change h c).named ≡ h.named
change_keeps_names h (remove d) = refl
change_keeps_names h (set_style d s) = refl
change_keeps_names h (set_state_table d table) = refl
change_keeps_names h (set_patch_pool patches count) = refl
change_keeps_names h (make_field d) = refl
change_keeps_names h (solve w) = bool_cases (not h.styling.dirty && same_view h.styling.viewport w) (λ b. rw b) (λ b. rw b)
change_keeps_names h (handle e) = refresh_keeps_names (after_event h e) ∙ event_keeps_names h e
change_keeps_names h next_output = refl
change_keeps_names h (confirm d) = refl
change_keeps_names h next_ship = refl

-- a call that was refused alike adds the id that it gave
recorded_names : (u : Ui) (h : History) (c : Call) → (step u c).number ≡ refusal_of h c → (recorded h c (step u c).told).named ≡ h.named ++ id_given c (step u c)
unfolding recorded accept grown
recorded_names u h (insert d) e = rw (← e) (go (same (step u (insert d)).number 0))
  where
    go : (b : Bool) → (cond b (grown h d (step u (insert d)).told) h).named ≡ h.named ++ cond b ((step u (insert d)).told ∷ []) []
    go true = refl
    go false = sym (append-nil h.named)
recorded_names u h (change c) e =
    bool_cases (same (refusal_of h (change c)) 0) (λ b. rw b (change_keeps_names h c ∙ sym (append-nil h.named))) (λ b. rw b (sym (append-nil h.named)))
recorded_names u h (ask q) e =
    bool_cases (same (refusal_of h (ask q)) 0) (λ b. rw b (sym (append-nil h.named))) (λ b. rw b (sym (append-nil h.named)))

-- ---- the list

-- a list of calls: refused alike, related at its end, and each id given has a name
pub record Followed (k : ℕ) (u : Ui) (h : History) (cs : List Call) : Type 0 where
  pub alike : numbers u cs ≡ refusals h cs (feed u cs)
  pub ends : Inv (k + length cs) (run u cs) (follow h cs (feed u cs))
  pub names : (follow h cs (feed u cs)).named ≡ h.named ++ given u cs

pub follows : (k : ℕ) (u : Ui) (h : History) (cs : List Call) → Inv k u h → k + length cs < 2 ^ 63 → Machines cs → Followed k u h cs
follows k u h [] v small m = record {
  alike = refl;
  ends = let e : k + 0 ≡ k = omega arith in rw e v;
  names = sym (append-nil h.named);
}
follows k u h (c ∷ cs) v small m =
    let s = step u c in
    let q : Kept k u h c = every_call v (omega arith) c m.0 in
    let r : Followed (suc k) s.next (recorded h c s.told) cs = follows (suc k) s.next (recorded h c s.told) cs q.goes_on (omega arith) m.1 in
    record {
      alike = ap₂ (λ (n : ℕ) (ns : List ℕ). n ∷ ns) q.refused_so r.alike;
      ends = let e : k + suc (length cs) ≡ suc k + length cs = omega arith in rw e r.ends;
      names =
          r.names
          ∙ ap (λ (l : List NodeId). l ++ given s.next cs) (recorded_names u h c q.refused_so)
          ∙ append_assoc h.named (id_given c s) (given s.next cs);
    }

-- ---- no id was given twice

apart_is_distinct : (l : List NodeId) → ((m m' : ℕ) → m < length l → m' < length l → get_or l m nobody ≡ get_or l m' nobody → m ≡ m') → Distinct l
apart_is_distinct [] h = tt
apart_is_distinct (d ∷ ds) h =
    (others ds (λ j b e. let z = h 0 (suc j) (omega arith) (omega arith) e in omega arith), apart_is_distinct ds (λ m m' b b' e. let z = h (suc m) (suc m') (omega arith) (omega arith) e in omega arith))
  where
    others : (es : List NodeId) → ((j : ℕ) → j < length es → d ≡ get_or es j nobody → ⊥) → Others d es
    others [] q = tt
    others (e ∷ es) q =
        (id_cases d e (λ r _. absurd (q 0 (omega arith) r)) (λ _ s. s), others es (λ j b r. q (suc j) (omega arith) r))

-- ---- the theorem

pub holds_from : HoldsFrom Inv
holds_from k u h v cs small m =
    let r : Followed k u h cs = follows k u h cs v small m in
    record {
      refused_alike = r.alike;
      ids_differ = apart_is_distinct (h.named ++ given u cs) (subst (λ (ds : List NodeId). (i j : ℕ) → i < length ds → j < length ds → get_or ds i nobody ≡ get_or ds j nobody → i ≡ j) r.names r.ends.nodes.naming.apart);
      agree = agrees r.ends;
    }

pub demand_3 : Demand3
demand_3 kind limit l cs n m = holds_from 0 (tree.new_tree kind limit).next (start kind limit) (starts kind limit) cs (omega arith) m
