-- After any list of calls from a start each node's text is that of its keys, and if it is confirmed a confirmation stands: by one call more at the
-- list's end. Assumes nothing.
use Rattle.std.specs.Prelude.{None, Some}
use mathlib.Core.Path.{◌≡◌, refl, sym, ap, subst, ◌∙◌}
use mathlib.Core.Bool.{Bool, true, false, not, cond}
use mathlib.Core.List.{List, [], ◌∷◌, ◌++◌, append_assoc, append-nil}
use Prim.Native.Nat.{ℕ, suc, ◌+◌, ◌<◌, ◌^◌}
use native.Mathlib.Omega.{arith}
use lib.ListN.{length, length-append}
use Rattle.field.specs.Text.{Text, text}
use Rattle.field.specs.declared.NodeId.{NodeId}
use Rattle.arithmetic.specs.Tests.{same, all}
use Rattle.arithmetic.proofs.BoolLaws.{and_both, both}
use Rattle.arithmetic.proofs.TestLaws.{bool_cases}
use Rattle.tree.specs.Forest.{Forest, has_id, find}
use Rattle.tree.specs.Nodes.{Info}
use Rattle.tree.specs.declared.Ui.{Ui}
use Rattle.tree.specs.Types.{StartKind}
use Rattle.tree.proofs.Payloads.{AllF}
use Rattle.tree.proofs.Ids.{find_known, find_nothing}
use Rattle.tree.specs.History.{History, Call, start, refusal_of, recorded, key_text, key_changes}
use Rattle.tree.specs.History.Call.{change}
use Rattle.tree.specs.History.Change.{confirm}
use Rattle.desk.specs.Demand3.{step, run, feed, Machines, follow}
use Rattle.desk.specs.Keys.{Log, typed_on, text_of_keys, leave_alone, logged, logs, no_keys}
use Rattle.desk.specs.Corollaries.{new_one, tree_after, history_after, keys_after}
use Rattle.desk.specs.Confirmed.{is_next_ship, Stands}
use Rattle.boxes.specs.declared.Key.{Key}
use Rattle.desk.proofs.Invariant.{Inv}
use Rattle.desk.proofs.AnswerLaws.{Kept}
use Rattle.desk.proofs.CallSteps.{every_call}
use Rattle.desk.proofs.Demand3.{starts}
use Rattle.desk.proofs.KeyLogs.{ByKeys, GoesOn, Tells, no_text_lem, recorded_logged}

-- ---- one call more

run_more : (u : Ui) (cs : List Call) (c : Call) → run u (cs ++ c ∷ []) ≡ (step (run u cs) c).next
run_more u [] c = refl
run_more u (b ∷ cs) c = run_more (step u b).next cs c

follow_more : (u : Ui) (h : History) (cs : List Call) (c : Call)
    → follow h (cs ++ c ∷ []) (feed u (cs ++ c ∷ [])) ≡ recorded (follow h cs (feed u cs)) c (step (run u cs) c).told
follow_more u h [] c = refl
follow_more u h (b ∷ cs) c = follow_more (step u b).next (recorded h b (step u b).told) cs c

-- the keys of an accepted call are logged
abbrev logged_by : History → Call → Log → Log
logged_by h c log = cond (same (refusal_of h c) 0) (logged h c log) log

logs_more : (u : Ui) (h : History) (cs : List Call) (c : Call) (log : Log)
    → logs h (cs ++ c ∷ []) (feed u (cs ++ c ∷ [])) log ≡ logged_by (follow h cs (feed u cs)) c (logs h cs (feed u cs) log)
logs_more u h [] c log = refl
logs_more u h (b ∷ cs) c log = logs_more (step u b).next (recorded h b (step u b).told) cs c (logged_by h b log)

-- ---- keys that leave a text alone

pub typed_on_both : (t : Text) (ks ls : List Key) → typed_on t (ks ++ ls) ≡ typed_on (typed_on t ks) ls
typed_on_both t [] ls = refl
typed_on_both t (k ∷ ks) ls = typed_on_both (key_text k t) ks ls

left_alone_by_one_more : (t : Text) (ks : List Key) (key : Key) → leave_alone t ks ≡ true → key_changes key (typed_on t ks) ≡ false → leave_alone t (ks ++ key ∷ []) ≡ true
left_alone_by_one_more t [] key l e = rw e
left_alone_by_one_more t (k ∷ ks) key l e =
    let b = both (not (key_changes k t)) (leave_alone (key_text k t) ks) l in and_both b.0 (left_alone_by_one_more (key_text k t) ks key b.1 e)

none_in_one_more : (p : Call → Bool) (cs : List Call) (c : Call) → all (λ c. not (p c)) cs ≡ true → p c ≡ false → all (λ c. not (p c)) (cs ++ c ∷ []) ≡ true
none_in_one_more p [] c l e = rw e
none_in_one_more p (b ∷ cs) c l e = let z = both (not (p b)) (all (λ c. not (p c)) cs) l in and_both z.0 (none_in_one_more p cs c z.1 e)

-- ---- a confirmation goes on standing

module _ (kind : StartKind) (limit : ℕ) (cs : List Call) (c : Call) where
  abbrev Before : ℕ → ℕ → ℕ → List Key → Type 0
  Before i g name ks = Stands kind limit cs (record { index = i; generation = g }) name ks

  abbrev After : ℕ → ℕ → ℕ → List Key → Type 0
  After i g name ks = Stands kind limit (cs ++ c ∷ []) (record { index = i; generation = g }) name ks

  goes_on_standing : is_next_ship c ≡ false → GoesOn Before After
  goes_on_standing e = record {
    stays = λ i g name ks s. record {
      before = s.before;
      after = s.after ++ c ∷ [];
      calls_are = ap (λ (l : List Call). l ++ c ∷ []) s.calls_are ∙ append_assoc s.before (change (confirm (record { index = i; generation = g })) ∷ s.after) (c ∷ []);
      was_accepted = s.was_accepted;
      no_next_ship_since = none_in_one_more is_next_ship s.after c s.no_next_ship_since e;
      since = s.since;
      keys_are = s.keys_are;
      text_left_alone = s.text_left_alone;
    };
    keyed = λ i g name ks key s k. record {
      before = s.before;
      after = s.after ++ c ∷ [];
      calls_are = ap (λ (l : List Call). l ++ c ∷ []) s.calls_are ∙ append_assoc s.before (change (confirm (record { index = i; generation = g })) ∷ s.after) (c ∷ []);
      was_accepted = s.was_accepted;
      no_next_ship_since = none_in_one_more is_next_ship s.after c s.no_next_ship_since e;
      since = s.since ++ key ∷ [];
      keys_are = ap (λ (l : List Key). l ++ key ∷ []) s.keys_are ∙ append_assoc (keys_after kind limit s.before name) s.since (key ∷ []);
      text_left_alone =
          let then = keys_after kind limit s.before name in
          left_alone_by_one_more (text_of_keys then) s.since key s.text_left_alone
          (ap (key_changes key) (sym (ap text_of_keys s.keys_are ∙ typed_on_both (text [] []) then s.since)) ∙ k);
    };
  }

  tells : (step (tree_after kind limit cs) c).number ≡ refusal_of (history_after kind limit cs) c → Tells (history_after kind limit cs) (keys_after kind limit cs) c Before After
  tells r = record {
    goes_on = goes_on_standing;
    confirmed_now = λ d e z name. record {
      before = cs;
      after = [];
      calls_are = ap (λ (b : Call). cs ++ b ∷ []) e;
      was_accepted = ap (λ (b : Call). (step (tree_after kind limit cs) b).number) (sym e) ∙ r ∙ z;
      no_next_ship_since = refl;
      since = [];
      keys_are = sym (append-nil (keys_after kind limit cs name));
      text_left_alone = refl;
    };
  }

-- ---- every list

module _ (kind : StartKind) (limit : ℕ) where
  abbrev pub Standing : List Call → ℕ → ℕ → ℕ → List Key → Type 0
  Standing cs i g name ks = Stands kind limit cs (record { index = i; generation = g }) name ks

  abbrev Logged : List Call → Type 0
  Logged cs = AllF (ByKeys (Standing cs) (keys_after kind limit cs)) (history_after kind limit cs).tree

  abbrev Related : List Call → Type 0
  Related cs = Inv (length cs) (tree_after kind limit cs) (history_after kind limit cs)

  one_more : (cs : List Call) (c : Call) → Related cs → Logged cs → Kept (length cs) (tree_after kind limit cs) (history_after kind limit cs) c → Related (cs ++ c ∷ []) × Logged (cs ++ c ∷ [])
  one_more cs c v a q =
      let u = tree_after kind limit cs in
      let h = history_after kind limit cs in
      let l : length (cs ++ c ∷ []) ≡ suc (length cs) = omega (arith, length-append cs (c ∷ [])) in
      let f = follow_more (new_one kind limit cs) (start kind limit) cs c in
      let w = logs_more (new_one kind limit cs) (start kind limit) cs c no_keys in (
        rw (l, run_more (new_one kind limit cs) cs c, f) q.goes_on,
        rw (w, f) (recorded_logged (length cs) u h v (keys_after kind limit cs) (Before kind limit cs c) (After kind limit cs c) a (step u c).told c (tells kind limit cs c q.refused_so)),
      )

  every_list : (cs rest : List Call) → length cs + length rest < 2 ^ 63 → Machines rest → Related cs → Logged cs → Logged (cs ++ rest)
  every_list cs [] n m v a = rw (append-nil cs) a
  every_list cs (c ∷ rest) n m v a =
      let q = one_more cs c v a (every_call v (omega arith) c m.0) in
      let l = length-append cs (c ∷ []) in
      subst Logged (append_assoc cs (c ∷ []) rest) (every_list (cs ++ c ∷ []) rest (omega arith) m.1 q.0 q.1)

  pub all_logged : (cs : List Call) → length cs < 2 ^ 63 → Machines cs → Logged cs
  unfolding start
  all_logged cs n m = every_list [] cs (omega arith) m (starts kind limit) ((λ e q. no_text_lem None e refl q), tt, tt)

-- ---- what holds of the node that an id finds

pub found_holds : (P : ℕ → ℕ → Info → Type 0) (d : NodeId) (f : Forest Info) → AllF P f → (x : Info) → find d f ≡ Some x → P d.index d.generation x
found_holds P d f a x e =
    bool_cases (has_id d f)
    (λ b. let K = find_known P d f a b in
    let q : Some K.load ≡ Some x = sym K.found ∙ e in
    let r : K.load ≡ x = cc in
    subst (λ (y : Info). P d.index d.generation y) r K.holds)
    (λ b. let q : None ≡ Some x = sym (find_nothing d f b) ∙ e in
    let z : ◌≡◌ {A = ℕ} 0 1 = cc in absurd (omega arith))
