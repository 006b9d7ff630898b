-- What the ramp and the office get, as specs/Confirmed.antt states it. Assumes nothing.
use Rattle.std.specs.Prelude.{Some}
use mathlib.Core.Path.{◌≡◌, refl, sym, ap, subst, ◌∙◌}
use mathlib.Core.Bool.{Bool, true, false, ◌&&◌, ◌||◌, not}
use mathlib.Core.List.{List, [], ◌∷◌, ◌++◌}
use Prim.Native.Nat.{ℕ}
use native.Mathlib.Omega.{arith}
use Rattle.text.specs.Refusal.{Answer, accepted, refused}
use Rattle.text.specs.declared.refusal.Refusal.TheVariants.{Unconfirmed}
use Rattle.field.specs.Text.{Text, text, bytes_of, caret_of}
use Rattle.field.specs.Metres.{metres_of}
use Rattle.field.specs.Marks.{Marked}
use Rattle.field.specs.Fields.{view_by, metres_of_view}
use Rattle.field.specs.declared.NodeId.{NodeId}
use Rattle.field.specs.declared.Mark.{Mark}
use Rattle.field.specs.declared.Mark.TheVariants.{Untouched, Typed, Confirmed}
use Rattle.field.proofs.Laws.{what_takes_nothing_keeps_the_bytes, what_goes_not_in_keeps_the_bytes}
use Rattle.arithmetic.specs.Tests.{same, all}
use Rattle.arithmetic.proofs.BoolLaws.{no_more, both}
use Rattle.arithmetic.proofs.TestLaws.{bool_cases, same_yes}
use Rattle.tree.specs.Nodes.{Info}
use Rattle.tree.specs.Fields.{ShownMarked}
use Rattle.tree.specs.Types.{StartKind}
use Rattle.tree.proofs.FieldLaws.{an_id_is_itself}
use Rattle.tree.specs.History.{Call, key_text, key_changes, padded, padded_marked, confirmed_said, marked_said}
use Rattle.tree.specs.History.Call.{change}
use Rattle.tree.specs.History.Change.{confirm, next_ship}
use Rattle.boxes.specs.declared.Key.{Key}
use Rattle.boxes.specs.declared.Key.TheVariants.{Char, Op}
use Rattle.desk.specs.Marks as marks
use Rattle.desk.specs.Demand3.{step, run, Agree}
use Rattle.desk.specs.Keys.{typed_on, text_of_keys, leave_alone}
use Rattle.tree.specs.declared.Ui.{Ui}
use Rattle.desk.specs.Corollaries.{new_one, tree_after, history_after, keys_after, HasField}
use Rattle.desk.specs.Confirmed.{confirms, is_next_ship, is_confirmed_by, NoNextShip, Stands, OfMarks, ConfirmedDraughts}
use Rattle.desk.proofs.Demand3.{demand_3}
use Rattle.desk.proofs.KeyLogs.{ByKeys}
use Rattle.desk.proofs.Standing.{Standing, typed_on_both}
use Rattle.desk.proofs.Corollaries.{text_of_keys_lem}

-- ---- keys that leave a text alone leave its bytes

key_leaves_the_bytes : (key : Key) (t : Text) → key_changes key t ≡ false → bytes_of (key_text key t) ≡ bytes_of t
key_leaves_the_bytes (Char c) t e = what_goes_not_in_keeps_the_bytes c t e
key_leaves_the_bytes (Op op) t e = what_takes_nothing_keeps_the_bytes op t e

keys_leave_the_bytes : (t : Text) (ks : List Key) → leave_alone t ks ≡ true → bytes_of (typed_on t ks) ≡ bytes_of t
keys_leave_the_bytes t [] l = refl
keys_leave_the_bytes t (k ∷ ks) l =
    let b = both (not (key_changes k t)) (leave_alone (key_text k t) ks) l in
    keys_leave_the_bytes (key_text k t) ks b.1 ∙ key_leaves_the_bytes k t (bool_cases (key_changes k t) (λ c. no_more (rw c at b.0)) (λ c. c))

-- ---- two calls of a list

none_is_there : (q : Call → Bool) (b a : List Call) (y : Call) → q y ≡ true → all (λ c. not (q c)) (b ++ y ∷ a) ≡ true → ⊥
none_is_there q [] a y k n = no_more (rw k at n)
none_is_there q (c ∷ b) a y k n = none_is_there q b a y k (both (not (q c)) (all (λ c. not (q c)) (b ++ y ∷ a)) n).1

-- neither of two
neither : (p q : Bool) → (p || q) ≡ false → (p ≡ false) × (q ≡ false)
neither false q e = (refl, e)
neither true q e = no_more (sym e)

module _ (d : NodeId) where
  abbrev the_confirmation : Call
  the_confirmation = change (confirm d)

  accepted_confirms : (u : Ui) → (step u the_confirmation).number ≡ 0 → (confirms d the_confirmation && same (step u the_confirmation).number 0) ≡ true
  accepted_confirms u z = rw (an_id_is_itself d, same_yes (step u the_confirmation).number 0 z)

  -- an accepted confirmation is seen
  no_confirmation_is_there : (u : Ui) (b a : List Call) → (step (run u b) the_confirmation).number ≡ 0 → is_confirmed_by d u (b ++ the_confirmation ∷ a) ≡ false → ⊥
  no_confirmation_is_there u [] a z n = no_more (sym (neither _ (is_confirmed_by d (step u the_confirmation).next a) n).0 ∙ accepted_confirms u z)
  no_confirmation_is_there u (c ∷ b) a z n =
      no_confirmation_is_there (step u c).next b a z (neither (confirms d c && same (step u c).number 0) (is_confirmed_by d (step u c).next (b ++ the_confirmation ∷ a)) n).1

  -- of a next ship with no confirmation behind it and a confirmation with no next ship behind it there is but one
  one_is_the_later : (u : Ui) (b b' a a' : List Call) → b ++ change next_ship ∷ a ≡ b' ++ the_confirmation ∷ a'
      → is_confirmed_by d (step (run u b) (change next_ship)).next a ≡ false
      → (step (run u b') the_confirmation).number ≡ 0 → NoNextShip a' → ⊥
  one_is_the_later u [] [] a a' e n z na = let q : change next_ship ≡ the_confirmation = cc in no_more (sym (ap is_next_ship q))
  one_is_the_later u [] (c ∷ b') a a' e n z na =
      let q : change next_ship ≡ c = cc in
      let l : a ≡ b' ++ the_confirmation ∷ a' = cc in
      let v : Ui = (step u (change next_ship)).next in
      no_confirmation_is_there v b' a' (ap (λ (x : Call). (step (run (step u x).next b') the_confirmation).number) q ∙ z) (subst (λ (x : List Call). is_confirmed_by d v x ≡ false) l n)
  one_is_the_later u (c ∷ b) [] a a' e n z na =
      let l : b ++ change next_ship ∷ a ≡ a' = cc in none_is_there is_next_ship b a (change next_ship) refl (subst (λ (x : List Call). NoNextShip x) (sym l) na)
  one_is_the_later u (c ∷ b) (c' ∷ b') a a' e n z na =
      let q : c ≡ c' = cc in
      let l : b ++ change next_ship ∷ a ≡ b' ++ the_confirmation ∷ a' = cc in
      one_is_the_later (step u c).next b b' a a' l n (ap (λ (x : Call). (step (run (step u x).next b') the_confirmation).number) q ∙ z) na

-- ---- a live node that has a field

module _ (kind : StartKind) (limit : ℕ) (cs : List Call) (d : NodeId) (x : Info) (f : HasField kind limit cs d x)
    (a : Agree (tree_after kind limit cs) (history_after kind limit cs)) (e : Marked) (is : x.marked ≡ Some e)
    (by : ByKeys (Standing kind limit cs) (keys_after kind limit cs) d.index d.generation x) where
  abbrev keys : List Key
  keys = keys_after kind limit cs x.name

  ramp : (marks.confirmed_metres (tree_after kind limit cs) d).answer ≡ metres_of_view (view_by e.mark (bytes_of e.text))
  unfolding confirmed_said
  ramp = a.confirmed_metres_are d ∙ rw (f.0, is)

  office : (marks.marked_text (tree_after kind limit cs) d).answer ≡ accepted (padded_marked e)
  unfolding marked_said
  office = a.marked_text_is d ∙ rw (f.0, is)

  refused_by_14 : (e.mark ≡ Confirmed → ⊥) → (marks.confirmed_metres (tree_after kind limit cs) d).answer ≡ refused Unconfirmed 0
  refused_by_14 not_so = ramp ∙ go e.mark refl
    where
      go : (m : Mark) → e.mark ≡ m → metres_of_view (view_by m (bytes_of e.text)) ≡ refused Unconfirmed 0
      go Untouched k = refl
      go Typed k = refl
      go Confirmed k = absurd (not_so k)

  -- the bytes are those at the confirmation
  bytes_then : (s : Stands kind limit cs d x.name keys) → bytes_of e.text ≡ bytes_of (text_of_keys (keys_after kind limit s.before x.name))
  bytes_then s =
      let then = keys_after kind limit s.before x.name in
      ap bytes_of ((by e is).0 ∙ ap text_of_keys s.keys_are ∙ typed_on_both (text [] []) then s.since)
      ∙ keys_leave_the_bytes (text_of_keys then) s.since s.text_left_alone

  got : (n : ℕ) → (marks.confirmed_metres (tree_after kind limit cs) d).answer ≡ accepted n
      → (s : Stands kind limit cs d x.name keys) × (metres_of (bytes_of (text_of_keys (keys_after kind limit s.before x.name))) ≡ accepted n)
  got n q = go e.mark refl (sym ramp ∙ q)
    where
      go : (m : Mark) → e.mark ≡ m → metres_of_view (view_by m (bytes_of e.text)) ≡ accepted n
          → (s : Stands kind limit cs d x.name keys) × (metres_of (bytes_of (text_of_keys (keys_after kind limit s.before x.name))) ≡ accepted n)
      go Untouched k z = let w = ap (λ (b : Answer ℕ). b.number) z in absurd (omega arith)
      go Typed k z = let w = ap (λ (b : Answer ℕ). b.number) z in absurd (omega arith)
      go Confirmed k z = let s = (by e is).1 k in (s, ap metres_of (sym (bytes_then s)) ∙ z)

  marked : OfMarks kind limit cs d x
  unfolding caret_of
  marked = record {
    the_ramp_gets_what_was_confirmed = got;
    no_last_ships_draught = λ before after p none. refused_by_14 (λ k.
        let s = (by e is).1 k in
        one_is_the_later d (new_one kind limit cs) before s.before after s.after (sym p ∙ s.calls_are) none s.was_accepted s.no_next_ship_since);
    no_unconfirmed_draught = λ none. refused_by_14 (λ k.
        let s = (by e is).1 k in
        no_confirmation_is_there d (new_one kind limit cs) s.before s.after s.was_accepted (subst (λ (l : List Call). is_confirmed_by d (new_one kind limit cs) l ≡ false) s.calls_are none));
    the_office_reads_the_keys = (
      ap (λ (b : Answer ShownMarked). b.number) office,
      ap (λ (b : Answer ShownMarked). b.value.shown) office ∙ ap padded (by e is).0,
      ap (λ (b : Answer ShownMarked). b.value.caret) office ∙ ap caret_of (by e is).0,
    );
  }

pub confirmed_draughts : ConfirmedDraughts
confirmed_draughts kind limit l cs n m d x f =
    let w = text_of_keys_lem kind limit cs n m d x f x.marked refl in marked kind limit cs d x f (demand_3 kind limit l cs n m).agree w.0 w.1 w.2
