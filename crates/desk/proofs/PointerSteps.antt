-- A move, a press and a release do to the tree what they do to the history. Assumes nothing.
use Rattle.field.specs.declared.NodeId.{NodeId}
use Rattle.std.specs.Prelude.{None, Option, Some}
use mathlib.Core.Bool.{true, false, cond}
use mathlib.Core.Path.{◌≡◌, refl, sym, ap, subst, ◌∙◌}
use mathlib.Core.List.{[], ◌∷◌, ◌++◌}
use Prim.Native.Nat.{ℕ, ◌≤◌, ◌<◌}
use native.Mathlib.Omega.{arith}
use borrow.Author.Tests.{ltb-true}
use lib.IntN.{ℤ}
use lib.ListN.{length, get_or, length-append}
use lib.Seq.{length-take-le}
use Rattle.tree.specs.Slots.{is_id, nobody}
use Rattle.tree.specs.Trees.{limit_of, waiting_of, with_interaction}
use Rattle.tree.specs.declared.Ui.{Ui}
use Rattle.arithmetic.proofs.TestLaws.{bool_cases, eq_cases}
use Rattle.tree.proofs.Relation.{Queue}
use Rattle.desk.specs.Events.{pressed_on, activated, activate, released_on, applied_event, hit_of}
use Rattle.tree.specs.History.{History, Input, with_input, id_named, hit_name, same_name, after_event}
use Rattle.boxes.specs.declared.UiEvent.TheVariants.{PointerMoved, PointerPressed, PointerReleased}
use Rattle.desk.proofs.Invariant.{NameIn, NamedBy, Inv, with_input_lem, with_outputs}
use Rattle.desk.proofs.EventLaws.{has_room}
use Rattle.desk.proofs.NameLaws.{equal_ids_are_the_same, id_cases}
use Rattle.desk.proofs.RefreshSteps.{hits_agree}

pub waiting_length : (u : Ui) → limit_of u ≤ 128 → Queue u → length (waiting_of u) ≡ u.output_count
waiting_length u m q = length-take-le u.output_count u.outputs (let a = q.few in let b = q.long in omega arith)

module _ {k : ℕ} {u : Ui} {h : History} (v : Inv k u h) where
  pub move_agrees : (x' y' : ℤ) → Inv k (applied_event u (hit_of u) (PointerMoved x' y')) (after_event h (PointerMoved x' y'))
  move_agrees x' y' = with_input_lem v _ _ (record { pointer_is = refl; pressed = v.input.pressed; focus = v.input.focus })

  pub press_agrees : Inv k (applied_event u (hit_of u) PointerPressed) (after_event h PointerPressed)
  press_agrees = with_input_lem v _ _ (record { pointer_is = v.input.pointer_is; pressed = hits_agree v; focus = v.input.focus })

  -- the press ends
  press_ends : Inv k (with_interaction u (pressed_on u.interaction None)) (with_input h (record { pointer = h.input.pointer; pressed = None; focus = h.input.focus }))
  press_ends = with_input_lem v _ _ (record { pointer_is = v.input.pointer_is; pressed = record { is_the_id = refl; is_in = tt }; focus = v.input.focus })

  -- the node of the press is activated
  activates : (m : ℕ) → m < length h.named
      → Inv k (activate u (get_or h.named m nobody)) (with_input h (record { pointer = h.input.pointer; pressed = None; focus = Some m }))
  unfolding activate activated
  activates m b =
      let d = get_or h.named m nobody in
      let i : Input = record { pointer = h.input.pointer; pressed = None; focus = Some m } in
      let none : NamedBy h.named None None = record { is_the_id = refl; is_in = tt } in
      let this : NamedBy h.named (Some d) (Some m) = record { is_the_id = refl; is_in = b } in
      bool_cases (has_room u)
      (λ e.
      let few = ltb-true u.output_count _ e in
      let ds = waiting_of u ++ d ∷ [] in
      let n = waiting_length u v.nodes.links.rel.small v.queue in
      let c : length ds ≤ limit_of u = let a = length-append (waiting_of u) (d ∷ []) in omega arith in
      rw e (with_input_lem (with_outputs v ds c) (activated u.interaction d false) i (record { pointer_is = v.input.pointer_is; pressed = none; focus = this })))
      (λ e. rw e (with_input_lem v (activated u.interaction d true) i (record { pointer_is = v.input.pointer_is; pressed = none; focus = this })))

  -- the id of the press is that of the hit just where the names are the same
  same_hit : (m : ℕ) → m < length h.named → (hov : Option ℕ) → NameIn h.named hov → is_id (id_named h.named hov) (get_or h.named m nobody) ≡ same_name (Some m) hov
  same_hit m b None n = refl
  same_hit m b (Some m') n =
      eq_cases m m'
      (λ e s _. equal_ids_are_the_same (get_or h.named m' nobody) (get_or h.named m nobody) (ap (λ (j : ℕ). get_or h.named j nobody) (sym e)) ∙ sym s)
      (λ e s _. id_cases (get_or h.named m' nobody) (get_or h.named m nobody)
      (λ q _. absurd (e (v.nodes.naming.apart m m' b n (sym q))))
      (λ _ q. q ∙ sym s))

  abbrev released : Option ℕ → History
  released pr = with_input h (record { pointer = h.input.pointer; pressed = None; focus = cond (same_name pr (hit_name h)) pr h.input.focus })

  release_of : (pr : Option ℕ) → NameIn h.named pr → Inv k (released_on u (hit_of u) (id_named h.named pr)) (released pr)
  release_of None n = press_ends
  release_of (Some m) n =
      let g = hits_agree v in
      let d = get_or h.named m nobody in
      let e : is_id (hit_of u) d ≡ same_name (Some m) (hit_name h) = ap (λ (o : Option NodeId). is_id o d) g.is_the_id ∙ same_hit m n (hit_name h) g.is_in in
      bool_cases (same_name (Some m) (hit_name h))
      (λ s. rw (e, s) (activates m n))
      (λ s. rw (e, s) press_ends)

  pub release_agrees : Inv k (applied_event u (hit_of u) PointerReleased) (after_event h PointerReleased)
  release_agrees =
      subst (λ (o : Option NodeId). Inv k (released_on u (hit_of u) o) (released h.input.pressed)) (sym v.input.pressed.is_the_id) (release_of h.input.pressed v.input.pressed.is_in)
