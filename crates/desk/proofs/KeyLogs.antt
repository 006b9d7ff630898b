-- What holds of every node after every call, by the keys that it got: its text is theirs, and if it is confirmed, what is said of a confirmation goes
-- on being said. One induction serves the corollaries and the marks. Assumes nothing.
use Rattle.std.specs.Prelude.{None, Option, Some}
use mathlib.Core.Path.{◌≡◌, refl, sym, ap, subst, ◌∙◌}
use mathlib.Core.Bool.{Bool, true, false, ◌&&◌, not, cond}
use mathlib.Core.List.{List, [], ◌∷◌, ◌++◌}
use Prim.Native.Nat.{ℕ}
use native.Mathlib.Omega.{arith}
use lib.ListN.{get_or}
use Rattle.field.specs.Text.{Text, text}
use Rattle.field.specs.Marks.{Marked, new_marked, is_confirmed, next_mark, mark_after}
use Rattle.field.specs.declared.Mark.{Mark}
use Rattle.field.specs.declared.Mark.TheVariants.{Untouched, Typed, Confirmed}
use Rattle.field.specs.declared.NodeId.{NodeId}
use Rattle.arithmetic.specs.Tests.{same}
use Rattle.tree.specs.Forest.{Forest, nil, node, has_both, has_id, kids_of, set_kids_of, cut_of, find, map_f}
use Rattle.tree.specs.Nodes.{Info, with_field, change_named, change_of, wears, restyled, with_table, bare}
use Rattle.tree.specs.Layout.{view_rect, same_view}
use Rattle.tree.specs.declared.Ui.{Ui}
use Rattle.arithmetic.proofs.BoolLaws.{no_more}
use Rattle.arithmetic.proofs.TestLaws.{bool_cases, eq_cases, same_refl}
use Rattle.tree.proofs.Payloads.{AllF, all_map, all_app, all_both, all_map_f}
use Rattle.tree.proofs.Ids.{Known, find_known, find_nothing}
use Rattle.tree.proofs.FieldLaws.{one_id_is_the_other, to_have_an_id_is_to_be_named_by_it}
use Rattle.tree.specs.Fields.{field_of}
use Rattle.tree.proofs.Relation.{marked_in}
use Rattle.tree.specs.History.{History, Call, Change, refusal_of, refusal_of_field, after_change, accept, recorded, grown, keep_marked, key_text, key_changes, key_marked, marked_as, map_maybe, refilled, refresh, after_event}
use Rattle.tree.specs.History.Call.{insert, change, ask}
use Rattle.tree.specs.History.Change.{remove, set_style, set_state_table, set_patch_pool, make_field, solve, handle, next_output, confirm, next_ship}
use Rattle.desk.specs.Confirmed.{is_next_ship}
use Rattle.desk.specs.Keys.{typed_on, text_of_keys, Log, log_key, log_event, begin_at, log_field, logged_change, logged}
use Rattle.boxes.specs.declared.UiEvent.{UiEvent}
use Rattle.boxes.specs.declared.UiEvent.TheVariants.{PointerMoved, PointerPressed, PointerReleased, TextEntered, Edit}
use Rattle.boxes.specs.declared.Key.{Key}
use Rattle.boxes.specs.declared.Key.TheVariants.{Char, Op}
use Rattle.desk.proofs.Invariant.{OwnName, OwnText, Inv, SameNodes, same_nodes_each, same_nodes_some, same_nodes_placed}
use Rattle.tree.specs.Slots.{nobody}

-- ---- keys

typed_on_one_more : (t : Text) (ks : List Key) (key : Key) → typed_on t (ks ++ key ∷ []) ≡ key_text key (typed_on t ks)
typed_on_one_more t [] key = refl
typed_on_one_more t (k ∷ ks) key = typed_on_one_more (key_text k t) ks key

-- what is said of a node's id, name and keys, if it is confirmed
abbrev pub Said : Type 1
Said = ℕ → ℕ → ℕ → List Key → Type 0

-- a node's text is that of its keys
abbrev pub ByKeys : Said → Log → ℕ → ℕ → Info → Type 0
ByKeys S log i g x = (e : Marked) → x.marked ≡ Some e → (e.text ≡ text_of_keys (log x.name)) × (e.mark ≡ Confirmed → S i g x.name (log x.name))

pub no_text_lem : {G : Type 0} (m : Option Marked) (e : Marked) → m ≡ None → m ≡ Some e → G
no_text_lem m e n f = let z : ◌≡◌ {A = ℕ} 0 1 = cc in absurd (omega arith)

-- another mark is not that of a confirmed text
pub not_confirmed : {G : Type 0} (m : Mark) → is_confirmed m ≡ false → m ≡ Confirmed → G
not_confirmed m e q = no_more (sym e ∙ ap is_confirmed q)

pub unconfirmed_next : (m : Mark) → is_confirmed (next_mark m) ≡ false
unconfirmed_next Untouched = refl
unconfirmed_next Typed = refl
unconfirmed_next Confirmed = refl

-- by id, as the history changes its nodes
module _ (P : ℕ → ℕ → Info → Type 0) where
  all_kids_of : (d : NodeId) (f : Forest Info) → AllF P f → AllF P (kids_of d f)
  all_kids_of d nil a = tt
  all_kids_of d (node i g x cs sib) a =
      all_app P (cond (has_both d i g) cs (kids_of d cs)) (kids_of d sib)
      (bool_cases (has_both d i g) (λ b. rw b a.1) (λ b. rw b (all_kids_of d cs a.1))) (all_kids_of d sib a.2)

  all_set_kids_of : (d : NodeId) (k f : Forest Info) → AllF P k → AllF P f → AllF P (set_kids_of d k f)
  all_set_kids_of d k nil q a = tt
  all_set_kids_of d k (node i g x cs sib) q a =
      (a.0, bool_cases (has_both d i g) (λ b. rw b q) (λ b. rw b (all_set_kids_of d k cs q a.1)), all_set_kids_of d k sib q a.2)

  all_cut_of : (d : NodeId) (f : Forest Info) → AllF P f → AllF P (cut_of d f)
  all_cut_of d nil a = tt
  all_cut_of d (node i g x cs sib) a =
      bool_cases (has_both d i g) (λ b. rw b a.2) (λ b. rw b (a.0, all_cut_of d cs a.1, all_cut_of d sib a.2))

-- nodes that keep name, text and mark
keys_kept : (S : Said) (log : Log) {t t' : Forest Info} → SameNodes t t' → AllF (ByKeys S log) t → AllF (ByKeys S log) t'
keys_kept S log r a =
    r.keeps (ByKeys S log) (λ i g x y en et p e q.
    let w = p e (sym et ∙ q) in (w.0 ∙ ap (λ (m : ℕ). text_of_keys (log m)) (sym en), λ c. subst (λ (m : ℕ). S i g m (log m)) (sym en) (w.1 c))) a

-- what goes on being said where no next ship comes: with no more keys, and with one that changes no text
pub record GoesOn (S T : Said) : Type 0 where
  pub stays : (i g n : ℕ) (ks : List Key) → S i g n ks → T i g n ks
  pub keyed : (i g n : ℕ) (ks : List Key) (key : Key) → S i g n ks → key_changes key (text_of_keys ks) ≡ false → T i g n (ks ++ key ∷ [])

module _ {S T : Said} (w : GoesOn S T) where
  said_still : (log : Log) (t : Forest Info) → AllF (ByKeys S log) t → AllF (ByKeys T log) t
  said_still log t a = all_map (ByKeys S log) (ByKeys T log) t (λ i g x _ p e q. let z = p e q in (z.0, λ c. w.stays i g x.name (log x.name) (z.1 c))) a

  -- a key
  key_logged : (log : Log) (focus : Option ℕ) (key : Key) (t : Forest Info) → AllF (ByKeys S log) t
      → AllF (ByKeys T (log_key focus key log)) (change_named focus (refilled (key_marked key)) t)
  key_logged log None key t a = keys_kept T log (same_nodes_each _ (λ i g x. (refl, refl)) t) (said_still log t a)
  key_logged log (Some m) key t a =
      all_map_f (ByKeys T (log_key (Some m) key log)) (λ i g x. cond (same m x.name) (refilled (key_marked key) x) x) t
      (all_map (ByKeys S log) (λ i g x. ByKeys T (log_key (Some m) key log) i g (cond (same m x.name) (refilled (key_marked key) x) x)) t
      (λ i g x _ p. bool_cases (same m x.name)
      (λ b. rw b (λ y q. rw b (typed i g x x.marked refl p y q)))
      (λ b. rw b (λ y q. rw b (let z = p y q in (z.0, λ c. w.stays i g x.name (log x.name) (z.1 c)))))) a)
    where
      marked_still : (i g : ℕ) (x : Info) (e₀ : Marked) → e₀.text ≡ text_of_keys (log x.name) → (e₀.mark ≡ Confirmed → S i g x.name (log x.name))
          → (c : Bool) → key_changes key e₀.text ≡ c → mark_after c e₀.mark ≡ Confirmed → T i g x.name (log x.name ++ key ∷ [])
      marked_still i g x e₀ l s true k z = not_confirmed Typed refl z
      marked_still i g x e₀ l s false k z = w.keyed i g x.name (log x.name) key (s z) (ap (key_changes key) (sym l) ∙ k)

      typed : (i g : ℕ) (x : Info) (o : Option Marked) → x.marked ≡ o → ByKeys S log i g x → (y : Marked) → map_maybe (key_marked key) x.marked ≡ Some y
          → (y.text ≡ text_of_keys (log x.name ++ key ∷ [])) × (y.mark ≡ Confirmed → T i g x.name (log x.name ++ key ∷ []))
      typed i g x None e p y q = no_text_lem (map_maybe (key_marked key) x.marked) y (ap (map_maybe (key_marked key)) e) q
      typed i g x (Some e₀) e p y q =
          let r : Some (key_marked key e₀) ≡ Some y = sym (ap (map_maybe (key_marked key)) e) ∙ q in
          let s : key_marked key e₀ ≡ y = cc in
          let z = p e₀ e in (
            ap (λ (m : Marked). m.text) (sym s) ∙ ap (key_text key) z.0 ∙ sym (typed_on_one_more (text [] []) (log x.name) key),
            λ c. marked_still i g x e₀ z.0 z.1 (key_changes key e₀.text) refl (ap (λ (m : Marked). m.mark) s ∙ c),
          )

  event_logged : (h : History) (e : UiEvent) (log : Log) → AllF (ByKeys S log) h.tree → AllF (ByKeys T (log_event h.input.focus e log)) (after_event h e).tree
  event_logged h (PointerMoved x y) log a = said_still log h.tree a
  event_logged h PointerPressed log a = said_still log h.tree a
  event_logged h PointerReleased log a = said_still log h.tree a
  event_logged h (TextEntered ch) log a = key_logged log h.input.focus (Char ch) h.tree a
  event_logged h (Edit op) log a = key_logged log h.input.focus (Op op) h.tree a

refresh_logged : (S : Said) (h : History) (log : Log) → AllF (ByKeys S log) h.tree → AllF (ByKeys S log) (refresh h).tree
unfolding refresh wears
refresh_logged S h log a = keys_kept S log (same_nodes_each _ (λ i g x. (refl, refl)) h.tree) a

-- the next ship, and a confirmation
next_ship_logged : (S T : Said) (log : Log) (t : Forest Info) → AllF (ByKeys S log) t → AllF (ByKeys T log) (map_f (λ i g x. refilled (λ e. marked_as (next_mark e.mark) e) x) t)
next_ship_logged S T log t a =
    all_map_f (ByKeys T log) (λ i g x. refilled next x) t (all_map (ByKeys S log) (λ i g x. ByKeys T log i g (refilled next x)) t (λ i g x _ p. turned i g x x.marked refl p) a)
  where
    next : Marked → Marked
    next e = marked_as (next_mark e.mark) e

    turned : (i g : ℕ) (x : Info) (o : Option Marked) → x.marked ≡ o → ByKeys S log i g x → ByKeys T log i g (refilled next x)
    turned i g x None e p y q = no_text_lem (map_maybe next x.marked) y (ap (map_maybe next) e) q
    turned i g x (Some e₀) e p y q =
        let r : Some (next e₀) ≡ Some y = sym (ap (map_maybe next) e) ∙ q in
        let s : next e₀ ≡ y = cc in
        (ap (λ (m : Marked). m.text) (sym s) ∙ (p e₀ e).0, λ c. not_confirmed (next_mark e₀.mark) (unconfirmed_next e₀.mark) (ap (λ (m : Marked). m.mark) s ∙ c))

confirm_logged : (T : Said) (log : Log) (d : NodeId) (t : Forest Info) → ((n : ℕ) → T d.index d.generation n (log n)) → AllF (ByKeys T log) t
    → AllF (ByKeys T log) (change_of d (refilled (marked_as Confirmed)) t)
confirm_logged T log d t now a =
    all_map_f (ByKeys T log) (λ i g x. cond (has_both d i g) (refilled (marked_as Confirmed) x) x) t
    (all_map (ByKeys T log) (λ i g x. ByKeys T log i g (cond (has_both d i g) (refilled (marked_as Confirmed) x) x)) t
    (λ i g x _ p. bool_cases (has_both d i g)
    (λ b. rw b (the_node i g x (one_id_is_the_other d (record { index = i; generation = g }) (sym (to_have_an_id_is_to_be_named_by_it d i g) ∙ b)) x.marked refl p))
    (λ b. rw b p)) a)
  where
    the_node : (i g : ℕ) (x : Info) → d ≡ record { index = i; generation = g } → (o : Option Marked) → x.marked ≡ o → ByKeys T log i g x → ByKeys T log i g (refilled (marked_as Confirmed) x)
    the_node i g x z None e p y q = no_text_lem (map_maybe (marked_as Confirmed) x.marked) y (ap (map_maybe (marked_as Confirmed)) e) q
    the_node i g x z (Some e₀) e p y q =
        let r : Some (marked_as Confirmed e₀) ≡ Some y = sym (ap (map_maybe (marked_as Confirmed)) e) ∙ q in
        let s : marked_as Confirmed e₀ ≡ y = cc in
        (ap (λ (m : Marked). m.text) (sym s) ∙ (p e₀ e).0, λ c. subst (λ (c : NodeId). T c.index c.generation x.name (log x.name)) z (now x.name))

-- a field made
module _ (k : ℕ) (u : Ui) (h : History) (v : Inv k u h) (S : Said) (log : Log) (a : AllF (ByKeys S log) h.tree) (d : NodeId) where
  abbrev Own : ℕ → ℕ → Info → Type 0
  Own i g x = OwnName h.named i g x × OwnText u.fields i g x

  -- of two nodes, those with the id have one name and one text, and no other has that name
  abbrev Told : ℕ → ℕ → Info → Log → Marked → Type 0
  Told i g x log' e = (e.text ≡ text_of_keys (log' x.name)) × (e.mark ≡ Confirmed → S i g x.name (log' x.name))

  made_logged : (x₀ : Info) → find d h.tree ≡ Some x₀ → Own d.index d.generation x₀
      → AllF (ByKeys S (begin_at x₀.marked x₀.name log)) (change_of d (λ x. with_field x (keep_marked x.marked)) h.tree)
  made_logged x₀ f own₀ =
      all_map_f (ByKeys S (begin_at x₀.marked x₀.name log)) (λ i g x. cond (has_both d i g) (with_field x (keep_marked x.marked)) x) h.tree
      (all_map (λ i g x. ByKeys S log i g x × Own i g x) (λ i g x. ByKeys S (begin_at x₀.marked x₀.name log) i g (cond (has_both d i g) (with_field x (keep_marked x.marked)) x)) h.tree
      (λ i g x _ q. bool_cases (has_both d i g)
      (λ b. rw b (the_node i g x q.0 q.1 (one_id_is_the_other d (record { index = i; generation = g }) (sym (to_have_an_id_is_to_be_named_by_it d i g) ∙ b)) x₀.marked refl))
      (λ b. rw b (another i g x q.0 q.1 b x₀.marked)))
      (all_both (ByKeys S log) Own h.tree a
      (all_both (OwnName h.named) (OwnText u.fields) h.tree v.nodes.naming.own v.nodes.texts.texts)))
    where
      the_node : (i g : ℕ) (x : Info) → ByKeys S log i g x → Own i g x → d ≡ record { index = i; generation = g } → (o : Option Marked) → x₀.marked ≡ o
          → (e : Marked) → keep_marked x.marked ≡ Some e → Told i g x (begin_at o x₀.name log) e
      the_node i g x p own e None z t q =
          let n : x.name ≡ x₀.name = v.nodes.naming.apart x.name x₀.name own.0.0 own₀.0.0 (own.0.1 ∙ sym e ∙ sym own₀.0.1) in
          let y : x.marked ≡ None = own.1 ∙ ap (λ (c : NodeId). marked_in (field_of c u.fields)) (sym e) ∙ sym own₀.1 ∙ z in
          let r : Some new_marked ≡ Some t = sym (ap keep_marked y) ∙ q in
          let s : new_marked ≡ t = cc in
          rw (n, same_refl x₀.name) (ap (λ (m : Marked). m.text) (sym s), λ c. not_confirmed Untouched refl (ap (λ (m : Marked). m.mark) s ∙ c))
      the_node i g x p own e (Some t₀) z t q =
          let y : x.marked ≡ Some t₀ = own.1 ∙ ap (λ (c : NodeId). marked_in (field_of c u.fields)) (sym e) ∙ sym own₀.1 ∙ z in
          let r : Some t₀ ≡ Some t = sym (ap keep_marked y) ∙ q in
          p t (y ∙ r)

      another : (i g : ℕ) (x : Info) → ByKeys S log i g x → Own i g x → has_both d i g ≡ false → (o : Option Marked)
          → (e : Marked) → x.marked ≡ Some e → Told i g x (begin_at o x₀.name log) e
      another i g x p own b None t q =
          eq_cases x.name x₀.name
          (λ e _ _.
          let c : record { index = i; generation = g } ≡ d = sym own.0.1 ∙ ap (λ (m : ℕ). get_or h.named m nobody) e ∙ own₀.0.1 in
          let y : has_both d i g ≡ true = ap (λ (c : NodeId). has_both d c.index c.generation) c ∙ rw (same_refl d.index, same_refl d.generation) in
          let w : false ≡ true = sym b ∙ y in
          let z : ◌≡◌ {A = ℕ} 0 1 = cc in absurd (omega arith))
          (λ e s _. rw s (p t q))
      another i g x p own b (Some t₀) t q = p t q

-- ---- a call and its keys

refusal_of_no_node : (h : History) (m : Option Info) → m ≡ None → refusal_of_field h m ≡ 0 → ⊥
refusal_of_no_node h None e = λ q. omega arith
refusal_of_no_node h (Some x) e = λ q. let z : ◌≡◌ {A = ℕ} 0 1 = cc in omega arith

-- what a call lets be said: where it is no next ship all goes on, and a confirmation is said of its id
pub record Tells (h : History) (log : Log) (c : Call) (S T : Said) : Type 0 where
  pub goes_on : is_next_ship c ≡ false → GoesOn S T
  pub confirmed_now : (d : NodeId) → c ≡ change (confirm d) → refusal_of h c ≡ 0 → (n : ℕ) → T d.index d.generation n (log n)

module _ (k : ℕ) (u : Ui) (h : History) (v : Inv k u h) (log : Log) (S T : Said) (a : AllF (ByKeys S log) h.tree) (new : NodeId) where
  change_logged : (c : Change) → Tells h log (change c) S T → refusal_of h (change c) ≡ 0 → AllF (ByKeys T (logged_change h c log)) (after_change h c).tree
  unfolding refusal_of wears restyled bare
  change_logged (remove d) w j = all_cut_of (ByKeys T log) d h.tree (said_still (w.goes_on refl) log h.tree a)
  change_logged (set_style d s) w j =
      keys_kept T log (same_nodes_some (has_both d) (restyled s) (λ x. (refl, refl)) h.tree) (said_still (w.goes_on refl) log h.tree a)
  change_logged (set_state_table d table) w j =
      keys_kept T log (same_nodes_some (has_both d) (λ x. wears h.styling.pool x.bits (with_table table x)) (λ x. (refl, refl)) h.tree) (said_still (w.goes_on refl) log h.tree a)
  change_logged (set_patch_pool patches count) w j =
      keys_kept T log (same_nodes_each (λ i g x. bare x) (λ i g x. (refl, refl)) h.tree) (said_still (w.goes_on refl) log h.tree a)
  change_logged (make_field d) w j =
      bool_cases (has_id d h.tree)
      (λ b. made (find_known (Own k u h v T log still d) d h.tree (all_both (OwnName h.named) (OwnText u.fields) h.tree v.nodes.naming.own v.nodes.texts.texts) b))
      (λ b. absurd (refusal_of_no_node h (find d h.tree) (find_nothing d h.tree b) j))
    where
      still : AllF (ByKeys T log) h.tree
      still = said_still (w.goes_on refl) log h.tree a

      made : Known (Own k u h v T log still d) d h.tree → AllF (ByKeys T (log_field (find d h.tree) log)) (change_of d (λ x. with_field x (keep_marked x.marked)) h.tree)
      made K = subst (λ (m : Option Info). AllF (ByKeys T (log_field m log)) (change_of d (λ x. with_field x (keep_marked x.marked)) h.tree)) (sym K.found) (made_logged k u h v T log still d K.load K.found K.holds)
  change_logged (solve z) w j =
      let still = said_still (w.goes_on refl) log h.tree a in
      bool_cases (not h.styling.dirty && same_view h.styling.viewport z)
      (λ b. rw b still)
      (λ b. rw b (keys_kept T log (same_nodes_placed h.tree (view_rect z ∷ [])) still))
  change_logged (handle e) w j = refresh_logged T (after_event h e) (log_event h.input.focus e log) (event_logged (w.goes_on refl) h e log a)
  change_logged next_output w j = said_still (w.goes_on refl) log h.tree a
  change_logged (confirm d) w j = confirm_logged T log d h.tree (w.confirmed_now d refl j) (said_still (w.goes_on refl) log h.tree a)
  change_logged next_ship w j = next_ship_logged S T log h.tree a

  call_logged : (c : Call) → Tells h log c S T → refusal_of h c ≡ 0 → AllF (ByKeys T (logged h c log)) (accept h c new).tree
  unfolding accept logged grown
  call_logged (insert d) w j =
      let still = said_still (w.goes_on refl) log h.tree a in
      all_set_kids_of (ByKeys T log) d _ h.tree
      (all_app (ByKeys T log) (kids_of d h.tree) _ (all_kids_of (ByKeys T log) d h.tree still) ((λ e q. no_text_lem None e refl q), tt, tt)) still
  call_logged (change c) w j = change_logged c w j
  call_logged (ask q) w j = said_still (w.goes_on refl) log h.tree a

  -- the next ship is never refused
  refused_goes_on : (c : Call) → (refusal_of h c ≡ 0 → ⊥) → is_next_ship c ≡ false
  unfolding refusal_of
  refused_goes_on (insert d) n = refl
  refused_goes_on (change (remove d)) n = refl
  refused_goes_on (change (set_style d s)) n = refl
  refused_goes_on (change (set_state_table d table)) n = refl
  refused_goes_on (change (set_patch_pool patches count)) n = refl
  refused_goes_on (change (make_field d)) n = refl
  refused_goes_on (change (solve z)) n = refl
  refused_goes_on (change (handle e)) n = refl
  refused_goes_on (change next_output) n = refl
  refused_goes_on (change (confirm d)) n = refl
  refused_goes_on (change next_ship) n = absurd (n refl)
  refused_goes_on (ask q) n = refl

  pub recorded_logged : (c : Call) → Tells h log c S T → AllF (ByKeys T (cond (same (refusal_of h c) 0) (logged h c log) log)) (recorded h c new).tree
  unfolding recorded
  recorded_logged c w =
      eq_cases (refusal_of h c) 0 (λ e s _. rw s (call_logged c w e)) (λ n s _. rw s (said_still (w.goes_on (refused_goes_on c n)) log h.tree a))
