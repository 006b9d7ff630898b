-- A refresh is every node wearing its bits. The slots visited are those stated before and those of the nodes hovered, pressed and in focus:
-- every other node had no bits and has none. The nodes with bits are among the three, and so stated afterwards. Assumes nothing.
use Rattle.std.specs.Prelude.{None, Option, Some}
use mathlib.Core.Path.{◌≡◌, refl, sym, ap, ◌∙◌, subst}
use mathlib.Core.Logic.{◌≢◌}
use mathlib.Core.Bool.{Bool, true, false, not, ◌||◌, ◌&&◌, cond}
use mathlib.Core.List.{List, [], ◌∷◌, ◌++◌}
use Prim.Native.Nat.{ℕ, zero, suc, ◌+◌, ◌≤◌, ◌<◌}
use native.Mathlib.Omega.{arith}
use borrow.Author.Tests.{ltb-true, lt-ltb}
use lib.Dec.{ltb}
use lib.ListN.{length, drop, length-append, length-drop}
use lib.Seq.{take-append_seam}
use Rattle.field.specs.declared.NodeId.{NodeId}
use Rattle.arithmetic.specs.Tests.{same, δ, occ}
use Rattle.arena.specs.Slots.{at, is_live, id_at, is_id, backwards}
use Rattle.boxes.specs.Styles.{fresh_state, state_at}
use Rattle.tree.specs.Trees.{limit_of, pool_of, stated_of, with_styles, with_stated}
use Rattle.tree.specs.Wearing.{appearance_of, bits_at, refreshed}
use Rattle.boxes.specs.States.{bits_of, live_slot, bearing}
use Rattle.arena.specs.Rules.{distinct}
use Rattle.arena.specs.Forest.{Forest, map_f, any_f}
use Rattle.boxes.specs.Nodes.{Info, wears, swaps}
use Rattle.tree.specs.declared.Ui.{Ui}
use Rattle.arithmetic.proofs.TestLaws.{same_yes, same_no, δ-refl, δ-same, eq_cases, zero_cases, bool_cases}
use Rattle.arena.proofs.Forests.ForestLaws.{cnt}
use Rattle.arena.proofs.Forests.Relations.{Rel}
use Rattle.arena.proofs.Forests.Payloads.{AllF, all_map, all_map_f}
use Rattle.arena.proofs.Forests.FreeOrders.{occ_append}
use Rattle.arena.proofs.Forests.Ids.{live_just_where_a_node_has_it, slots_id_is_live}
use Rattle.boxes.proofs.Styles.Rounds.{Worn, Sized}
use Rattle.boxes.proofs.Styles.WearLaws.{Restyled, TablesWorn, all_slots_wearing_is_every_node_wearing}

-- ---- lists of slots without repetition

pub distinct_slots_are_below : (n : ℕ) (l : List ℕ) → distinct n l ≡ true → (j : ℕ) → 0 < occ j l → j < n
unfolding distinct
distinct_slots_are_below n [] e j z = absurd (omega arith)
distinct_slots_are_below n (i ∷ is) e j z =
    bool_cases (ltb i n)
    (λ b.
    let e1 : (same (occ i is) 0 && distinct n is) ≡ true = rw b at e in
    bool_cases (same (occ i is) 0)
    (λ c.
    let e2 : distinct n is ≡ true = rw c at e1 in
    eq_cases i j (λ q _ _. let h = ltb-true i n b in omega arith) (λ q _ d. distinct_slots_are_below n is e2 j (omega arith)))
    (λ c. let e2 : ◌≡◌ {A = Bool} false true = rw c at e1 in let zz : ◌≡◌ {A = ℕ} 0 1 = cc in absurd (omega arith)))
    (λ b. let e1 : ◌≡◌ {A = Bool} false true = rw b at e in let zz : ◌≡◌ {A = ℕ} 0 1 = cc in absurd (omega arith))

pub once_each_and_below_is_distinct : (n : ℕ) (l : List ℕ) → ((j : ℕ) → occ j l ≤ 1) → ((j : ℕ) → 0 < occ j l → j < n) → distinct n l ≡ true
unfolding distinct
once_each_and_below_is_distinct n [] u b = refl
once_each_and_below_is_distinct n (i ∷ is) u b =
    let d = δ-refl i in
    let ui = u i in
    rw (lt-ltb i n (b i (omega arith)), same_yes (occ i is) 0 (omega arith))
    (once_each_and_below_is_distinct n is (λ j. let v = u j in omega arith) (λ j z. b j (omega arith)))

occ_backwards : (j : ℕ) (l : List ℕ) → occ j (backwards l) ≡ occ j l
occ_backwards j [] = refl
occ_backwards j (i ∷ is) = let h = occ_append j (backwards is) (i ∷ []) in let I = occ_backwards j is in omega arith

-- ---- those with bits

module _ (u : Ui) (hover : Option NodeId) where
  pub what_is_kept_stays : (kept is : List ℕ) (j : ℕ) → occ j kept ≤ occ j (bearing (bits_at u hover) kept is)
  unfolding bearing
  what_is_kept_stays kept [] j = omega arith
  what_is_kept_stays kept (i ∷ is) j =
      let e = occ_append j kept (i ∷ []) in
      bool_cases (same (bits_at u hover i) 0 || not (same (occ i kept) 0))
      (λ b. rw b (what_is_kept_stays kept is j))
      (λ b. rw b (let I = what_is_kept_stays (kept ++ i ∷ []) is j in omega arith))

  pub slots_with_bits_are_borne : (kept is : List ℕ) (j : ℕ) → 0 < occ j is → 0 < bits_at u hover j → 0 < occ j (bearing (bits_at u hover) kept is)
  unfolding bearing
  slots_with_bits_are_borne kept [] j z h = absurd (omega arith)
  slots_with_bits_are_borne kept (i ∷ is) j z h =
      eq_cases i j
      (λ e _ _.
      let hi : 0 < bits_at u hover i = subst (λ (n : ℕ). 0 < bits_at u hover n) (sym e) h in
      let nz : same (bits_at u hover i) 0 ≡ false = same_no (bits_at u hover i) 0 (λ q. omega arith) in
      eq_cases (occ i kept) 0
      (λ c s _. rw (nz, s) (let q = occ_append j kept (i ∷ []) in let d = δ-same i j e in let I = what_is_kept_stays (kept ++ i ∷ []) is j in omega arith))
      (λ c s _. rw (nz, s) (let q : occ i kept ≡ occ j kept = ap (λ (n : ℕ). occ n kept) e in let I = what_is_kept_stays kept is j in go (occ i kept) c (omega arith))))
      (λ e _ d. bool_cases (same (bits_at u hover i) 0 || not (same (occ i kept) 0))
      (λ b. rw b (slots_with_bits_are_borne kept is j (omega arith) h))
      (λ b. rw b (slots_with_bits_are_borne (kept ++ i ∷ []) is j (omega arith) h)))
    where
      go : {m : ℕ} (n : ℕ) → n ≢ 0 → n ≤ m → 0 < m
      go zero e h = absurd (e refl)
      go (suc n) e h = omega arith

  pub what_is_borne_was_listed : (kept is : List ℕ) (j : ℕ) → 0 < occ j (bearing (bits_at u hover) kept is) → 0 < occ j kept + occ j is
  unfolding bearing
  what_is_borne_was_listed kept [] j h = omega arith
  what_is_borne_was_listed kept (i ∷ is) j h =
      bool_cases (same (bits_at u hover i) 0 || not (same (occ i kept) 0))
      (λ b. let h' = rw b at h in let q = what_is_borne_was_listed kept is j h' in omega arith)
      (λ b. let h' = rw b at h in let q = what_is_borne_was_listed (kept ++ i ∷ []) is j h' in let e = occ_append j kept (i ∷ []) in omega arith)

  pub what_is_borne_is_borne_once : (kept is : List ℕ) → ((j : ℕ) → occ j kept ≤ 1) → (j : ℕ) → occ j (bearing (bits_at u hover) kept is) ≤ 1
  unfolding bearing
  what_is_borne_is_borne_once kept [] k j = k j
  what_is_borne_is_borne_once kept (i ∷ is) k j =
      bool_cases (same (bits_at u hover i) 0)
      (λ b. rw b (what_is_borne_is_borne_once kept is k j))
      (λ b. eq_cases (occ i kept) 0
      (λ c s _. rw (b, s) (what_is_borne_is_borne_once (kept ++ i ∷ []) is
      (λ m. let e = occ_append m kept (i ∷ []) in let v = k m in eq_cases i m
      (λ q _ d. let w : occ i kept ≡ occ m kept = ap (λ (n : ℕ). occ n kept) q in omega arith)
      (λ q _ d. omega arith)) j))
      (λ c s _. rw (b, s) (what_is_borne_is_borne_once kept is k j)))

  pub no_more_are_borne_than_listed : (kept is : List ℕ) → length (bearing (bits_at u hover) kept is) ≤ length kept + length is
  unfolding bearing
  no_more_are_borne_than_listed kept [] = omega arith
  no_more_are_borne_than_listed kept (i ∷ is) =
      let e = length-append kept (i ∷ []) in
      bool_cases (same (bits_at u hover i) 0 || not (same (occ i kept) 0))
      (λ b. rw b (let I = no_more_are_borne_than_listed kept is in omega arith))
      (λ b. rw b (let I = no_more_are_borne_than_listed (kept ++ i ∷ []) is in omega arith))

  -- ---- the three

  -- the slots of the nodes hovered, pressed and in focus
  abbrev pub three : List ℕ
  three = live_slot (limit_of u) u.slots hover ++ live_slot (limit_of u) u.slots u.interaction.pressed ++ live_slot (limit_of u) u.slots u.interaction.focus

one_slot_at_most : (u : Ui) (o : Option NodeId) → length (live_slot (limit_of u) u.slots o) ≤ 1
unfolding live_slot
one_slot_at_most u None = omega arith
one_slot_at_most u (Some d) = bool_cases (is_live (limit_of u) u.slots d) (λ b. rw b (omega arith)) (λ b. rw b (omega arith))

slot_in_below : (u : Ui) (o : Option NodeId) (j : ℕ) → 0 < occ j (live_slot (limit_of u) u.slots o) → j < limit_of u
unfolding live_slot is_live
slot_in_below u None j z = absurd (omega arith)
slot_in_below u (Some d) j z =
    bool_cases (ltb d.index (limit_of u))
    (λ b. let h = ltb-true d.index (limit_of u) b in
    bool_cases ((at u.slots d.index).live && same (at u.slots d.index).generation d.generation)
    (λ c. let z' : 0 < δ d.index j + 0 = rw (b, c) at z in eq_cases d.index j (λ e _ _. omega arith) (λ e _ q. absurd (omega arith)))
    (λ c. let z' : 0 < 0 = rw (b, c) at z in absurd (omega arith)))
    (λ b. let z' : 0 < 0 = rw b at z in absurd (omega arith))

-- a live slot that is not listed has another id
not_listed_not_named : (u : Ui) (o : Option NodeId) (i : ℕ) → is_live (limit_of u) u.slots (id_at u.slots i) ≡ true → occ i (live_slot (limit_of u) u.slots o) ≡ 0 → is_id o (id_at u.slots i) ≡ false
unfolding live_slot
not_listed_not_named u None i l z = refl
not_listed_not_named u (Some d) i l z =
    let g : ℕ = (at u.slots i).generation in
    eq_cases d.index i
    (λ q s δ1. eq_cases d.generation g
    (λ q' s' _.
    let w : id_at u.slots i ≡ d = (λ k. record { index = sym q k; generation = sym q' k }) in
    let l' : is_live (limit_of u) u.slots d ≡ true = subst (λ (e : NodeId). is_live (limit_of u) u.slots e ≡ true) w l in
    let z' : δ d.index i + 0 ≡ 0 = subst (λ (b : Bool). occ i (cond b (d.index ∷ []) []) ≡ 0) l' z in absurd (omega arith))
    (λ q' s' _. rw (s, s')))
    (λ q s _. rw s)

module _ (u : Ui) (hover : Option NodeId) where
  occ_three : (j : ℕ) → occ j (three u hover) ≡ occ j (live_slot (limit_of u) u.slots hover) + (occ j (live_slot (limit_of u) u.slots u.interaction.pressed) + occ j (live_slot (limit_of u) u.slots u.interaction.focus))
  occ_three j =
      let e1 = occ_append j (live_slot (limit_of u) u.slots hover ++ live_slot (limit_of u) u.slots u.interaction.pressed) (live_slot (limit_of u) u.slots u.interaction.focus) in
      let e2 = occ_append j (live_slot (limit_of u) u.slots hover) (live_slot (limit_of u) u.slots u.interaction.pressed) in
      omega arith

  pub a_live_slot_with_bits_is_one_of_the_three : (i : ℕ) → is_live (limit_of u) u.slots (id_at u.slots i) ≡ true → 0 < bits_at u hover i → 0 < occ i (three u hover)
  unfolding bits_at bits_of
  a_live_slot_with_bits_is_one_of_the_three i l h =
      let e = occ_three i in
      zero_cases (occ i (three u hover))
      (λ z.
      let n0 = not_listed_not_named u hover i l (omega arith) in
      let n1 = not_listed_not_named u u.interaction.pressed i l (omega arith) in
      let n2 = not_listed_not_named u u.interaction.focus i l (omega arith) in
      let h' : 0 < 0 = rw (n0, n1, n2) at h in absurd (omega arith))
      (λ z. z)

  pub the_three_are_below_the_limit : (j : ℕ) → 0 < occ j (three u hover) → j < limit_of u
  the_three_are_below_the_limit j z =
      let e = occ_three j in
      zero_cases (occ j (live_slot (limit_of u) u.slots hover))
      (λ z1. zero_cases (occ j (live_slot (limit_of u) u.slots u.interaction.pressed))
      (λ z2. slot_in_below u u.interaction.focus j (omega arith))
      (λ z2. slot_in_below u u.interaction.pressed j z2))
      (λ z1. slot_in_below u hover j z1)

  occ_visited : (j : ℕ) → occ j (backwards (stated_of u) ++ three u hover) ≡ occ j (stated_of u) + occ j (three u hover)
  occ_visited j = let e = occ_append j (backwards (stated_of u)) (three u hover) in let b = occ_backwards j (stated_of u) in omega arith

  pub the_slots_of_a_refresh_are_below_the_limit : ((j : ℕ) → 0 < occ j (stated_of u) → j < limit_of u) → (j : ℕ) → 0 < occ j (backwards (stated_of u) ++ three u hover) → j < limit_of u
  the_slots_of_a_refresh_are_below_the_limit sb j z =
      let e = occ_visited j in
      zero_cases (occ j (stated_of u)) (λ y. the_three_are_below_the_limit j (omega arith)) (λ y. sb j y)

  three_at_most : length (three u hover) ≤ 3
  three_at_most =
      let e1 = length-append (live_slot (limit_of u) u.slots hover ++ live_slot (limit_of u) u.slots u.interaction.pressed) (live_slot (limit_of u) u.slots u.interaction.focus) in
      let e2 = length-append (live_slot (limit_of u) u.slots hover) (live_slot (limit_of u) u.slots u.interaction.pressed) in
      let a = one_slot_at_most u hover in let b = one_slot_at_most u u.interaction.pressed in let c = one_slot_at_most u u.interaction.focus in
      omega arith

  pub the_stated_are_those_that_bear : stated_of (refreshed u hover) ≡ bearing (bits_at u hover) [] (three u hover)
  unfolding refreshed with_stated with_styles
  the_stated_are_those_that_bear = take-append_seam (bearing (bits_at u hover) [] (three u hover)) (drop (length (bearing (bits_at u hover) [] (three u hover))) u.stated)

-- ---- the slots stated after it: at most three, each once, below the limit

pub record StatedAfter (u u' : Ui) : Type 0 where
  pub below : (j : ℕ) → 0 < occ j (stated_of u') → j < limit_of u
  pub each_only_once : distinct (limit_of u) (stated_of u') ≡ true
  pub few : u'.stated_count ≤ 3
  pub long : length u'.stated ≡ 3

pub what_a_refresh_states : (u : Ui) (hover : Option NodeId) → length u.stated ≡ 3 → StatedAfter u (refreshed u hover)
unfolding refreshed with_stated with_styles
what_a_refresh_states u hover len =
    let borne : List ℕ = bearing (bits_at u hover) [] (three u hover) in
    let few = no_more_are_borne_than_listed u hover [] (three u hover) in
    let tm = three_at_most u hover in
    let se : stated_of (refreshed u hover) ≡ borne = the_stated_are_those_that_bear u hover in
    let bb : (j : ℕ) → 0 < occ j borne → j < limit_of u = λ j z. let q = what_is_borne_was_listed u hover [] (three u hover) j z in the_three_are_below_the_limit u hover j (omega arith) in
    record {
      below = λ j z. bb j (subst (λ (l : List ℕ). 0 < occ j l) se z);
      each_only_once = subst (λ (l : List ℕ). distinct (limit_of u) l ≡ true) (sym se)
          (once_each_and_below_is_distinct (limit_of u) borne (what_is_borne_is_borne_once u hover [] (three u hover) (λ j. omega arith)) bb);
      few = omega arith;
      long = let a = length-append borne (drop (length borne) u.stated) in let b = length-drop (length borne) u.stated in omega arith;
    }

-- ---- the whole

pub record Refresh (u u' : Ui) (t t' : Forest Info) (moved : Bool) : Type 0 where
  pub looks : Restyled (appearance_of u) (appearance_of u') t t' moved
  pub with_bits : AllF (λ i g x. 0 < x.bits → 0 < occ i (stated_of u')) t'
  pub stated_below : (j : ℕ) → 0 < occ j (stated_of u') → j < limit_of u
  pub stated_once : distinct (limit_of u) (stated_of u') ≡ true
  pub stated_few : u'.stated_count ≤ 3
  pub stated_long : length u'.stated ≡ 3

pub a_refresh_is_every_node_wearing_its_bits : {free : ℕ} {t : Forest Info} {fl : List ℕ} (u : Ui) (hover : Option NodeId) (bits : ℕ → ℕ → Info → ℕ)
    → Rel (limit_of u) u.slots free t fl → Sized (appearance_of u) → length u.stated ≡ 3
    → AllF (λ i g x. Worn u.layout u.states i x) t → TablesWorn t
    → AllF (λ i g x. 0 < x.bits → 0 < occ i (stated_of u)) t
    → ((j : ℕ) → 0 < occ j (stated_of u) → j < limit_of u)
    → ((j : ℕ) → j < limit_of u → cnt j t ≡ 0 → state_at u.states j ≡ fresh_state)
    → AllF (λ i g x. bits_at u hover i ≡ bits i g x) t
    → ((j : ℕ) → j < limit_of u → cnt j t ≡ 0 → bits_at u hover j ≡ 0)
    → Refresh u (refreshed u hover) t (map_f (λ i g x. wears (pool_of u) (bits i g x) x) t) (any_f (λ i g x. swaps (pool_of u) (bits i g x) x) t)
unfolding refreshed with_stated with_styles wears
a_refresh_is_every_node_wearing_its_bits {t = t} u hover bits r o len w tw st sb fr be bz =
    let is : List ℕ = backwards (stated_of u) ++ three u hover in
    let small = r.small in
    let oi = occ_visited u hover in
    let lim : (j : ℕ) → 0 < occ j is → j < limit_of u = the_slots_of_a_refresh_are_below_the_limit u hover sb in
    let borne : List ℕ = bearing (bits_at u hover) [] (three u hover) in
    let alive : (i : ℕ) → 0 < cnt i t → is_live (limit_of u) u.slots (id_at u.slots i) ≡ true = λ i c.
    live_just_where_a_node_has_it r (id_at u.slots i) ∙ slots_id_is_live r i c in
    let nowIn : AllF (λ i g x. 0 < bits i g x → 0 < occ i (three u hover)) t = all_map (λ i g x. bits_at u hover i ≡ bits i g x) (λ i g x. 0 < bits i g x → 0 < occ i (three u hover)) t
    (λ i g x c e b. a_live_slot_with_bits_is_one_of_the_three u hover i (alive i c) (omega arith)) be in
    let se : stated_of (refreshed u hover) ≡ borne = the_stated_are_those_that_bear u hover in
    let S = what_a_refresh_states u hover len in
    let W : ℕ → ℕ → Info → Type 0 = λ i g x. 0 < x.bits → 0 < occ i (stated_of (refreshed u hover)) in
    record {
      looks = all_slots_wearing_is_every_node_wearing (pool_of u) (bits_at u hover) (appearance_of u) is t bits (λ j z. let l = lim j z in omega arith) o w tw be
          (all_map (λ i g x. 0 < x.bits → 0 < occ i (stated_of u)) (λ i g x. 0 < x.bits → 0 < occ i is) t (λ i g x _ q b. let e = oi i in let v = q b in omega arith) st)
          (all_map (λ i g x. 0 < bits i g x → 0 < occ i (three u hover)) (λ i g x. 0 < bits i g x → 0 < occ i is) t (λ i g x _ q b. let e = oi i in let v = q b in omega arith) nowIn)
          (λ j z c. fr j (lim j z) c) (λ j z c. bz j (lim j z) c);
      with_bits = all_map_f W (λ i g x. wears (pool_of u) (bits i g x) x) t (all_map (λ i g x. (bits_at u hover i ≡ bits i g x)) (λ i g x. W i g (wears (pool_of u) (bits i g x) x)) t
          (λ i g x c e b. subst (λ (l : List ℕ). 0 < occ i l) (sym se)
          (slots_with_bits_are_borne u hover [] (three u hover) i (a_live_slot_with_bits_is_one_of_the_three u hover i (alive i c) (omega arith)) (omega arith))) be);
      stated_below = S.below;
      stated_once = S.each_only_once;
      stated_few = S.few;
      stated_long = S.long;
    }
