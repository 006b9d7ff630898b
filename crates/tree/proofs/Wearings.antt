-- What is bare slot after slot, and what the slots in turn wear. Assumes nothing.
use Rattle.field.specs.declared.NodeId.{NodeId}
use Rattle.std.specs.Prelude.{Option, true, false}
use mathlib.Core.Path.{◌≡◌, refl, sym, ap, ◌∙◌}
use mathlib.Core.List.{List, [], ◌++◌}
use Prim.Native.Nat.{ℕ, suc, ◌+◌, ◌-◌, ◌≤◌, ◌<◌}
use native.Mathlib.Omega.{arith}
use lib.ListN.{length, get_or, set, take}
use lib.Seq.{take-suc, take_all}
use Rattle.arithmetic.specs.Tests.{same, from_to}
use Rattle.arena.specs.Slots.{id_at, is_id, backwards}
use Rattle.arena.specs.declared.listed.Listed.{Listed}
use Rattle.boxes.specs.Styles.{no_patch, layout_at, state_at, bare_state}
use Rattle.boxes.specs.States.{live_slot, bits_by, Appearance, with_style, wear, bared, bare_all, wear_all, bits_of, bearing}
use Rattle.boxes.specs.Support.Wearing.{kept_as}
use Rattle.tree.specs.Wearing.{appearance_of, bits_at, with_appearance, refreshed}
use Rattle.tree.specs.Trees.{limit_of, pool_of, with_styles, stated_of, with_stated}
use Rattle.tree.specs.declared.Ui.{Ui}
use Rattle.boxes.specs.declared.StateSlot.{StateSlot}
use Rattle.boxes.specs.declared.LayoutSlot.{LayoutSlot}
use Rattle.boxes.proofs.Styles.Wearings.{worn_behind}

-- one slot made bare, as the code stores it
module _ (v : Ui) (i : ℕ) where
  pub bared_as_it_is : {x : StateSlot} → x ≡ bare_state (state_at v.states i).base → same (state_at v.states i).applied no_patch ≡ true
      → with_styles v v.layout (set v.states i x) v.dirty ≡ with_appearance v (bared (appearance_of v) i)
  unfolding with_appearance bared
  bared_as_it_is e q = rw (q, e)

  pub bared_anew : {x : StateSlot} {y : LayoutSlot} → x ≡ bare_state (state_at v.states i).base → same (state_at v.states i).applied no_patch ≡ false
      → y ≡ with_style (layout_at v.layout i) (state_at v.states i).base → with_styles v (set v.layout i y) (set v.states i x) true ≡ with_appearance v (bared (appearance_of v) i)
  unfolding with_appearance bared
  bared_anew e q f = rw (q, e, f)

turn : (v : Ui) (i k : ℕ) → with_appearance (with_appearance v (bared (appearance_of v) i)) (bare_all (appearance_of (with_appearance v (bared (appearance_of v) i))) (from_to (suc i) k)) ≡ with_appearance v (bare_all (appearance_of v) (from_to i (suc k)))
unfolding with_appearance with_styles bare_all
turn v i k = refl

stay : (v : Ui) (i : ℕ) → v ≡ with_appearance v (bare_all (appearance_of v) (from_to i 0))
unfolding with_appearance with_styles bare_all
stay v i = refl

pub bare_start : (u : Ui) (n : ℕ) → with_appearance u (bare_all (appearance_of u) (from_to 0 (n - 0))) ≡ with_appearance u (bare_all (appearance_of u) (from_to 0 n))
bare_start u n =
    let m : n - 0 ≡ n = omega arith in
    ap (λ (k : ℕ). with_appearance u (bare_all (appearance_of u) (from_to 0 k))) m

-- one slot more is bare
module _ (u v w : Ui) (i n : ℕ) where
  pub bare_more : i < n → w ≡ with_appearance v (bared (appearance_of v) i) → with_appearance v (bare_all (appearance_of v) (from_to i (n - i))) ≡ with_appearance u (bare_all (appearance_of u) (from_to 0 n))
      → with_appearance w (bare_all (appearance_of w) (from_to (i + 1) (n - (i + 1)))) ≡ with_appearance u (bare_all (appearance_of u) (from_to 0 n))
  bare_more h e q =
      let m : suc (n - (i + 1)) ≡ n - i = omega arith in
      let o : i + 1 ≡ suc i = omega arith in
      let x : Ui = with_appearance v (bared (appearance_of v) i) in
      rw e (ap (λ (j : ℕ). with_appearance x (bare_all (appearance_of x) (from_to j (n - (i + 1))))) o ∙ turn v i (n - (i + 1)) ∙ ap (λ (k : ℕ). with_appearance v (bare_all (appearance_of v) (from_to i k))) m ∙ q)

  pub bare_done : n ≤ i → with_appearance v (bare_all (appearance_of v) (from_to i (n - i))) ≡ with_appearance u (bare_all (appearance_of u) (from_to 0 n)) → v ≡ with_appearance u (bare_all (appearance_of u) (from_to 0 n))
  bare_done h q =
      let m : 0 ≡ n - i = omega arith in
      stay v i ∙ ap (λ (k : ℕ). with_appearance v (bare_all (appearance_of v) (from_to i k))) m ∙ q

-- ---- the slots in turn

pub look_slots : (u : Ui) (k : Appearance) (v : Ui) → v ≡ with_appearance u k → v.slots ≡ u.slots
unfolding with_appearance with_styles
look_slots u k v e = ap (λ (x : Ui). x.slots) e

pub bits_there : (u v : Ui) (hover : Option NodeId) (i : ℕ) → v.slots ≡ u.slots
    → bits_of (is_id hover (id_at v.slots i)) (is_id u.interaction.pressed (id_at v.slots i)) (is_id u.interaction.focus (id_at v.slots i)) ≡ bits_at u hover i
unfolding bits_at
bits_there u v hover i e = rw e

module _ (u : Ui) (hover : Option NodeId) (l : List ℕ) where
  -- the looks after the first j of the list
  unfoldable pub look_after : ℕ → Appearance
  look_after j = wear_all (pool_of u) (bits_at u hover) (appearance_of u) (take j l)

  pub look_first : u ≡ with_appearance u (look_after 0)
  unfolding look_after with_appearance with_styles wear_all
  look_first = refl

  pub look_last : (v : Ui) (j : ℕ) → length l ≤ j → v ≡ with_appearance u (look_after j) → v ≡ with_appearance u (wear_all (pool_of u) (bits_at u hover) (appearance_of u) l)
  unfolding look_after
  look_last v j h e = e ∙ ap (λ (m : List ℕ). with_appearance u (wear_all (pool_of u) (bits_at u hover) (appearance_of u) m)) (take_all j l h)

  look_next : (j : ℕ) → j < length l → wear (pool_of u) (look_after j) (get_or l j 0) (bits_at u hover (get_or l j 0)) ≡ look_after (j + 1)
  unfolding look_after
  look_next j h =
      let e : j + 1 ≡ suc j = omega arith in
      sym (ap (λ (m : ℕ). wear_all (pool_of u) (bits_at u hover) (appearance_of u) (take m l)) e ∙ ap (wear_all (pool_of u) (bits_at u hover) (appearance_of u)) (take-suc l j 0 h) ∙ worn_behind (pool_of u) (bits_at u hover) (appearance_of u) (take j l) (get_or l j 0))

  -- wearing is the same on a tree that has other looks
  wear_again : (k : Appearance) (i b : ℕ) → with_appearance (with_appearance u k) (wear (pool_of (with_appearance u k)) (appearance_of (with_appearance u k)) i b) ≡ with_appearance u (wear (pool_of u) k i b)
  unfolding with_appearance with_styles
  wear_again k i b = refl

  pub look_more : (v w : Ui) (j b : ℕ) → j < length l → v ≡ with_appearance u (look_after j) → b ≡ bits_at u hover (get_or l j 0)
      → w ≡ with_appearance v (wear (pool_of v) (appearance_of v) (get_or l j 0) b) → w ≡ with_appearance u (look_after (j + 1))
  look_more v w j b h e eb q =
      q
      ∙ ap (λ (x : Ui). with_appearance x (wear (pool_of x) (appearance_of x) (get_or l j 0) b)) e
      ∙ wear_again (look_after j) (get_or l j 0) b
      ∙ ap (with_appearance u) (ap (wear (pool_of u) (look_after j) (get_or l j 0)) eb ∙ look_next j h)

-- the three that may have bits
three_of : Ui → Option NodeId → List ℕ
three_of u hover = live_slot (limit_of u) u.slots hover ++ live_slot (limit_of u) u.slots u.interaction.pressed ++ live_slot (limit_of u) u.slots u.interaction.focus

pub refreshed_whole : (u v : Ui) (hover : Option NodeId) {l items : List ℕ} {n : ℕ} → v ≡ with_appearance u (wear_all (pool_of u) (bits_at u hover) (appearance_of u) l)
    → l ≡ backwards (stated_of u) ++ (live_slot (limit_of u) u.slots hover ++ live_slot (limit_of u) u.slots u.interaction.pressed ++ live_slot (limit_of u) u.slots u.interaction.focus)
    → record { items = items; count = n } ≡ kept_as (bearing (bits_by u.slots hover u.interaction.pressed u.interaction.focus) [] (live_slot (limit_of u) u.slots hover ++ live_slot (limit_of u) u.slots u.interaction.pressed ++ live_slot (limit_of u) u.slots u.interaction.focus)) u.stated
    → record { slots = v.slots; layout = v.layout; dirty = v.dirty; solved_for = v.solved_for; interaction = v.interaction; outputs = v.outputs; output_count = v.output_count; states = v.states; patches = v.patches; patch_count = v.patch_count; stated = items; stated_count = n; layout_passes = v.layout_passes; free = v.free; live = v.live; limits = v.limits; fields = v.fields }
    ≡ refreshed u hover
unfolding refreshed with_appearance with_styles with_stated three_of bits_at
refreshed_whole u v hover {l = l} {items = items} {n = n} e f k =
    let g : v ≡ with_appearance u (wear_all (pool_of u) (bits_at u hover) (appearance_of u) (backwards (stated_of u) ++ three_of u hover)) = e ∙ ap (λ (m : List ℕ). with_appearance u (wear_all (pool_of u) (bits_at u hover) (appearance_of u) m)) f in
    rw (g, ap (λ (x : Listed 3). x.items) k, ap (λ (x : Listed 3). x.count) k) refl
