-- What wearing and baring do past the slots, and slot after slot. Assumes nothing.
use mathlib.Core.Path.{◌≡◌, refl, ◌∙◌}
use mathlib.Core.Bool.{Bool, true, false, ◌||◌, cond}
use mathlib.Core.List.{List, [], ◌∷◌, ◌++◌}
use Prim.Native.Nat.{ℕ, ◌≤◌}
use lib.ListN.{length, set, length-set, get_or-eq_default}
use lib.Seq.{set_out}
use Rattle.arithmetic.specs.Tests.{same}
use Rattle.boxes.specs.Styles.{no_state, no_style, no_patch, layout_at, state_at, bare_state}
use Rattle.boxes.specs.States.{Appearance, wearing, with_style, wear, patch_style, entry_of, touches, bared, wear_all}
use Rattle.boxes.specs.declared.StatePatch.{StatePatch}
use Rattle.boxes.specs.declared.StateSlot.{StateSlot}
use Rattle.boxes.specs.declared.LayoutSlot.{LayoutSlot}

-- past the slots a slot of zeros is read, and nothing is stored
pub wear_past : (p : List StatePatch) (k : Appearance) (i b : ℕ) → length k.layout ≤ i → length k.states ≤ i
    → wear p k i b ≡ record { layout = k.layout; states = k.states; dirty = k.dirty || (touches p 0 || touches p no_patch) }
unfolding wear state_at entry_of same
wear_past p k i b h g =
    rw (
      get_or-eq_default k.states no_state g,
      set_out k.states i (wearing no_state no_patch b) g,
      set_out k.layout i (with_style (layout_at k.layout i) (patch_style p no_patch no_style)) h,
    ) refl

pub bared_past : (k : Appearance) (i : ℕ) → length k.layout ≤ i → length k.states ≤ i
    → bared k i ≡ record { layout = k.layout; states = k.states; dirty = true }
unfolding bared state_at same
bared_past k i h g =
    rw (
      get_or-eq_default k.states no_state g,
      set_out k.states i (bare_state no_style) g,
      set_out k.layout i (with_style (layout_at k.layout i) no_style) h,
    ) refl

-- what is worn after one slot more
pub worn_behind : (p : List StatePatch) (bits : ℕ → ℕ) (k : Appearance) (l : List ℕ) (i : ℕ) → wear_all p bits k (l ++ (i ∷ [])) ≡ wear p (wear_all p bits k l) i (bits i)
unfolding wear_all
worn_behind p bits k [] i = refl
worn_behind p bits k (x ∷ l) i = worn_behind p bits (wear p k x (bits x)) l i

-- wearing keeps the arrays' lengths
wear_lengths : (p : List StatePatch) (k : Appearance) (i b : ℕ) → (length (wear p k i b).layout ≡ length k.layout) × (length (wear p k i b).states ≡ length k.states)
unfolding wear
wear_lengths p k i b = go (same (entry_of (state_at k.states i).table b) (state_at k.states i).applied)
  where
    s : StateSlot
    s = state_at k.states i

    n : ℕ
    n = entry_of s.table b

    l : List LayoutSlot
    l = set k.layout i (with_style (layout_at k.layout i) (patch_style p n s.base))

    t : List StateSlot
    t = set k.states i (wearing s n b)

    go : (q : Bool) → let r : Appearance = cond q (record { layout = k.layout; states = t; dirty = k.dirty }) (record { layout = l; states = t; dirty = k.dirty || (touches p s.applied || touches p n) }) in
        (length r.layout ≡ length k.layout) × (length r.states ≡ length k.states)
    go true = (refl, length-set k.states i (wearing s n b))
    go false = (length-set k.layout i (with_style (layout_at k.layout i) (patch_style p n s.base)), length-set k.states i (wearing s n b))

pub all_lengths : (p : List StatePatch) (bits : ℕ → ℕ) (k : Appearance) (l : List ℕ) → (length (wear_all p bits k l).layout ≡ length k.layout) × (length (wear_all p bits k l).states ≡ length k.states)
unfolding wear_all
all_lengths p bits k [] = (refl, refl)
all_lengths p bits k (i ∷ is) =
    let a = all_lengths p bits (wear p k i (bits i)) is in
    let b = wear_lengths p k i (bits i) in
    (a.0 ∙ b.0, a.1 ∙ b.1)
