-- Document 01, **States**: what a node wears for its bits, and how styles, tables and the pool change it.
use Rattle.field.specs.declared.NodeId.{NodeId}
use Rattle.std.specs.Prelude.{ℕ, ◌+◌, ◌%◌, Bool, true, ◌&&◌, ◌||◌, not, cond, List, [], ◌∷◌, ◌++◌, ltb, leb, length, get_or, set, None, Option, Some}
use Rattle.arithmetic.specs.Tests.{same, occ, all}
use Rattle.arena.specs.Slots.{Slots, is_live, id_at, is_id}
use Rattle.boxes.specs.Styles.{no_patch, no_state_patch, bare_state, fresh_state, layout_at, state_at}
use Rattle.boxes.specs.declared.Style.{Style}
use Rattle.boxes.specs.declared.LayoutSlot.{LayoutSlot}
use Rattle.boxes.specs.declared.StateSlot.{StateSlot}
use Rattle.boxes.specs.declared.StatePatch.{StatePatch}

-- The table's patch number for some bits.
unfoldable pub entry_of : List ℕ → ℕ → ℕ
entry_of table bits = get_or table (bits % 16) no_patch

-- The style that a patch number gives: the patch's, or the base style where it is not in the pool.
unfoldable pub patch_style : List StatePatch → ℕ → Style → Style
patch_style pool k base = cond (ltb k (length pool)) (get_or pool k no_state_patch).style base

-- Wearing the patch moves boxes, by its own flag.
unfoldable pub touches : List StatePatch → ℕ → Bool
touches pool k = ltb k (length pool) && (get_or pool k no_state_patch).touches_layout

-- A table entry is the base style's or in the pool.
unfoldable pub in_pool : ℕ → ℕ → Bool
in_pool count k = same k no_patch || ltb k count

-- Worn and table numbers in the pool or 65535; bits at most 7.
unfoldable pub state_well : ℕ → StateSlot → Bool
state_well count s = in_pool count s.applied && (all (in_pool count) s.table && leb s.bits 7)

-- What wearing changes: layout slots, state slots, and whether a pass is due.
pub record Appearance : Type 0 where
  pub layout : List LayoutSlot
  pub states : List StateSlot
  pub dirty : Bool

abbrev pub with_style : LayoutSlot → Style → LayoutSlot
with_style l s = record { style = s; rect = l.rect; wanted_width = l.wanted_width; wanted_height = l.wanted_height }

abbrev pub wearing : StateSlot → ℕ → ℕ → StateSlot
wearing s patch bits' = record { table = s.table; base = s.base; applied = patch; bits = bits' }

-- Slot i wears what its table has for the bits. Where that is another patch, its style is swapped, and a pass is due if either patch moves boxes.
unfoldable pub wear : List StatePatch → Appearance → ℕ → ℕ → Appearance
wear pool k i bits' =
    let s = state_at k.states i in
    let next = entry_of s.table bits' in
    cond (same next s.applied)
    (record { layout = k.layout; states = set k.states i (wearing s next bits'); dirty = k.dirty })
    (record {
      layout = set k.layout i (with_style (layout_at k.layout i) (patch_style pool next s.base));
      states = set k.states i (wearing s next bits');
      dirty = k.dirty || (touches pool s.applied || touches pool next);
    })

-- Hover 1, pressed 2, focus 4.
unfoldable pub bits_of : Bool → Bool → Bool → ℕ
bits_of hover pressed focus = cond hover 1 0 + cond pressed 2 0 + cond focus 4 0

-- The bits of slot i, with the ids of the nodes hovered, pressed and in focus.
abbrev pub bits_by : Slots → Option NodeId → Option NodeId → Option NodeId → ℕ → ℕ
bits_by s hover pressed focus i =
    let d = id_at s i in
    bits_of (is_id hover d) (is_id pressed d) (is_id focus d)

-- Each slot of a list wears its bits.
unfoldable pub wear_all : List StatePatch → (ℕ → ℕ) → Appearance → List ℕ → Appearance
wear_all pool bits' k [] = k
wear_all pool bits' k (i ∷ is) = wear_all pool bits' (wear pool k i (bits' i)) is

-- The slot of an id that is live, as a list of at most one.
unfoldable pub live_slot : ℕ → Slots → Option NodeId → List ℕ
live_slot n s None = []
live_slot n s (Some d) = cond (is_live n s d) (d.index ∷ []) []

-- Those with bits other than 0, each once, in order.
unfoldable pub bearing : (ℕ → ℕ) → List ℕ → List ℕ → List ℕ
bearing bits' kept [] = kept
bearing bits' kept (i ∷ is) = bearing bits' (cond (same (bits' i) 0 || not (same (occ i kept) 0)) kept (kept ++ i ∷ [])) is

-- A state slot with another base style, and one with another table.
abbrev pub based : StateSlot → Style → StateSlot
based s style = record { table = s.table; base = style; applied = s.applied; bits = s.bits }

abbrev pub tabled : StateSlot → List ℕ → StateSlot
tabled s table' = record { table = table'; base = s.base; applied = s.applied; bits = s.bits }

-- A slot without a table, bits or patch: its base style shows, and a pass is due where a patch was worn.
unfoldable pub bared : Appearance → ℕ → Appearance
bared k i =
    let s = state_at k.states i in
    cond (same s.applied no_patch)
    (record { layout = k.layout; states = set k.states i (bare_state s.base); dirty = k.dirty })
    (record { layout = set k.layout i (with_style (layout_at k.layout i) s.base); states = set k.states i (bare_state s.base); dirty = true })

unfoldable pub bare_all : Appearance → List ℕ → Appearance
bare_all k [] = k
bare_all k (i ∷ is) = bare_all (bared k i) is

-- The state slots of those that leave the tree are as new.
unfoldable pub reset_states : List StateSlot → List ℕ → List StateSlot
reset_states l [] = l
reset_states l (i ∷ is) = reset_states (set l i fresh_state) is
