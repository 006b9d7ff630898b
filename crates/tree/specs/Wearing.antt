-- Document 01, **States**, over the whole tree: what nodes wear for their bits, and how styles and tables change it.
use Rattle.field.specs.declared.NodeId.{NodeId}
use Rattle.std.specs.Prelude.{ℕ, true, cond, List, [], ◌++◌, set, Option}
use Rattle.arithmetic.specs.Tests.{same}
use Rattle.boxes.specs.Styles.{no_patch, layout_at, state_at}
use Rattle.boxes.specs.States.{Appearance, wear, wear_all, with_style, bits_by, live_slot, bearing, based, tabled}
use Rattle.arena.specs.Slots.{backwards}
use Rattle.tree.specs.Trees.{limit_of, pool_of, stated_of, with_styles, with_stated}
use Rattle.tree.specs.declared.Ui.{Ui}
use Rattle.boxes.specs.declared.Style.{Style}

-- What wearing changes of the tree, and the tree with another.
abbrev pub appearance_of : Ui → Appearance
appearance_of u = record { layout = u.layout; states = u.states; dirty = u.dirty }

unfoldable pub with_appearance : Ui → Appearance → Ui
with_appearance u k = with_styles u k.layout k.states k.dirty

-- The bits of slot i as they stand, with `hover` the node under the pointer.
unfoldable pub bits_at : Ui → Option NodeId → ℕ → ℕ
bits_at u hover i = bits_by u.slots hover u.interaction.pressed u.interaction.focus i

-- Every slot that was stated, from the last, then the nodes hovered, pressed and in focus, wear their bits; those of the three with bits are stated.
unfoldable pub refreshed : Ui → Option NodeId → Ui
refreshed u hover =
    let slot_of : Option NodeId → List ℕ = live_slot (limit_of u) u.slots in
    let three = slot_of hover ++ slot_of u.interaction.pressed ++ slot_of u.interaction.focus in
    let k = wear_all (pool_of u) (bits_at u hover) (appearance_of u) (backwards (stated_of u) ++ three) in
    with_stated (with_styles u k.layout k.states k.dirty) (bearing (bits_at u hover) [] three)

-- Slot i gets a base style; it shows where no patch is worn.
unfoldable pub styled_at : Ui → ℕ → Style → Ui
styled_at u i style =
    let s = state_at u.states i in
    with_styles u
    (cond (same s.applied no_patch) (set u.layout i (with_style (layout_at u.layout i) style)) u.layout)
    (set u.states i (based s style)) true

-- Slot i gets a table, and wears what it has for the bits of before.
unfoldable pub tabled_at : Ui → ℕ → List ℕ → Ui
tabled_at u i table =
    let s = state_at u.states i in
    let k = wear (pool_of u) (record { layout = u.layout; states = set u.states i (tabled s table); dirty = u.dirty }) i s.bits in
    with_styles u k.layout k.states k.dirty
