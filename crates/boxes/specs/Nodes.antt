-- Document 01, the history: what is known of a node, and what the calls make of it, by structural recursion over the nodes alone.
use Rattle.std.specs.Prelude.{ℕ, Bool, true, false, ◌&&◌, ◌||◌, not, cond, List, [], ◌∷◌, Option, None, Some}
use Rattle.field.specs.Marks.{Marked}
use Rattle.field.specs.declared.NodeId.{NodeId}
use Rattle.arithmetic.specs.Tests.{same}
use Rattle.boxes.specs.Styles.{no_patch, no_rect, fresh_style, fresh_table}
use Rattle.boxes.specs.States.{entry_of, patch_style, touches, bits_of}
use Rattle.boxes.specs.Layout.{Child, want, place, holds}
use Rattle.arena.specs.Forest.{Forest, nil, node, has_both, map_f}
use Rattle.boxes.specs.declared.Style.{Style}
use Rattle.boxes.specs.declared.Rect.{Rect}
use Rattle.boxes.specs.declared.StatePatch.{StatePatch}
use Rattle.boxes.specs.declared.Pixel.{Pixel}

-- A node's name, base style, table, worn patch, bits, worn style and box, and the text and mark of its field if it has one.
pub record Info : Type 0 where
  pub name : ℕ
  pub base : Style
  pub table : List ℕ
  pub applied : ℕ
  pub bits : ℕ
  pub style : Style
  pub rect : Rect
  pub marked : Option Marked

abbrev pub new_info : ℕ → Info
new_info m = record { name = m; base = fresh_style; table = fresh_table; applied = no_patch; bits = 0; style = fresh_style; rect = no_rect; marked = None }

-- A node with some of it changed.
abbrev pub dressed : Info → Style → List ℕ → ℕ → ℕ → Style → Info
dressed x base' table' applied' bits' style' = record { name = x.name; base = base'; table = table'; applied = applied'; bits = bits'; style = style'; rect = x.rect; marked = x.marked }

abbrev pub with_box : Info → Rect → Info
with_box x r = record { name = x.name; base = x.base; table = x.table; applied = x.applied; bits = x.bits; style = x.style; rect = r; marked = x.marked }

abbrev pub with_field : Info → Option Marked → Info
with_field x e = record { name = x.name; base = x.base; table = x.table; applied = x.applied; bits = x.bits; style = x.style; rect = x.rect; marked = e }

-- The node that has the id, changed.
abbrev pub change_of : NodeId → (Info → Info) → Forest Info → Forest Info
change_of d f t = map_f (λ i g x. cond (has_both d i g) (f x) x) t

-- The node that has the name, changed.
abbrev pub is_named : Option ℕ → Info → Bool
is_named None x = false
is_named (Some m) x = same m x.name

abbrev pub change_named : Option ℕ → (Info → Info) → Forest Info → Forest Info
change_named m f t = map_f (λ i g x. cond (is_named m x) (f x) x) t

-- The node wears what its table has for the bits; a pass is due if that swaps patches of which one moves boxes.
unfoldable pub wears : List StatePatch → ℕ → Info → Info
wears pool bits' x =
    let next = entry_of x.table bits' in
    dressed x x.base x.table next bits' (cond (same next x.applied) x.style (patch_style pool next x.base))

unfoldable pub swaps : List StatePatch → ℕ → Info → Bool
swaps pool bits' x =
    let next = entry_of x.table bits' in
    not (same next x.applied) && (touches pool x.applied || touches pool next)

-- A node's bits, from the names of the nodes hovered, pressed and in focus.
unfoldable pub bits_for : Option ℕ → Option ℕ → Option ℕ → Info → ℕ
bits_for hover pressed focus x = bits_of (is_named hover x) (is_named pressed x) (is_named focus x)

-- A base style: it shows where no patch is worn.
unfoldable pub restyled : Style → Info → Info
restyled s x = dressed x s x.table x.applied x.bits (cond (same x.applied no_patch) s x.style)

-- A table: the node wears what it has for the bits of before.
abbrev pub with_table : List ℕ → Info → Info
with_table table' x = dressed x x.base table' x.applied x.bits x.style

-- No table, bits or patch.
unfoldable pub bare : Info → Info
bare x = dressed x x.base fresh_table no_patch 0 (cond (same x.applied no_patch) x.style x.base)

-- Layout: what each of the topmost nodes wants, children first; then the boxes, parents first.
abbrev pub wants_f : Forest Info → List Child
wants_f nil = []
wants_f (node i g x cs sib) = record { style = x.style; wants = want x.style (wants_f cs) } ∷ wants_f sib

abbrev pub place_f : Forest Info → List Rect → Forest Info
place_f nil rs = nil
place_f (node i g x cs sib) [] = node i g x cs sib
place_f (node i g x cs sib) (r ∷ rs) = node i g (with_box x r) (place_f cs (place x.style r (wants_f cs))) (place_f sib rs)

-- The name of the node under a pixel: the last of the topmost nodes that holds it, or rather what holds it below that one; else d.
abbrev pub hit_f : Pixel → Option ℕ → Forest Info → Option ℕ
hit_f pixel d nil = d
hit_f pixel d (node i g x cs sib) = hit_f pixel (cond (holds pixel.x pixel.y x.rect) (hit_f pixel (Some x.name) cs) d) sib

-- How many nodes have a field.
abbrev pub bit : Bool → ℕ
bit b = cond b 1 0

abbrev pub has_field : Info → Bool
has_field x = is_just x.marked
  where
    is_just : Option Marked → Bool
    is_just None = false
    is_just (Some e) = true
