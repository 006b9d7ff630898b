-- Document 01, "Link rules", one by one in its order. A tree that breaks one is refused by every call.
use Rattle.std.specs.Prelude.{Bool, ◌&&◌, not, leb, take}
use Rattle.field.specs.Fields.{field_ok}
use Rattle.arithmetic.specs.Tests.{all}
use Rattle.arena.specs.Rules.{linked, distinct, owners_well}
use Rattle.boxes.specs.States.{state_well}
use Rattle.tree.specs.Trees.{limit_of, stated_of}
use Rattle.tree.specs.declared.Ui.{Ui}

unfoldable pub links_well : Ui → Bool
links_well u = linked (limit_of u) u.slots u.free u.live

unfoldable pub broken : Ui → Bool
broken u =
    not (
    (leb 1 (limit_of u) && leb (limit_of u) 128)
    && (leb u.patch_count 64
    && (links_well u
    && (all (state_well u.patch_count) (take (limit_of u) u.states)
    && (leb u.stated_count 3
    && (distinct (limit_of u) (stated_of u)
    && (leb u.output_count (limit_of u)
    && (owners_well u.fields
    && all field_ok u.fields)))))))
    )
