-- Document 02, **Wish 6**: confirmed draughts, by node. Each call with its answer and the next tree.
use Rattle.std.specs.Prelude.{ℕ, cond, map}
use Rattle.arithmetic.specs.Tests.{same}
use Rattle.field.specs.Fields.{with_mark, unconfirmed, field_metres, view_of, metres_of_view}
use Rattle.field.specs.declared.NodeId.{NodeId}
use Rattle.field.specs.declared.Field.{Field}
use Rattle.field.specs.declared.Mark.TheVariants.{Confirmed}
use Rattle.tree.specs.Fields.{owns, change_first, ShownMarked, no_marked}
use Rattle.tree.specs.Trees.{with_fields}
use Rattle.tree.specs.Calls.{Outcome, gives, guarded, on_field, shown}
use Rattle.tree.specs.declared.Ui.{Ui}

-- The node's field is confirmed where it reads as metres; else the refusal is that of its metres.
abbrev pub confirm_field : Ui → NodeId → Field → Outcome ℕ
confirm_field u d f =
    cond (same (field_metres f).number 0)
    (gives (with_fields u (change_first (owns d) (λ (g : Field). with_mark g Confirmed) u.fields)) 0)
    (record { next = u; answer = field_metres f })

unfoldable pub confirm : Ui → NodeId → Outcome ℕ
confirm u d = on_field u d 0 (confirm_field u d)

-- The next ship: every field keeps text and caret, and none is confirmed any more, those of dead owners neither.
unfoldable pub next_ship : Ui → Outcome ℕ
next_ship u = guarded u 0 (gives (with_fields u (map unconfirmed u.fields)) 0)

-- The ramp's reader: the confirmed text of the node's field as metres.
unfoldable pub confirmed_metres : Ui → NodeId → Outcome ℕ
confirmed_metres u d = on_field u d 0 (λ f. record { next = u; answer = metres_of_view (view_of f) })

-- The harbour office's reader: text, caret and mark, whatever the mark.
abbrev pub shown_marked : Field → ShownMarked
shown_marked f = record { shown = shown f; caret = f.cursor; mark = f.mark }

unfoldable pub marked_text : Ui → NodeId → Outcome ShownMarked
marked_text u d = on_field u d no_marked (λ f. gives u (shown_marked f))
