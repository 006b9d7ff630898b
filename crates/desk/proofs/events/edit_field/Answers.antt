-- By the place of the node's field, and whether the key changed it. Assumes nothing.
use Rattle.std.specs.Prelude.{Some}
use mathlib.Core.Path.{◌≡◌, sym, ap, ◌∙◌}
use lib.ListN.{set}
use Rattle.tree.specs.Fields.{owns, change_first}
use Rattle.tree.specs.Places.{place_of}
use Rattle.tree.specs.Trees.{with_interaction, with_fields}
use Rattle.tree.proofs.Places.{the_place_is_changed}
use Rattle.desk.specs.Events.{keyed_field, edit_fold}
use Rattle.desk.proofs.events.edit_field.Goals as goal

pub returns-then-has_changed : goal.returns-then-has_changed
unfolding with_interaction with_fields edit_fold
returns-then-has_changed c =
    let u = c.args.u.now in
    let h : place_of c.args.d u.fields ≡ Some c.in-Some.i = sym c.field_place.ensures.0 ∙ c.in-Some.is in
    let fs : c.set_field.new.fields ≡ change_first (owns c.args.d) (keyed_field c.args.key) u.fields = c.set_field.ensures ∙ ap (set u.fields c.in-Some.i) (c.keyed_field-g.ensures ∙ ap (keyed_field c.args.key) c.field_at-f.ensures) ∙ the_place_is_changed c.args.d (keyed_field c.args.key) u.fields c.in-Some.i h in
    rw (← c.field_place.ensures.1, c.in-Some.is, ← fs, ← c.field_at-f.ensures, ← c.keyed_field-g.ensures, sym c.has_changed.ensures ∙ c.if-has_changed.true, c.edit_fold-u.ensures)

pub returns-else-has_changed : goal.returns-else-has_changed
unfolding with_interaction with_fields
returns-else-has_changed c =
    let u = c.args.u.now in
    let h : place_of c.args.d u.fields ≡ Some c.in-Some.i = sym c.field_place.ensures.0 ∙ c.in-Some.is in
    let fs : c.set_field.new.fields ≡ change_first (owns c.args.d) (keyed_field c.args.key) u.fields = c.set_field.ensures ∙ ap (set u.fields c.in-Some.i) (c.keyed_field-g.ensures ∙ ap (keyed_field c.args.key) c.field_at-f.ensures) ∙ the_place_is_changed c.args.d (keyed_field c.args.key) u.fields c.in-Some.i h in
    rw (← c.field_place.ensures.1, c.in-Some.is, ← fs, ← c.field_at-f.ensures, ← c.keyed_field-g.ensures, sym c.has_changed.ensures ∙ c.if-has_changed.false)
