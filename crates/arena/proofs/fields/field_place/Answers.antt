-- The place of the first that passes has the field. Assumes nothing.
use Rattle.std.proofs.Common.{◌≡◌, rules, ap, ◌∙◌}
use Rattle.std.proofs.lemmas.Iterator.{YieldsList-from_slice}
use Rattle.std.proofs.lemmas.Iterator.Search.{position_from_yields_List}
use Rattle.arena.specs.Fields.{owns}
use Rattle.arena.specs.Support.Places.{place_of, field_at}
use Rattle.arena.proofs.Owners.Places.{the_place_has_the_field}
use Rattle.arena.proofs.fields.field_place.Goals as goal

pub returns : goal.returns
unfolding place_of
returns c =
    let e : c.position.result ≡ place_of c.args.d c.args.fields.now = position_from_yields_List (owns c.args.d) _ _ c.position.result c.position.ensures.ran (YieldsList-from_slice c.args.fields.now cc) (λ x b q k. search rules) in
    (e, ap (field_at c.args.fields.now) e ∙ the_place_has_the_field c.args.d c.args.fields.now)
