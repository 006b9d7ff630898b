-- The first free one is where the search found it. Assumes nothing.
use Rattle.std.proofs.Common.{◌≡◌, rules, sym, ◌∙◌}
use Rattle.std.specs.List.{position}
use Rattle.std.proofs.lemmas.Iterator.{YieldsList-from_slice}
use Rattle.std.proofs.lemmas.Iterator.Search.{position_from_yields_List}
use Rattle.field.specs.declared.Field.{Field}
use Rattle.field.specs.Fields.{own_field}
use Rattle.arena.specs.Fields.{vacant, claimed}
use Rattle.arena.proofs.Owners.Places.{the_first_is_changed, nothing_changes}
use Rattle.arena.proofs.fields.claim.Goals as goal

pub returns-in-Some : goal.returns-in-Some
unfolding claimed
returns-in-Some c =
    let e : c.position.result ≡ position vacant c.args.fields.now = position_from_yields_List vacant _ _ c.position.result c.position.ensures.ran (YieldsList-from_slice c.args.fields.now cc) (λ x b q k. search rules) in
    rw c.owned.ensures (the_first_is_changed vacant (λ (f : Field). own_field c.args.d) c.args.fields.now c.in-Some.i (sym e ∙ c.in-Some.is))

pub returns-in_default : goal.returns-in_default
unfolding claimed
returns-in_default c =
    let e : c.position.result ≡ position vacant c.args.fields.now = position_from_yields_List vacant _ _ c.position.result c.position.ensures.ran (YieldsList-from_slice c.args.fields.now cc) (λ x b q k. search rules) in
    sym (nothing_changes vacant (λ (f : Field). own_field c.args.d) c.args.fields.now (sym e ∙ c.in_default.is))
