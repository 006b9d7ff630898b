-- A case for each form of the owner. Assumes nothing.
use Rattle.std.proofs.Common.{not, rules}
use Rattle.std.proofs.lemmas.Iterator.{YieldsList-from_slice}
use Rattle.std.proofs.lemmas.Iterator.Search.{all_from_yields_List}
use Rattle.field.specs.declared.Field.{Field}
use Rattle.arena.specs.Slots.{is_id}
use Rattle.arena.proofs.fields.is_lone.Goals as goal

pub returns-in-Some : goal.returns-in-Some
returns-in-Some c =
    rw c.in-Some.is (all_from_yields_List (λ (g : Field). not (is_id g.owner c.in-Some.d)) _ _ c.all.result c.all.ensures.ran (YieldsList-from_slice c.args.fields.now cc) (λ x b q k. search rules))
