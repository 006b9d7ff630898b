-- The closure is the edit. Assumes nothing.
use Rattle.std.proofs.Common.{◌≡◌, rules}
use Rattle.arithmetic.proofs.TestLaws.{bool_cases}
use Rattle.field.specs.Fields.{field_ok, edit_answer, edited}
use Rattle.field.proofs.Field.try_edit.Goals as goal

pub returns : goal.returns
unfolding edit_answer
returns c =
    bool_cases (field_ok c.args.self)
    (λ e. let s = c.tried.ensures.sound e in let f : c.tried.result.field ≡ edited c.args.self c.args.op = search rules in rw (e, f, s.1))
    (λ e. rw (e, c.tried.ensures.broken e))
