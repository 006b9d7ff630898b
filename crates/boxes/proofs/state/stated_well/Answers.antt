-- A case for each count. Assumes nothing.
use borrow.Author.Rules.{rules}
use Rattle.arena.proofs.Checks.Stated.{none_is_stated, one_is_stated, two_are_stated, three_are_stated}
use Rattle.boxes.proofs.state.stated_well.Goals as goal

pub returns-in-0 : goal.returns-in-0
returns-in-0 c = none_is_stated c.args.stated c.args.limit c.args.count (search rules)

pub returns-in-1 : goal.returns-in-1
returns-in-1 c = one_is_stated c.args.stated c.args.limit c.args.count (search rules) (search rules)

pub returns-in-2 : goal.returns-in-2
returns-in-2 c = two_are_stated c.args.stated c.args.limit c.args.count (search rules) (search rules)

pub returns-in-3 : goal.returns-in-3
returns-in-3 c = three_are_stated c.args.stated c.args.limit c.args.count (search rules) (search rules)
