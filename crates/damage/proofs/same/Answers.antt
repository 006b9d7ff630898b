use Rattle.std.proofs.Common.{rules}
use Rattle.damage.proofs.Decided.{same_ui}
use Rattle.damage.proofs.same.Goals as goal

pub returns : goal.returns
returns c = let d = same_ui c.args.a.now c.args.b.now in search (rules, d)
