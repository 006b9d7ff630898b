-- Past the bytes stands no tail. Assumes nothing.
use mathlib.Core.Path.{sym}
use borrow.Author.Rules.{rules}
use Rattle.text.proofs.Walks.{no_tail_past}
use Rattle.text.proofs.utf8.tail_at.Goals as goal

pub returns-in-None : goal.returns-in-None
returns-in-None c = sym (no_tail_past c.args.s.now c.args.i (search rules))
