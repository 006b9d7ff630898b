-- What stands behind the text is filled. Assumes nothing.
use Rattle.std.proofs.Common.{rules}
use Rattle.field.specs.Fields.{shown_of}
use Rattle.field.proofs.Clear.{filled}
use Rattle.field.proofs.Field.shown.Goals as goal

pub returns : goal.returns
unfolding shown_of
returns c = let f = c.args.self in let e = c.fill.ensures.after (λ y h. h) in
    rw c.held-n.ensures (filled f.bytes f.len (search rules) (rw c.held-n.ensures at e))
