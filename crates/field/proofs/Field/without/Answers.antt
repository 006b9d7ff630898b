-- The bytes moved down are the text without the cut, over the old bytes. Assumes nothing.
use Rattle.std.proofs.Common.{◌≡◌, ℕ, ◌-◌, ◌≤◌, List, ◌∙◌, arith, cond, length}
use Rattle.std.specs.Prelude.{ltb}
use borrow.Author.Tests.{lt-ltb, le-ltb}
use lib.Seq.{paste}
use lib.ListN.{drop}
use Rattle.field.specs.Fields.{cut_out}
use Rattle.field.specs.declared.Field.{Field}
use Rattle.field.specs.declared.Mark.{Mark}
use Rattle.field.specs.declared.Mark.TheVariants.{Typed}
use Rattle.field.proofs.Pastes.{cut}
use Rattle.field.proofs.Field.without.Goals as goal

cut_lem : (f : Field) (from to : ℕ) {d : List ℕ} {m : Mark} → from ≤ to → to ≤ f.len → f.len ≤ length f.bytes
    → d ≡ paste f.bytes from (drop to f.bytes) (f.len - to) → m ≡ cond (ltb from to) Typed f.mark
    → record { owner = f.owner; bytes = d; len = f.len - (to - from); cursor = from; mark = m } ≡ cut_out f from to
unfolding cut_out
cut_lem f from to h k l e w =
    let p = e ∙ cut f.bytes from to f.len h k l in
    λ i. record { owner = f.owner; bytes = p i; len = f.len - (to - from); cursor = from; mark = w i }

pub returns-then-from-to : goal.returns-then-from-to
returns-then-from-to c =
    cut_lem c.args.self c.args.from c.args.to c.requires.0 c.requires.1 (omega arith) c.copy_within.ensures.after (rw (lt-ltb c.args.from c.args.to c.if-from-to.true))

pub returns-else-from-to : goal.returns-else-from-to
returns-else-from-to c =
    cut_lem c.args.self c.args.from c.args.to c.requires.0 c.requires.1 (omega arith) c.copy_within.ensures.after (rw (le-ltb c.args.from c.args.to c.if-from-to.false))
