use mathlib.Core.Path.{ap}
use native.Mathlib.Omega.{arith}
use lib.ListN.{length}
use Rattle.text.specs.Lines.{widest_in}
use Rattle.text.specs.Support.LineParts.{weight_of}
use Rattle.text.proofs.LineParts.{no_lines, one_line_more}
use Rattle.text.proofs.lines.Label.counted.Goals as goal

pub loop-at-preserved : goal.loop-at-preserved
unfolding widest_in
loop-at-preserved c =
    let q = c.line-l.ensures in
    let e = one_line_more c.args.self.now.width c.loop-at.at c.args.self.now.bytes.now c.loop-at-test.true in
    let v = c.loop-at.invariant in
    rw (q.ends, c.max-widest.ensures, q.wide)
    (omega (arith, ap length e), omega (arith, ap (widest_in weight_of) e), omega (arith, q.ends, q.inside), omega arith)

pub returns : goal.returns
unfolding widest_in
returns c =
    let e = no_lines c.args.self.now.width c.loop-at.at c.args.self.now.bytes.now c.loop-at-test.false in
    (omega (arith, ap length e), omega (arith, ap (widest_in weight_of) e), omega (arith, c.args.self.now.short))
