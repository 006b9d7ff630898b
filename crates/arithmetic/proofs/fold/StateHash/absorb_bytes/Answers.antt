use mathlib.Core.Path.{sym}
use native.Mathlib.Omega.{arith}
use Rattle.arithmetic.proofs.FoldLaws.{absorbed_none, absorbed_more}
use Rattle.arithmetic.proofs.fold.StateHash.absorb_bytes.Goals as goal

pub loop-b-init : goal.loop-b-init
loop-b-init c = sym (absorbed_none c.args.self)

pub loop-b-preserved : goal.loop-b-preserved
loop-b-preserved c = rw (c.absorb_byte-hash.ensures, c.loop-b.invariant) (absorbed_more c.args.self c.args.s.now c.loop-b.b-index (omega arith))
