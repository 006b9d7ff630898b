use Rattle.std.proofs.Common.{arith}
use Rattle.arithmetic.proofs.LoopLaws.{each_none, each_turn, each_done}
use Rattle.arena.proofs.fields.unconfirm.Goals as goal

pub loop-f-init : goal.loop-f-init
loop-f-init c = each_none _ _

pub loop-f-preserved : goal.loop-f-preserved
loop-f-preserved c = each_turn _ _ _ (omega arith) c.loop-f.invariant c.unconfirmed.ensures

pub returns : goal.returns
returns c = each_done _ _ (omega arith) c.loop-f.invariant
