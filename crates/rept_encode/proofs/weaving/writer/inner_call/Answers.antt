use Rattle.std.proofs.Common.{arith}
use Rattle.rept_encode.proofs.WeavingLemmas.Weaving.{straight_on}
use Rattle.rept_encode.proofs.weaving.writer.inner_call.Goals as goal

pub loop-i-preserved : goal.loop-i-preserved
loop-i-preserved c = straight_on c.args.rows.now c.loop-i.i c.index-rows-i.result c.index-rows-i.is (omega arith) (let f = c.if-rows-i.false in cc) c.loop-i.invariant
