use Rattle.std.proofs.Common.{arith}
use Rattle.rept_encode.proofs.WeavingLemmas.Weaving.{told_on}
use Rattle.rept_encode.proofs.weaving.writer.stream_of.Goals as goal

pub loop-i-preserved : goal.loop-i-preserved
loop-i-preserved c = told_on c.args.halves c.all-stretches.result.now c.loop-i.i c.index-stretches-i.result c.loop-i.stream c.push_stretch.new.out (omega arith) c.index-stretches-i.is c.loop-i.invariant c.in_default.ensures.ok
