use Rattle.std.proofs.Common.{arith}
use Rattle.rept_writing.proofs.Rising.{settled_all}
use Rattle.rept_writing.proofs.columns.settle.Goals as goal

pub returns-clause-least : goal.returns-clause-least
returns-clause-least c = settled_all _ _ c.loop-p.p c.loop-p.least (omega arith) c.loop-p.invariant.settled
