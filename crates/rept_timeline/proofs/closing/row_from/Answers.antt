use Rattle.std.proofs.Common.{arith}
use Rattle.rept_timeline.proofs.Earliest.{row_none}
use Rattle.rept_timeline.proofs.closing.row_from.Goals as goal

pub returns : goal.returns
returns c = row_none c.args.many.now c.args.least c.loop-at.at c.last_point-last.result c.loop-at.invariant.up (let past = c.loop-at-test.false in omega arith) c.last_point-last.ensures c.loop-at.invariant.none
