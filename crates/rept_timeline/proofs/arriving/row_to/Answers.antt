use Rattle.std.proofs.Common.{arith}
use Rattle.rept_extents.specs.Timelines.{time_of}
use Rattle.rept_timeline.proofs.Earliest.{row_to_none}
use Rattle.rept_timeline.proofs.arriving.row_to.Goals as goal

pub returns : goal.returns
returns c = row_to_none (time_of c.args.course.now) c.requires c.args.number c.args.least c.loop-row.row c.loop-row.invariant.up c.loop-row.invariant.none c.last_point-last.result c.last_point-last.ensures (let past = c.loop-row-test.false in omega arith)
