use Rattle.rept_timeline.specs.Paths.{timeline, lawful}
use Rattle.rept_timeline.proofs.Searching.{row_inside}
use Rattle.rept_timeline.proofs.last.writers.last_writer.Goals as goal

pub is_certain-requires-clause-ready : goal.is_certain-requires-clause-ready
is_certain-requires-clause-ready g c = c.requires.ready c.in-MayWrite.row (row_inside (timeline c.args.paths.now) (lawful c.args.paths.now) c.in-MayWrite.row c.in-MayWrite.ensures.one.begun.row)
