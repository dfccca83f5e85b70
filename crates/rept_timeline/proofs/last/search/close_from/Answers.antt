use Rattle.rept_timeline.specs.Paths.{timeline, lawful}
use Rattle.rept_timeline.proofs.Searching.{close_inside}
use Rattle.rept_timeline.proofs.last.search.close_from.Goals as goal

pub returns-clause-inside : goal.returns-clause-inside
returns-clause-inside c = close_inside (timeline c.args.paths.now) (lawful c.args.paths.now) c.args.row c.args.least c.close_from.result c.close_from.ensures

pub returns-clause-few : goal.returns-clause-few
returns-clause-few c = (lawful c.args.paths.now).points
