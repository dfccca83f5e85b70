use Rattle.rept_timeline.specs.Paths.{timeline, lawful}
use Rattle.rept_timeline.proofs.Searching.{begun_inside}
use Rattle.rept_timeline.proofs.last.search.begun_to.Goals as goal

pub returns-clause-inside : goal.returns-clause-inside
returns-clause-inside c = begun_inside (timeline c.args.paths.now) (lawful c.args.paths.now) c.args.moment c.args.most c.begun_to.result c.begun_to.ensures
