use Rattle.rept_timeline.specs.Paths.{lawful}
use Rattle.rept_facts.proofs.Along.{row_inside}
use Rattle.rept_facts.proofs.facts.CrashFacts.row.Goals as goal

pub returns-clause-inside : goal.returns-clause-inside
returns-clause-inside g c = rw (← c.self.view_is) (row_inside _ (lawful c.self.inside.paths.now).legs c.args.i c.row.result c.row.ensures)
