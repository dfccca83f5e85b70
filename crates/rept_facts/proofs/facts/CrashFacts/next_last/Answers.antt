use Rattle.rept_timeline.specs.Paths.{timeline}
use Rattle.rept_facts.proofs.Along.{last_few}
use Rattle.rept_facts.proofs.facts.CrashFacts.next_last.Goals as goal

pub returns-clause-few : goal.returns-clause-few
returns-clause-few g c = let few = c.count-count.ensures.few in let value = c.count-count.ensures.value in last_few (timeline c.args.self.now.paths).legs c.args.least c.next_last.result (rw (← value) few) (rw (← c.self.view_is) c.next_last.ensures)
