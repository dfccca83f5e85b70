use Rattle.rept_timeline.specs.Paths.{timeline, lawful}
use Rattle.rept_facts.proofs.Along.{there_inside}
use Rattle.rept_facts.proofs.facts.CrashFacts.is_certain.Goals as goal

pub is_sure-requires : goal.is_sure-requires
is_sure-requires g c = (there_inside (timeline c.args.self.now.paths) (lawful c.args.self.now.paths).legs c.args.row c.requires.row, c.requires.fitted)
