use Rattle.rept_timeline.specs.Paths.{timeline}
use Rattle.std.proofs.Common.{sym, ◌∙◌}
use Rattle.rept_facts.proofs.Along.{no_row, some_row}
use Rattle.rept_facts.proofs.facts.CrashFacts.list_row.Goals as goal

pub returns-in-None-clause-listed : goal.returns-in-None-clause-listed
returns-in-None-clause-listed g c =
    let legs = (timeline c.args.self.now.paths).legs in
    let its = some_row (legs.row c.args.i) c.requires.row.0 in
    absurd (no_row (legs.row c.args.i) its.0 (sym c.row.ensures.row ∙ c.in-None.is) its.1)
