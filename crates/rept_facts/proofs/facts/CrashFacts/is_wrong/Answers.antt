use Rattle.std.proofs.Common.{sym, ◌∙◌}
use Rattle.rept_facts.proofs.Along.{no_row}
use Rattle.rept_facts.proofs.facts.CrashFacts.is_wrong.Goals as goal

pub returns-in-None-clause-right : goal.returns-in-None-clause-right
returns-in-None-clause-right g c = λ _ h. no_row _ h.row (sym c.row.ensures.row ∙ c.in-None.is) h.is_row
