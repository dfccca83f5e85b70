use Rattle.rept_rules.specs.Laws.Listed.{listed, concluded}
use Rattle.rept_rules.proofs.laws.conclusions_are_listed.Goals as goal

pub returns-clause-listed : goal.returns-clause-listed
returns-clause-listed c = listed

pub returns-clause-all : goal.returns-clause-all
returns-clause-all c = concluded
