use Rattle.std.proofs.Common.{sym, ◌∙◌}
use Rattle.rept_analysis.proofs.Refining.{stopped_again, ended_again}
use Rattle.rept_analysis.proofs.analysis.Analysis.outcome.Goals as goal

pub returns-in-Some-clause-outcome : goal.returns-in-Some-clause-outcome
returns-in-Some-clause-outcome g c = stopped_again _ c.found_conflict.ensures.kept c.in-Some.kind (sym c.found_conflict.ensures.value ∙ c.in-Some.is)

pub returns-then-ended-clause-outcome : goal.returns-then-ended-clause-outcome
returns-then-ended-clause-outcome g c = ended_again _ c.ended.ensures.kept (sym c.ended.ensures.value ∙ c.if-ended.true) (sym c.found_conflict.ensures.value ∙ c.in_default.is)
