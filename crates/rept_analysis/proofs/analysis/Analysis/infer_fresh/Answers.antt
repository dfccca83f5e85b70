use Rattle.rept_facts.specs.State.{AnalysisState}
use Rattle.rept_facts.specs.Inferring.{IsRowClosed}
use Rattle.rept_facts.proofs.Conclusion.{HasInferred_if}
use Rattle.rept_analysis.proofs.analysis.Analysis.infer_fresh.Goals as goal

pub returns-then-has-clause-inferred : goal.returns-then-has-clause-inferred
returns-then-has-clause-inferred g c = HasInferred_if _ _ c.infer_noted.result (IsRowClosed c.args.i) (λ (x : AnalysisState g.row.W.Denot). Unit {0}) c.infer_noted.ensures.inferred (λ _. tt)
