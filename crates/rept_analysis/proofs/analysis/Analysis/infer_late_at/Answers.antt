use Rattle.rept_timeline.specs.Paths.{lawful}
use Rattle.rept_facts.specs.State.{AnalysisState}
use Rattle.rept_facts.specs.Inferring.{IsRowClosed}
use Rattle.rept_facts.proofs.Conclusion.{HasInferred_if}
use Rattle.rept_analysis.proofs.Since.{row_inside}
use Rattle.rept_analysis.proofs.analysis.Analysis.infer_late_at.Goals as goal

pub infer_noted-requires-clause-inside : goal.infer_noted-requires-clause-inside
infer_noted-requires-clause-inside g c =
    let at = rw c.in-Some.is at c.row_at.ensures in
    row_inside _ (lawful c.args.self.now.propagation.facts.paths).legs.inside c.in-Some.i at.0

pub returns-in-Some-clause-inferred : goal.returns-in-Some-clause-inferred
returns-in-Some-clause-inferred g c =
    let P : AnalysisState g.row.W.Denot → Type 0 = λ x. Unit {0} in
    HasInferred_if _ _ c.infer_noted.result (IsRowClosed c.in-Some.i) P c.infer_noted.ensures.inferred (λ _. tt)
