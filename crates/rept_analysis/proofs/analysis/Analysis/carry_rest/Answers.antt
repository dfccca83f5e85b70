use Rattle.std.proofs.Common.{◌≡◌, false}
use Rattle.rept_facts.specs.State.{AnalysisState, state_of}
use Rattle.rept_facts.specs.Inferring.{LastBytesKnown}
use Rattle.rept_facts.proofs.Conclusion.{HasInferred_if}
use Rattle.rept_analysis.proofs.analysis.Analysis.carry_rest.Goals as goal

pub returns-clause-inferred : goal.returns-clause-inferred
returns-clause-inferred g c =
    let P : AnalysisState g.row.W.Denot → Type 0 = λ x. c.args.has_news ≡ false → LastBytesKnown x in
    HasInferred_if _ _ c.carry_by_turns.result LastBytesKnown P c.carry_by_turns.ensures.inferred (λ h _. h)
