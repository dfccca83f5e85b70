use Rattle.rept_facts.specs.State.{AnalysisState, state_of}
use Rattle.rept_facts.specs.Inferring.{LastKnownBelow, LastBytesKnown, SinglesKnown}
use Rattle.rept_facts.proofs.Begun.{begun_after}
use Rattle.rept_facts.proofs.Conclusion.{HasInferred_both, Grows_trans}
use Rattle.rept_facts.proofs.Following.{fitted_after}
use Rattle.rept_analysis.proofs.analysis.Analysis.sweep_fresh.Goals as goal

pub infer_singles-requires-clause-fitted : goal.infer_singles-requires-clause-fitted
infer_singles-requires-clause-fitted g c = fitted_after (state_of g.W.Partial.sets g.W.Transfer.moves g.R.RowRules.rules g.B.ByteFacts.store c.args.self.now.propagation.facts) (state_of g.W.Partial.sets g.W.Transfer.moves g.R.RowRules.rules g.B.ByteFacts.store c.sweep_rows.new.self.propagation.facts) c.in_ok-rows.ensures.grows c.requires.writings.fitted

pub returns-in_err-singles-clause-grows : goal.returns-in_err-singles-clause-grows
returns-in_err-singles-clause-grows g c = Grows_trans _ _ _ c.in_ok-rows.ensures.grows c.infer_singles.ensures.grows

pub returns-clause-grows : goal.returns-clause-grows
returns-clause-grows g c = Grows_trans _ _ _ c.in_ok-rows.ensures.grows c.in_ok-singles.ensures.grows

pub returns-clause-inferred : goal.returns-clause-inferred
returns-clause-inferred g c =
    let P : AnalysisState g.row.W.Denot → Type 0 = λ x. LastKnownBelow 32 x × LastBytesKnown x in
    let Q : AnalysisState g.row.W.Denot → Type 0 = λ x. LastKnownBelow 32 x × LastBytesKnown x × SinglesKnown x in
    HasInferred_both (state_of g.W.Partial.sets g.W.Transfer.moves g.R.RowRules.rules g.B.ByteFacts.store c.args.self.now.propagation.facts) (state_of g.W.Partial.sets g.W.Transfer.moves g.R.RowRules.rules g.B.ByteFacts.store c.sweep_rows.new.self.propagation.facts) (state_of g.W.Partial.sets g.W.Transfer.moves g.R.RowRules.rules g.B.ByteFacts.store c.infer_singles.new.self.propagation.facts) c.in_ok-rows.rows c.in_ok-singles.singles P SinglesKnown Q c.in_ok-rows.ensures.grows c.in_ok-singles.ensures.grows c.in_ok-rows.ensures.inferred c.in_ok-singles.ensures.inferred (λ p q. (p.0, p.1, q))

pub returns-in_err-singles-clause-begun : goal.returns-in_err-singles-clause-begun
returns-in_err-singles-clause-begun g c = λ h. begun_after (state_of g.W.Partial.sets g.W.Transfer.moves g.R.RowRules.rules g.B.ByteFacts.store c.sweep_rows.new.self.propagation.facts) (state_of g.W.Partial.sets g.W.Transfer.moves g.R.RowRules.rules g.B.ByteFacts.store c.infer_singles.new.self.propagation.facts) c.infer_singles.ensures.grows (c.in_ok-rows.ensures.begun h)

pub returns-clause-begun : goal.returns-clause-begun
returns-clause-begun g c = λ h. begun_after (state_of g.W.Partial.sets g.W.Transfer.moves g.R.RowRules.rules g.B.ByteFacts.store c.sweep_rows.new.self.propagation.facts) (state_of g.W.Partial.sets g.W.Transfer.moves g.R.RowRules.rules g.B.ByteFacts.store c.infer_singles.new.self.propagation.facts) c.in_ok-singles.ensures.grows (c.in_ok-rows.ensures.begun h)
