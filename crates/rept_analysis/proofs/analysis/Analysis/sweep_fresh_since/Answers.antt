use Rattle.std.proofs.Common.{arith}
use Rattle.rept_facts.specs.State.{AnalysisState, state_of}
use Rattle.rept_facts.specs.Inferring.{LastKnownBelow, LastBytesKnown}
use Rattle.rept_facts.proofs.Conclusion.{HasInferred_both, Grows_trans}
use Rattle.rept_facts.proofs.Following.{fitted_after}
use Rattle.rept_analysis.proofs.analysis.Analysis.sweep_fresh_since.Goals as goal

pub infer_singles_at-requires-clause-fitted : goal.infer_singles_at-requires-clause-fitted
infer_singles_at-requires-clause-fitted g c = fitted_after (state_of g.W.Partial.sets g.W.Transfer.moves g.R.RowRules.rules g.B.ByteFacts.store c.args.self.now.propagation.facts) (state_of g.W.Partial.sets g.W.Transfer.moves g.R.RowRules.rules g.B.ByteFacts.store c.sweep_rows.new.self.propagation.facts) c.in_ok-rows.ensures.grows c.requires.writings.fitted

pub infer_singles_at-requires-clause-marks : goal.infer_singles_at-requires-clause-marks
infer_singles_at-requires-clause-marks g c =
    let marks = c.requires.marks in
    let count = c.in_ok-rows.ensures.grows.count in
    omega (arith, marks, count)

pub returns-in_err-singles-clause-grows : goal.returns-in_err-singles-clause-grows
returns-in_err-singles-clause-grows g c = Grows_trans _ _ _ c.in_ok-rows.ensures.grows c.infer_singles_at.ensures.grows

pub returns-clause-grows : goal.returns-clause-grows
returns-clause-grows g c = Grows_trans _ _ _ c.in_ok-rows.ensures.grows c.in_ok-singles.ensures.grows

pub returns-clause-inferred : goal.returns-clause-inferred
returns-clause-inferred g c =
    let P : AnalysisState g.row.W.Denot → Type 0 = λ x. LastKnownBelow 32 x × LastBytesKnown x in
    let U : AnalysisState g.row.W.Denot → Type 0 = λ x. Unit {0} in
    HasInferred_both (state_of g.W.Partial.sets g.W.Transfer.moves g.R.RowRules.rules g.B.ByteFacts.store c.args.self.now.propagation.facts) (state_of g.W.Partial.sets g.W.Transfer.moves g.R.RowRules.rules g.B.ByteFacts.store c.sweep_rows.new.self.propagation.facts) (state_of g.W.Partial.sets g.W.Transfer.moves g.R.RowRules.rules g.B.ByteFacts.store c.infer_singles_at.new.self.propagation.facts) c.in_ok-rows.rows c.in_ok-singles.singles P U U c.in_ok-rows.ensures.grows c.in_ok-singles.ensures.grows c.in_ok-rows.ensures.inferred c.in_ok-singles.ensures.inferred (λ p q. tt)
