use Rattle.rept_facts.specs.State.{AnalysisState, state_of}
use Rattle.rept_facts.specs.Inferring.{IsRowTracked}
use Rattle.rept_facts.proofs.Conclusion.{HasInferred_both, Grows_trans}
use Rattle.rept_analysis.proofs.analysis.Analysis.fetch_bytes.Goals as goal

pub carry_row-requires-clause-writings : goal.carry_row-requires-clause-writings
carry_row-requires-clause-writings g c = c.in_ok-tracked.ensures.grows.writing c.requires.writings

pub returns-in_err-carried-clause-grows : goal.returns-in_err-carried-clause-grows
returns-in_err-carried-clause-grows g c = Grows_trans _ _ _ c.in_ok-tracked.ensures.grows c.carry_row.ensures.grows

pub returns-clause-grows : goal.returns-clause-grows
returns-clause-grows g c = Grows_trans _ _ _ c.in_ok-tracked.ensures.grows c.in_ok-carried.ensures.grows

pub returns-clause-inferred : goal.returns-clause-inferred
returns-clause-inferred g c =
    let a = state_of g.W.Partial.sets g.W.Transfer.moves g.R.RowRules.rules g.B.ByteFacts.store c.args.self.now.propagation.facts in
    let b = state_of g.W.Partial.sets g.W.Transfer.moves g.R.RowRules.rules g.B.ByteFacts.store c.track_row.new.self.propagation.facts in
    let d = state_of g.W.Partial.sets g.W.Transfer.moves g.R.RowRules.rules g.B.ByteFacts.store c.carry_row.new.self.propagation.facts in
    let P : AnalysisState g.row.W.Denot → Type 0 = λ x. Unit {0} in
    HasInferred_both a b d c.in_ok-tracked.tracked c.in_ok-carried.carried (IsRowTracked c.args.row.now c.args.i) P P c.in_ok-tracked.ensures.grows c.in_ok-carried.ensures.grows c.in_ok-tracked.ensures.inferred c.in_ok-carried.ensures.inferred (λ p q. tt)
