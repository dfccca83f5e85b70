use Rattle.rept_facts.specs.State.{AnalysisState, state_of}
use Rattle.rept_facts.proofs.Conclusion.{HasInferred_both, Grows_trans}
use Rattle.rept_propagate.proofs.propagation.Propagation.later_together.Goals as goal

pub returns-in_err-others-clause-grows : goal.returns-in_err-others-clause-grows
returns-in_err-others-clause-grows g c = Grows_trans _ _ _ c.in_ok-later.ensures.grows c.follow_if.ensures.grows

pub returns-clause-grows : goal.returns-clause-grows
returns-clause-grows g c = Grows_trans _ _ _ c.in_ok-later.ensures.grows c.in_ok-others.ensures.grows

pub returns-clause-inferred : goal.returns-clause-inferred
returns-clause-inferred g c =
    let s = state_of g.W.Partial.sets g.W.Transfer.moves g.R.RowRules.rules g.B.ByteFacts.store c.args.self.now.facts in
    let t = state_of g.W.Partial.sets g.W.Transfer.moves g.R.RowRules.rules g.B.ByteFacts.store c.carry_later.new.self.facts in
    let u = state_of g.W.Partial.sets g.W.Transfer.moves g.R.RowRules.rules g.B.ByteFacts.store c.follow_if.new.self.facts in
    let P : AnalysisState g.row.W.Denot → Type 0 = λ x. Unit {0} in
    HasInferred_both s t u c.in_ok-later.later.0 c.in_ok-others.others P P P c.in_ok-later.ensures.grows c.in_ok-others.ensures.grows c.in_ok-later.ensures.inferred c.in_ok-others.ensures.inferred (λ p q. tt)
