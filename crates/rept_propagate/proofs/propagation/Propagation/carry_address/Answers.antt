use Rattle.rept_facts.specs.State.{AnalysisState, state_of}
use Rattle.rept_facts.specs.Inferring.{IsCarriedAlong}
use Rattle.rept_facts.proofs.Conclusion.{HasInferred_both, Grows_trans}
use Rattle.rept_propagate.proofs.propagation.Propagation.carry_address.Goals as goal

pub returns-in_err-onward-clause-grows : goal.returns-in_err-onward-clause-grows
returns-in_err-onward-clause-grows g c = Grows_trans _ _ _ c.in_ok-back.ensures.grows c.carry_onward.ensures.grows

pub returns-clause-inferred : goal.returns-clause-inferred
returns-clause-inferred g c =
    let a = (state_of g.W.Partial.sets g.W.Transfer.moves g.R.RowRules.rules g.B.ByteFacts.store c.args.self.now.facts) in
    let b = (state_of g.W.Partial.sets g.W.Transfer.moves g.R.RowRules.rules g.B.ByteFacts.store c.carry_edges.new.self.facts) in
    let d = (state_of g.W.Partial.sets g.W.Transfer.moves g.R.RowRules.rules g.B.ByteFacts.store c.carry_onward.new.self.facts) in
    HasInferred_both a b d c.in_ok-back.back c.in_ok-onward.onward (λ (x : AnalysisState g.row.W.Denot). Unit {0}) (IsCarriedAlong c.args.a) (λ (x : AnalysisState g.row.W.Denot). Unit {0}) c.in_ok-back.ensures.grows c.in_ok-onward.ensures.grows c.in_ok-back.ensures.inferred c.in_ok-onward.ensures.inferred (λ p q. tt)

pub returns-clause-grows : goal.returns-clause-grows
returns-clause-grows g c = Grows_trans _ _ _ c.in_ok-back.ensures.grows c.in_ok-onward.ensures.grows
