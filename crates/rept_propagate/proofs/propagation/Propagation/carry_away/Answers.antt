use Rattle.rept_facts.specs.State.{AnalysisState, state_of}
use Rattle.rept_facts.proofs.Conclusion.{HasInferred_both, Grows_trans}
use Rattle.rept_facts.proofs.Listing.{writings_after}
use Rattle.rept_propagate.proofs.propagation.Propagation.carry_away.Goals as goal

pub carry_forth-requires-clause-writings : goal.carry_forth-requires-clause-writings
carry_forth-requires-clause-writings g c = writings_after (state_of g.W.Partial.sets g.W.Transfer.moves g.R.RowRules.rules g.B.ByteFacts.store c.args.self.now.facts) (state_of g.W.Partial.sets g.W.Transfer.moves g.R.RowRules.rules g.B.ByteFacts.store c.carry_back.new.self.facts) c.in_ok-back.ensures.grows c.requires.writings

pub returns-in_err-forth-clause-grows : goal.returns-in_err-forth-clause-grows
returns-in_err-forth-clause-grows g c = Grows_trans _ _ _ c.in_ok-back.ensures.grows c.carry_forth.ensures.grows

pub returns-clause-grows : goal.returns-clause-grows
returns-clause-grows g c = Grows_trans _ _ _ c.in_ok-back.ensures.grows c.in_ok-forth.ensures.grows

pub returns-clause-inferred : goal.returns-clause-inferred
returns-clause-inferred g c =
    HasInferred_both (state_of g.W.Partial.sets g.W.Transfer.moves g.R.RowRules.rules g.B.ByteFacts.store c.args.self.now.facts) (state_of g.W.Partial.sets g.W.Transfer.moves g.R.RowRules.rules g.B.ByteFacts.store c.carry_back.new.self.facts) (state_of g.W.Partial.sets g.W.Transfer.moves g.R.RowRules.rules g.B.ByteFacts.store c.carry_forth.new.self.facts) c.in_ok-back.back c.in_ok-forth.forth (λ (x : AnalysisState g.row.W.Denot). Unit {0}) (λ (x : AnalysisState g.row.W.Denot). Unit {0}) (λ (x : AnalysisState g.row.W.Denot). Unit {0})
    c.in_ok-back.ensures.grows c.in_ok-forth.ensures.grows c.in_ok-back.ensures.inferred c.in_ok-forth.ensures.inferred (λ p q. tt)
