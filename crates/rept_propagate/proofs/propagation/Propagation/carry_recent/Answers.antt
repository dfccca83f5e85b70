use Rattle.rept_facts.specs.State.{AnalysisState, state_of}
use Rattle.rept_facts.proofs.Conclusion.{HasInferred_same}
use Rattle.rept_propagate.proofs.propagation.Propagation.carry_recent.Goals as goal

pub returns-then-not-has-clause-inferred : goal.returns-then-not-has-clause-inferred
returns-then-not-has-clause-inferred g c = HasInferred_same (state_of g.W.Partial.sets g.W.Transfer.moves g.R.RowRules.rules g.B.ByteFacts.store c.args.self.now.facts) (λ (x : AnalysisState g.row.W.Denot). Unit {0}) tt
