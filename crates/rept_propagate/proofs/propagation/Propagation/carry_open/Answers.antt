use Rattle.rept_facts.specs.State.{AnalysisState, state_of}
use Rattle.rept_facts.proofs.Conclusion.{HasInferred_same, Grows_itself}
use Rattle.rept_propagate.proofs.propagation.Propagation.carry_open.Goals as goal

pub returns-in_default-clause-grows : goal.returns-in_default-clause-grows
returns-in_default-clause-grows g c = Grows_itself (state_of g.W.Partial.sets g.W.Transfer.moves g.R.RowRules.rules g.B.ByteFacts.store c.args.self.now.facts)

pub returns-in_default-clause-inferred : goal.returns-in_default-clause-inferred
returns-in_default-clause-inferred g c = HasInferred_same (state_of g.W.Partial.sets g.W.Transfer.moves g.R.RowRules.rules g.B.ByteFacts.store c.args.self.now.facts) (λ (x : AnalysisState g.row.W.Denot). Unit {0}) tt

pub returns-in_default-next_from-clause-grows : goal.returns-in_default-next_from-clause-grows
returns-in_default-next_from-clause-grows g c = Grows_itself (state_of g.W.Partial.sets g.W.Transfer.moves g.R.RowRules.rules g.B.ByteFacts.store c.args.self.now.facts)

pub returns-in_default-next_from-clause-inferred : goal.returns-in_default-next_from-clause-inferred
returns-in_default-next_from-clause-inferred g c = HasInferred_same (state_of g.W.Partial.sets g.W.Transfer.moves g.R.RowRules.rules g.B.ByteFacts.store c.args.self.now.facts) (λ (x : AnalysisState g.row.W.Denot). Unit {0}) tt

pub returns-then-next-known-clause-grows : goal.returns-then-next-known-clause-grows
returns-then-next-known-clause-grows g c = Grows_itself (state_of g.W.Partial.sets g.W.Transfer.moves g.R.RowRules.rules g.B.ByteFacts.store c.args.self.now.facts)

pub returns-then-next-known-clause-inferred : goal.returns-then-next-known-clause-inferred
returns-then-next-known-clause-inferred g c = HasInferred_same (state_of g.W.Partial.sets g.W.Transfer.moves g.R.RowRules.rules g.B.ByteFacts.store c.args.self.now.facts) (λ (x : AnalysisState g.row.W.Denot). Unit {0}) tt

pub returns-then-open-known-clause-grows : goal.returns-then-open-known-clause-grows
returns-then-open-known-clause-grows g c = Grows_itself (state_of g.W.Partial.sets g.W.Transfer.moves g.R.RowRules.rules g.B.ByteFacts.store c.args.self.now.facts)

pub returns-then-open-known-clause-inferred : goal.returns-then-open-known-clause-inferred
returns-then-open-known-clause-inferred g c = HasInferred_same (state_of g.W.Partial.sets g.W.Transfer.moves g.R.RowRules.rules g.B.ByteFacts.store c.args.self.now.facts) (λ (x : AnalysisState g.row.W.Denot). Unit {0}) tt
