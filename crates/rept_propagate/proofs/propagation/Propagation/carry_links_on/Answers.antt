use Rattle.rept_facts.specs.State.{AnalysisState, state_of}
use Rattle.rept_facts.specs.Inferring.{AreLinks}
use Rattle.rept_facts.proofs.Conclusion.{HasInferred_if}
use Rattle.rept_propagate.proofs.propagation.Propagation.carry_links_on.Goals as goal

pub returns-clause-inferred : goal.returns-clause-inferred
returns-clause-inferred g c = HasInferred_if (state_of g.W.Partial.sets g.W.Transfer.moves g.R.RowRules.rules g.B.ByteFacts.store c.args.self.now.facts) _ c.carry_links.result (AreLinks c.args.a c.args.m) (λ (x : AnalysisState g.row.W.Denot). Unit {0}) c.carry_links.ensures.inferred (λ h. tt)
