use Rattle.rept_analysis.proofs.Since.{goes_itself}
use Rattle.rept_facts.specs.State.{state_of}
use Rattle.rept_analysis.proofs.analysis.Analysis.settle_since.Goals as goal

pub returns-in-None-clause-goes : goal.returns-in-None-clause-goes
returns-in-None-clause-goes g c = goes_itself (state_of g.W.Partial.sets g.W.Transfer.moves g.R.RowRules.rules g.B.ByteFacts.store c.args.self.now.propagation.facts)
