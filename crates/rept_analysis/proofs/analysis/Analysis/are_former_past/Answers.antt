use Rattle.rept_facts.specs.State.{state_of}
use Rattle.rept_facts.proofs.Settled.{former_past}
use Rattle.rept_analysis.proofs.analysis.Analysis.are_former_past.Goals as goal

pub returns-clause-yes : goal.returns-clause-yes
returns-clause-yes g c = λ yes. former_past (state_of g.W.Partial.sets g.W.Transfer.moves g.R.RowRules.rules g.B.ByteFacts.store c.args.self.now.propagation.facts) c.requires.writings c.args.moment c.args.a c.listed_before-split.result (c.listed_before-split.ensures.split c.requires.writings.barriers.order) (c.are_hits_past.ensures.yes yes)
