use Rattle.rept_facts.specs.State.{state_of}
use Rattle.rept_facts.proofs.Settled.{later_past}
use Rattle.rept_analysis.proofs.analysis.Analysis.are_later_past.Goals as goal

pub returns-clause-yes : goal.returns-clause-yes
returns-clause-yes g c = λ yes. later_past (state_of g.W.Partial.sets g.W.Transfer.moves g.R.RowRules.rules g.B.ByteFacts.store c.args.self.now.propagation.facts) c.requires.writings c.args.moment c.args.a c.listed_before-split.result c.writing_count-count.result (c.listed_before-split.ensures.split c.requires.writings.barriers.order) c.writing_count-count.ensures (c.are_hits_past.ensures.yes yes)
