use Rattle.std.proofs.Common.{◌∙◌}
use Rattle.std.proofs.lemmas.Bool.{leb-true}
use Rattle.rept_facts.specs.State.{state_of}
use Rattle.rept_facts.proofs.Settled.{over_past}
use Rattle.rept_analysis.proofs.analysis.Analysis.is_over.Goals as goal

pub returns-then-line_of-end : goal.returns-then-line_of-end
returns-then-line_of-end g c = λ yes. over_past (state_of g.W.Partial.sets g.W.Transfer.moves g.R.RowRules.rules g.B.ByteFacts.store c.args.self.now.propagation.facts) c.requires.writings c.args.moment c.args.a c.line_of.result c.free_since.result c.requires.moment c.line_of.ensures (c.if-line_of-end.true ∙ c.end.ensures.value) (c.free_since.ensures c.requires.writings.barriers.order) (leb-true c.free_since.result c.args.moment yes)
