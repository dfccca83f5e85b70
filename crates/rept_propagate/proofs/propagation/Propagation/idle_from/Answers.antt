use Rattle.std.proofs.Common.{◌∙◌, sym, arith}
use Rattle.rept_report.specs.Spots.{passage}
use Rattle.rept_facts.specs.State.{state_of}
use Rattle.rept_propagate.proofs.Going.{alike_if, blocked_if, one_link}
use Rattle.rept_propagate.proofs.propagation.Propagation.idle_from.Goals as goal

pub returns-then-like-w-clause-idle : goal.returns-then-like-w-clause-idle
returns-then-like-w-clause-idle g c = λ v low high. alike_if (state_of g.W.Partial.sets g.W.Transfer.moves g.R.RowRules.rules g.B.ByteFacts.store c.args.self.now.facts) (passage c.args.a c.args.m v) (sym (c.like_to-like.ensures.alike v low high ∙ c.requires.here))

pub returns-then-is_shut-clause-idle : goal.returns-then-is_shut-clause-idle
returns-then-is_shut-clause-idle g c = λ v low high. one_link (state_of g.W.Partial.sets g.W.Transfer.moves g.R.RowRules.rules g.B.ByteFacts.store c.args.self.now.facts) c.args.a c.args.m c.args.w v low high (blocked_if (state_of g.W.Partial.sets g.W.Transfer.moves g.R.RowRules.rules g.B.ByteFacts.store c.args.self.now.facts) (passage c.args.a c.args.m c.args.w) (c.is_shut.ensures c.if-is_shut.true))
