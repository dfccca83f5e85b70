use Rattle.std.proofs.Common.{arith}
use Rattle.rept_facts.specs.State.{state_of}
use Rattle.rept_facts.proofs.Settled.{settled_by_list, unsettled_by_list}
use Rattle.rept_analysis.proofs.analysis.Analysis.is_untouched.Goals as goal

pub returns-then-not-are_later_past : goal.returns-then-not-are_later_past
returns-then-not-are_later_past g c = unsettled_by_list (state_of g.W.Partial.sets g.W.Transfer.moves g.R.RowRules.rules g.B.ByteFacts.store c.args.self.now.propagation.facts) c.requires.settled c.args.a (omega arith) c.args.moment (c.are_later_past.ensures.no c.if-not-are_later_past.true)

pub returns-then-not-are_former_past : goal.returns-then-not-are_former_past
returns-then-not-are_former_past g c = unsettled_by_list (state_of g.W.Partial.sets g.W.Transfer.moves g.R.RowRules.rules g.B.ByteFacts.store c.args.self.now.propagation.facts) c.requires.settled c.args.a (omega arith) c.args.moment (c.are_former_past.ensures.no c.if-not-are_former_past.true)

pub returns : goal.returns
returns g c = settled_by_list (state_of g.W.Partial.sets g.W.Transfer.moves g.R.RowRules.rules g.B.ByteFacts.store c.args.self.now.propagation.facts) c.requires.settled c.args.a (omega arith) c.args.moment c.is_untraced_past.result (c.are_later_past.ensures.yes c.if-not-are_later_past.false) (c.are_former_past.ensures.yes c.if-not-are_former_past.false) c.is_untraced_past.ensures
