use Rattle.std.proofs.Common.{sym, ◌∙◌}
use Rattle.rept_facts.specs.State.{state_of}
use Rattle.rept_facts.proofs.Listing.{loose_low, loose_high, loose_may_act, loose_some}
use Rattle.rept_propagate.proofs.propagation.Propagation.loose_end.Goals as goal

pub returns-then-entry-strip : goal.returns-then-entry-strip
returns-then-entry-strip g c = loose_low (state_of g.W.Partial.sets g.W.Transfer.moves g.R.RowRules.rules g.B.ByteFacts.store c.args.self.now.facts) c.args.strip c.args.k c.entry-entry.result c.entry-entry.ensures.found c.if-entry-strip.true

pub returns-then-entry-strip-2 : goal.returns-then-entry-strip-2
returns-then-entry-strip-2 g c = loose_high (state_of g.W.Partial.sets g.W.Transfer.moves g.R.RowRules.rules g.B.ByteFacts.store c.args.self.now.facts) c.args.strip c.args.k c.entry-entry.result c.entry-entry.ensures.found c.if-entry-strip-2.true

pub returns-then-may_act : goal.returns-then-may_act
returns-then-may_act g c = loose_may_act (state_of g.W.Partial.sets g.W.Transfer.moves g.R.RowRules.rules g.B.ByteFacts.store c.args.self.now.facts) c.args.strip c.args.k c.entry-entry.result c.entry-entry.ensures.found (sym c.may_act.ensures ∙ c.if-may_act.true)

pub returns-else-may_act : goal.returns-else-may_act
returns-else-may_act g c = loose_some (state_of g.W.Partial.sets g.W.Transfer.moves g.R.RowRules.rules g.B.ByteFacts.store c.args.self.now.facts) c.args.strip c.args.k c.entry-entry.result c.entry-entry.ensures.found ((c.requires.strip.1.joined c.entry-entry.result.at c.if-entry-strip.false c.if-entry-strip-2.false).next)

pub may_act-requires-clause-next : goal.may_act-requires-clause-next
may_act-requires-clause-next g c = (c.requires.strip.1.joined c.entry-entry.result.at c.if-entry-strip.false c.if-entry-strip-2.false).next
