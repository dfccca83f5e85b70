use Rattle.std.proofs.Common.{◌∙◌, sym}
use Rattle.rept_report.specs.Spots.{passage}
use Rattle.rept_facts.specs.State.{state_of}
use Rattle.rept_facts.proofs.Listing.{blocked_untraced}
use Rattle.rept_propagate.proofs.propagation.Propagation.is_shut.Goals as goal

pub returns-then-is_crossed : goal.returns-then-is_crossed
returns-then-is_crossed g c = λ _. c.is_crossed.ensures c.if-is_crossed.true

pub returns : goal.returns
returns g c = λ yes. blocked_untraced (state_of g.W.Partial.sets g.W.Transfer.moves g.R.RowRules.rules g.B.ByteFacts.store c.args.self.now.facts) (passage c.args.a c.args.m c.args.w) (sym c.is_untraced_between.ensures ∙ yes)
