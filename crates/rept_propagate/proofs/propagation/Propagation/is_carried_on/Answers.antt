use Rattle.rept_timeline.specs.Paths.{lawful}
use Rattle.std.proofs.Common.{◌+◌, ◌∙◌, not, sym, ap, arith}
use Rattle.rept_report.specs.Spots.{passage}
use Rattle.rept_facts.specs.State.{state_of}
use Rattle.rept_facts.proofs.Listing.{blocked_untraced, bridged_not_some, blocked_some}
use Rattle.rept_propagate.proofs.propagation.Propagation.is_carried_on.Goals as goal

pub overflow_add-m : goal.overflow_add-m
overflow_add-m g c =
    let most = ((lawful c.args.self.now.facts.paths).moments.inside c.args.m (c.args.m + 1) c.requires.next).1 in
    let end = c.end-end.ensures.value in
    omega (arith, most, end)

pub returns-then-is_untraced_between-clause-no : goal.returns-then-is_untraced_between-clause-no
returns-then-is_untraced_between-clause-no g c = λ _. blocked_untraced (state_of g.W.Partial.sets g.W.Transfer.moves g.R.RowRules.rules g.B.ByteFacts.store c.args.self.now.facts) (passage c.args.a c.args.m (c.args.m + 1)) (sym c.is_untraced_between.ensures ∙ c.if-is_untraced_between.true)

pub returns-clause-yes : goal.returns-clause-yes
returns-clause-yes g c = λ yes. bridged_not_some (state_of g.W.Partial.sets g.W.Transfer.moves g.R.RowRules.rules g.B.ByteFacts.store c.args.self.now.facts) c.requires.writings c.args.a (omega arith) c.args.m (c.args.m + 1) c.blocker-blocker.result c.requires.next (sym c.is_untraced_between.ensures ∙ c.if-is_untraced_between.false) (c.is_none.ensures ∙ ap not yes) c.blocker-blocker.ensures

pub returns-clause-no : goal.returns-clause-no
returns-clause-no g c = λ no. blocked_some (state_of g.W.Partial.sets g.W.Transfer.moves g.R.RowRules.rules g.B.ByteFacts.store c.args.self.now.facts) c.requires.writings c.args.a (omega arith) c.args.m (c.args.m + 1) c.blocker-blocker.result (c.is_none.ensures ∙ ap not no) c.blocker-blocker.ensures
