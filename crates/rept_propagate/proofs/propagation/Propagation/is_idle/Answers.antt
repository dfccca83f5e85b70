use Rattle.rept_timeline.specs.Paths.{lawful}
use Rattle.std.proofs.Common.{arith}
use Rattle.rept_facts.specs.State.{state_of}
use Rattle.rept_propagate.proofs.Going.{next_none, links_first, links_far, links_none, links_end}
use Rattle.rept_propagate.proofs.propagation.Propagation.is_idle.Goals as goal

pub loop-least-init : goal.loop-least-init
loop-least-init g c = links_first _ c.args.a c.args.m

pub returns-in_default : goal.returns-in_default
returns-in_default g c = λ yes.
    let s = (state_of g.W.Partial.sets g.W.Transfer.moves g.R.RowRules.rules g.B.ByteFacts.store c.args.self.now.facts) in
    links_none s c.args.a c.args.m c.loop-least.least c.loop-least.invariant (next_none s.path.given.moments c.args.m c.loop-least.least c.next_from.result c.in_default.not-Some c.next_from.ensures)

pub idle_past-least-requires-clause-next : goal.idle_past-least-requires-clause-next
idle_past-least-requires-clause-next g c = (rw c.in-Some.is at c.next_from.ensures).0

pub loop-least-preserved : goal.loop-least-preserved
loop-least-preserved g c =
    let s = (state_of g.W.Partial.sets g.W.Transfer.moves g.R.RowRules.rules g.B.ByteFacts.store c.args.self.now.facts) in
    let its = rw c.in-Some.is at c.next_from.ensures in
    links_far s c.args.a c.args.m c.loop-least.least c.loop-least.invariant c.in-Some.next c.idle_past-least.result its c.idle_past-least.ensures.idle

pub returns : goal.returns
returns g c = λ yes.
    let end = c.end-end.ensures.value in
    let far = c.loop-least-test.false in
    links_end (state_of g.W.Partial.sets g.W.Transfer.moves g.R.RowRules.rules g.B.ByteFacts.store c.args.self.now.facts) c.args.a c.args.m c.loop-least.least c.loop-least.invariant (lawful c.args.self.now.facts.paths).moments.inside (omega (arith, far, end))
