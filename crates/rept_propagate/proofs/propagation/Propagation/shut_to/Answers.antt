use Rattle.std.proofs.Common.{arith}
use Rattle.rept_facts.specs.State.{state_of}
use Rattle.rept_propagate.proofs.Going.{around_at, up_to_even, up_to_idle}
use Rattle.rept_propagate.proofs.propagation.Propagation.shut_to.Goals as goal

pub is_idle-requires-clause-even : goal.is_idle-requires-clause-even
is_idle-requires-clause-even g c =
    let since = c.requires.since in
    let order = c.loop-number.invariant.order in
    let on = c.leaving_from-leaving.ensures.from in
    around_at (state_of g.W.Partial.sets g.W.Transfer.moves g.R.RowRules.rules g.B.ByteFacts.store c.args.self.now.facts) c.args.a c.requires.even.0 c.leaving_from-leaving.result c.args.known c.requires.even.1 (omega (arith, since, order, on)) c.leaving_from-leaving.ensures.to

pub returns-then-not-is_idle-clause-up : goal.returns-then-not-is_idle-clause-up
returns-then-not-is_idle-clause-up g c =
    let s = (state_of g.W.Partial.sets g.W.Transfer.moves g.R.RowRules.rules g.B.ByteFacts.store c.args.self.now.facts) in
    let since = c.requires.since in
    let order = c.loop-number.invariant.order in
    λ h. up_to_even s c.args.a c.loop-number.number c.requires.even.0 c.leaving_from-leaving.result c.args.known c.requires.even.1 (omega (arith, since, order)) c.leaving_from-leaving.ensures (c.loop-number.invariant.up h)

pub loop-number-preserved : goal.loop-number-preserved
loop-number-preserved g c =
    let s = (state_of g.W.Partial.sets g.W.Transfer.moves g.R.RowRules.rules g.B.ByteFacts.store c.args.self.now.facts) in
    let since = c.requires.since in
    let order = c.loop-number.invariant.order in
    let on = c.leaving_from-leaving.ensures.from in
    record {
      order = omega (arith, order, on);
      up = λ h. up_to_idle s c.args.a c.leaving_from-leaving.result (up_to_even s c.args.a c.loop-number.number c.requires.even.0 c.leaving_from-leaving.result c.args.known c.requires.even.1 (omega (arith, since, order)) c.leaving_from-leaving.ensures (c.loop-number.invariant.up h)) (c.is_idle.ensures c.if-not-is_idle.false);
    }
