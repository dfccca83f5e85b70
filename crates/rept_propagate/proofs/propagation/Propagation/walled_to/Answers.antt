use Rattle.std.proofs.Common.{arith}
use Rattle.rept_facts.specs.State.{state_of}
use Rattle.rept_propagate.proofs.Going.{up_to_walled}
use Rattle.rept_propagate.proofs.propagation.Propagation.walled_to.Goals as goal

pub loop-number-preserved : goal.loop-number-preserved
loop-number-preserved g c =
    let s = (state_of g.W.Partial.sets g.W.Transfer.moves g.R.RowRules.rules g.B.ByteFacts.store c.args.self.now.facts) in
    let strip = c.strip-strip.result in
    let its = c.strip-strip.ensures in
    let order = c.loop-number.invariant.order in
    let to = its.to in
    let far = c.if-last-strip.false in
    record {
      order = omega (arith, order, to);
      up = λ h. up_to_walled s c.args.a c.loop-number.number c.loop-number.number strip its its.from c.args.from c.args.last c.requires.even order (omega (arith, far)) (c.is_walled.ensures c.if-not-is_walled.false) (c.loop-number.invariant.up h);
    }
