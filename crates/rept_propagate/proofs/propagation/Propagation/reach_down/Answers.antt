use Rattle.std.proofs.Common.{refl, arith}
use Rattle.rept_facts.specs.State.{state_of}
use Rattle.rept_propagate.proofs.Leaping.{leaps_down}
use Rattle.rept_propagate.proofs.propagation.Propagation.reach_down.Goals as goal

pub returns : goal.returns
returns g c =
    let order = c.requires.writings.barriers.order in
    let earlier = c.if-since-first.false in
    leaps_down (state_of g.W.Partial.sets g.W.Transfer.moves g.R.RowRules.rules g.B.ByteFacts.store c.args.self.now.facts) c.requires.writings c.args.a (omega arith) c.args.first c.args.last c.free_since-since.result c.free_until.result (c.free_since-since.ensures order) (c.free_until.ensures order) (record { from = c.args.first; to = c.min-until.result }) c.reached_down.result refl c.min-until.ensures (omega (arith, earlier)) c.reached_down.ensures
