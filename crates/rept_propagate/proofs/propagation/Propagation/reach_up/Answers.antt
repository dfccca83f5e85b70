use Rattle.std.proofs.Common.{◌+◌, refl, arith}
use Rattle.rept_facts.specs.State.{state_of}
use Rattle.rept_propagate.proofs.Leaping.{leaps_up}
use Rattle.rept_propagate.proofs.propagation.Propagation.reach_up.Goals as goal

pub returns : goal.returns
returns g c =
    let order = c.requires.writings.barriers.order in
    let later = c.if-until-last.false in
    leaps_up (state_of g.W.Partial.sets g.W.Transfer.moves g.R.RowRules.rules g.B.ByteFacts.store c.args.self.now.facts) c.requires.writings c.args.a (omega arith) c.args.first c.args.last c.free_since.result c.free_until-until.result (c.free_since.ensures order) (c.free_until-until.ensures order) (record { from = c.max-from.result; to = c.args.last + 1 }) c.reached_up.result c.max-from.ensures refl (omega (arith, later)) c.reached_up.ensures
