use Rattle.rept_facts.specs.State.{state_of}
use Rattle.rept_facts.proofs.Spreading.{spared_led}
use Rattle.rept_propagate.proofs.propagation.Propagation.spread.Goals as goal

pub spread_led-requires-clause-led : goal.spread_led-requires-clause-led
spread_led-requires-clause-led g c = spared_led (state_of g.W.Partial.sets g.W.Transfer.moves g.R.RowRules.rules g.B.ByteFacts.store c.args.self.now.facts) c.args.a c.args.from c.args.to c.args.value c.requires.spared
