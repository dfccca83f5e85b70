use Rattle.rept_facts.specs.State.{AnalysisState, state_of}
use Rattle.rept_facts.specs.Inferring.{IsSpreadTo}
use Rattle.rept_facts.proofs.Conclusion.{HasInferred_if}
use Rattle.rept_propagate.proofs.Leaping.{led_up}
use Rattle.rept_propagate.proofs.propagation.Propagation.spread_up.Goals as goal

pub spread_led-requires-clause-led : goal.spread_led-requires-clause-led
spread_led-requires-clause-led g c = led_up (state_of g.W.Partial.sets g.W.Transfer.moves g.R.RowRules.rules g.B.ByteFacts.store c.args.self.now.facts) c.args.leap c.args.value c.requires.order c.requires.known c.requires.led

pub returns-clause-inferred : goal.returns-clause-inferred
returns-clause-inferred g c = HasInferred_if (state_of g.W.Partial.sets g.W.Transfer.moves g.R.RowRules.rules g.B.ByteFacts.store c.args.self.now.facts) (state_of g.W.Partial.sets g.W.Transfer.moves g.R.RowRules.rules g.B.ByteFacts.store c.spread_led.new.self.facts) c.spread_led.result (IsSpreadTo (record { address = c.args.leap.address; from = c.args.leap.last; to = c.args.leap.to; value = c.args.value })) (λ (x : AnalysisState g.row.W.Denot). Unit {0}) c.spread_led.ensures.inferred (λ h. tt)
