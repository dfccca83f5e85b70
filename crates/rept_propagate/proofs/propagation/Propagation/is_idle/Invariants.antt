use Rattle.std.proofs.Common.{◌+◌, ◌-◌}
use Rattle.rept_facts.specs.State.{state_of}
use Rattle.rept_facts.specs.Inferring.{AreLinksBelow}
use Rattle.rept_propagate.proofs.propagation.Propagation.is_idle.Given as goal

abbrev pub invariant-loop-least : goal.invariant-loop-least
invariant-loop-least g l = AreLinksBelow l.a l.m l.least (state_of g.W.Partial.sets g.W.Transfer.moves g.R.RowRules.rules g.B.ByteFacts.store l.self.facts)

abbrev pub decreases-loop-least : goal.decreases-loop-least
decreases-loop-least g l = l.end + 1 - l.least
