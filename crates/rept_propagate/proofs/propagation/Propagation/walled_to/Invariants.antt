use Rattle.std.proofs.Common.{◌≤◌, ◌+◌, ◌-◌}
use Rattle.rept_facts.specs.State.{state_of}
use Rattle.rept_facts.specs.Inferring.{IsCarriedUpTo}
use Rattle.rept_propagate.proofs.propagation.Propagation.walled_to.Given as goal

abbrev pub invariant-loop-number : goal.invariant-loop-number
invariant-loop-number g l =
    let s = state_of g.W.Partial.sets g.W.Transfer.moves g.R.RowRules.rules g.B.ByteFacts.store l.self.facts in
    record {
      order : l.from ≤ l.number;
      up : IsCarriedUpTo l.a l.from s → IsCarriedUpTo l.a l.number s;
    }

abbrev pub decreases-loop-number : goal.decreases-loop-number
decreases-loop-number g l = l.last + 1 - l.number
