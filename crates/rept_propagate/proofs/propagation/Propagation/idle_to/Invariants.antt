use Rattle.std.proofs.Common.{◌≡◌, ◌+◌, ◌-◌, ◌≤◌}
use Rattle.rept_facts.specs.State.{state_of}
use Rattle.rept_facts.specs.Inferring.{AreLinksBelow}
use Rattle.rept_propagate.proofs.propagation.Propagation.idle_to.Given as goal

abbrev pub invariant-loop-from : goal.invariant-loop-from
invariant-loop-from g l =
    let s = (state_of g.W.Partial.sets g.W.Transfer.moves g.R.RowRules.rules g.B.ByteFacts.store l.self.facts) in
    record {
      order : l.least ≤ l.from;
      below : AreLinksBelow l.a l.m l.least s → AreLinksBelow l.a l.m l.from s;
    }

abbrev pub decreases-loop-from : goal.decreases-loop-from
decreases-loop-from g l = l.end + 1 - l.from
