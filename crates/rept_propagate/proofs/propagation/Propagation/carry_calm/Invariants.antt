use Rattle.std.proofs.Common.{◌+◌, ◌-◌, ◌≤◌}
use Rattle.rept_facts.specs.State.{state_of}
use Rattle.rept_facts.specs.Inferring.{Grows, HasInferred, IsCarriedBelow}
use Rattle.rept_propagate.proofs.propagation.Propagation.carry_calm.Given as goal

abbrev pub invariant-loop-from : goal.invariant-loop-from
invariant-loop-from g l =
    let st = state_of g.W.Partial.sets g.W.Transfer.moves g.R.RowRules.rules g.B.ByteFacts.store in
    record {
      grows : Grows (st l.fn.self.facts) (st l.self.facts);
      inferred : HasInferred (st l.fn.self.facts) (st l.self.facts) l.learnt (IsCarriedBelow l.a l.strip l.from);
      least : l.strip.first ≤ l.from;
      near : l.from ≤ l.strip.last + 1;
    }

abbrev pub decreases-loop-from : goal.decreases-loop-from
decreases-loop-from g l = l.strip.last + 1 - l.from
