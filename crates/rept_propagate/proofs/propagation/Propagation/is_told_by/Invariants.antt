use Rattle.std.proofs.Common.{◌≡◌, ◌+◌, ◌-◌}
use Rattle.rept_facts.specs.State.{state_of}
use Rattle.rept_propagate.proofs.Likeness.{GoBelow}
use Rattle.rept_propagate.proofs.propagation.Propagation.is_told_by.Given as goal

abbrev pub invariant-loop-from : goal.invariant-loop-from
invariant-loop-from g l =
    let s = state_of g.W.Partial.sets g.W.Transfer.moves g.R.RowRules.rules g.B.ByteFacts.store l.fn.self.facts in
    record {
      go : GoBelow l.fn.a l.fn.b s l.from l.pairs;
      end_is : l.end ≡ s.path.given.moments.end;
    }

abbrev pub decreases-loop-from : goal.decreases-loop-from
decreases-loop-from g l = l.end + 1 - l.from
