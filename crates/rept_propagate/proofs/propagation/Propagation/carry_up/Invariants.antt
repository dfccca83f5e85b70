use Rattle.std.proofs.Common.{◌-◌, ◌≤◌}
use Rattle.rept_facts.specs.State.{AnalysisState, state_of}
use Rattle.rept_facts.specs.Inferring.{Grows, HasInferred}
use Rattle.rept_propagate.proofs.propagation.Propagation.carry_up.Given as goal

abbrev pub invariant-loop-m : goal.invariant-loop-m
invariant-loop-m g l =
    let st = state_of g.W.Partial.sets g.W.Transfer.moves g.R.RowRules.rules g.B.ByteFacts.store in
    record {
      grows : Grows (st l.fn.self.facts) (st l.self.facts);
      inferred : HasInferred (st l.fn.self.facts) (st l.self.facts) l.learnt (λ (x : AnalysisState g.row.W.Denot). Unit {0});
      least : l.strip.first ≤ l.m;
    }

abbrev pub decreases-loop-m : goal.decreases-loop-m
decreases-loop-m g l = l.strip.last - l.m
