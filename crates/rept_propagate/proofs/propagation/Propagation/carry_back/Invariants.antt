use Rattle.std.proofs.Common.{◌≤◌}
use Rattle.rept_facts.specs.State.{AnalysisState, state_of}
use Rattle.rept_facts.specs.Inferring.{Grows, HasInferred}
use Rattle.rept_propagate.proofs.propagation.Propagation.carry_back.Given as goal

abbrev pub invariant-loop-low : goal.invariant-loop-low
invariant-loop-low g l =
    let st = state_of g.W.Partial.sets g.W.Transfer.moves g.R.RowRules.rules g.B.ByteFacts.store in
    record {
      grows : Grows (st l.fn.self.facts) (st l.self.facts);
      inferred : HasInferred (st l.fn.self.facts) (st l.self.facts) l.learnt (λ (x : AnalysisState g.row.W.Denot). Unit {0});
      inside : l.first ≤ (st l.fn.self.facts).path.given.moments.end;
    }

abbrev pub decreases-loop-low : goal.decreases-loop-low
decreases-loop-low g l = l.first
