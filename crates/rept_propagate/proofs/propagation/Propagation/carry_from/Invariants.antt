use Rattle.std.proofs.Common.{◌-◌}
use Rattle.rept_facts.specs.State.{AnalysisState, state_of}
use Rattle.rept_facts.specs.Inferring.{Grows, HasInferred}
use Rattle.rept_propagate.proofs.propagation.Propagation.carry_from.Given as goal

abbrev pub invariant-loop-least : goal.invariant-loop-least
invariant-loop-least g l =
    let st = state_of g.W.Partial.sets g.W.Transfer.moves g.R.RowRules.rules g.B.ByteFacts.store in
    record {
      grows : Grows (st l.fn.self.facts) (st l.self.facts);
      inferred : HasInferred (st l.fn.self.facts) (st l.self.facts) l.learnt (λ (x : AnalysisState g.row.W.Denot). Unit {0});
    }

abbrev pub decreases-loop-least : goal.decreases-loop-least
decreases-loop-least g l = l.known.to - l.least
