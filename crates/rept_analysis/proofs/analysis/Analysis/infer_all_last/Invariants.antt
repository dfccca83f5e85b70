use Rattle.std.proofs.Common.{◌+◌, ◌-◌}
use Rattle.rept_facts.specs.State.{state_of}
use Rattle.rept_facts.specs.Begun.{HasEndsAlone}
use Rattle.rept_facts.specs.Inferring.{Grows, HasInferred}
use Rattle.rept_facts.proofs.Following.{LastsBelow}
use Rattle.rept_analysis.proofs.analysis.Analysis.infer_all_last.Given as goal

abbrev pub invariant-loop-point : goal.invariant-loop-point
invariant-loop-point g l =
    let st = state_of g.W.Partial.sets g.W.Transfer.moves g.R.RowRules.rules g.B.ByteFacts.store in
    record {
      grows : Grows (st l.fn.self.propagation.facts) (st l.self.propagation.facts);
      inferred : HasInferred (st l.fn.self.propagation.facts) (st l.self.propagation.facts) l.learnt (LastsBelow l.least);
      known : LastsBelow l.least (st l.self.propagation.facts);
      ends : HasEndsAlone (st l.fn.self.propagation.facts) → HasEndsAlone (st l.self.propagation.facts);
    }

abbrev pub decreases-loop-point : goal.decreases-loop-point
decreases-loop-point g l = (state_of g.W.Partial.sets g.W.Transfer.moves g.R.RowRules.rules g.B.ByteFacts.store l.fn.self.propagation.facts).path.given.legs.count + 1 - l.least
