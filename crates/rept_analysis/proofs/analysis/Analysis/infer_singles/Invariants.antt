use Rattle.std.proofs.Common.{◌≡◌}
use Rattle.rept_facts.specs.State.{state_of}
use Rattle.rept_facts.specs.Inferring.{Grows, HasInferred, SinglesBelow}
use Rattle.rept_analysis.proofs.analysis.Analysis.infer_singles.Given as goal

abbrev pub invariant-loop-point : goal.invariant-loop-point
invariant-loop-point g l =
    let st = state_of g.W.Partial.sets g.W.Transfer.moves g.R.RowRules.rules g.B.ByteFacts.store in
    record {
      grows : Grows (st l.fn.self.propagation.facts) (st l.self.propagation.facts);
      inferred : HasInferred (st l.fn.self.propagation.facts) (st l.self.propagation.facts) l.learnt (SinglesBelow l.point);
      count : l.count ≡ (st l.fn.self.propagation.facts).path.given.legs.count;
    }
