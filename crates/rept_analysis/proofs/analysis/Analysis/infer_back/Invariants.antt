use Rattle.rept_facts.specs.State.{state_of}
use Rattle.rept_facts.specs.Inferring.{Grows, HasInferred}
use Rattle.rept_facts.proofs.Conclusion.{RowsClosedFrom}
use Rattle.rept_analysis.proofs.analysis.Analysis.infer_back.Given as goal

abbrev pub invariant-loop-i : goal.invariant-loop-i
invariant-loop-i g l =
    let st = state_of g.W.Partial.sets g.W.Transfer.moves g.R.RowRules.rules g.B.ByteFacts.store in
    record {
      grows : Grows (st l.fn.self.propagation.facts) (st l.self.propagation.facts);
      inferred : HasInferred (st l.fn.self.propagation.facts) (st l.self.propagation.facts) l.learnt (RowsClosedFrom l.i);
    }
