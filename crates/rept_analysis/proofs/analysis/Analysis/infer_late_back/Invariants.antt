use Rattle.rept_facts.specs.State.{AnalysisState, state_of}
use Rattle.rept_facts.specs.Inferring.{Grows, HasInferred}
use Rattle.rept_analysis.proofs.analysis.Analysis.infer_late_back.Given as goal

abbrev pub invariant-loop-end : goal.invariant-loop-end
invariant-loop-end g l =
    let st = state_of g.W.Partial.sets g.W.Transfer.moves g.R.RowRules.rules g.B.ByteFacts.store in
    record {
      grows : Grows (st l.fn.self.propagation.facts) (st l.self.propagation.facts);
      inferred : HasInferred (st l.fn.self.propagation.facts) (st l.self.propagation.facts) l.learnt (λ (x : AnalysisState g.row.W.Denot). Unit {0});
    }

abbrev pub decreases-loop-end : goal.decreases-loop-end
decreases-loop-end g l = l.end
