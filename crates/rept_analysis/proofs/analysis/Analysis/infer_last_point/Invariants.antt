use Rattle.rept_facts.specs.State.{state_of}
use Rattle.rept_facts.specs.Begun.{HasEndsAlone}
use Rattle.rept_facts.specs.Inferring.{Grows, HasInferred, LastPointKnown}
use Rattle.rept_analysis.proofs.analysis.Analysis.infer_last_point.Given as goal

abbrev pub invariant-loop-r : goal.invariant-loop-r
invariant-loop-r g l =
    let st = state_of g.W.Partial.sets g.W.Transfer.moves g.R.RowRules.rules g.B.ByteFacts.store in
    record {
      grows : Grows (st l.fn.self.propagation.facts) (st l.self.propagation.facts);
      inferred : HasInferred (st l.fn.self.propagation.facts) (st l.self.propagation.facts) l.learnt (LastPointKnown l.r l.point);
      known : LastPointKnown l.r l.point (st l.self.propagation.facts);
      ends : HasEndsAlone (st l.fn.self.propagation.facts) → HasEndsAlone (st l.self.propagation.facts);
    }
