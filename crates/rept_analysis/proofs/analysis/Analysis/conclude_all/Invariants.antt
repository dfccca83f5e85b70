use Rattle.std.proofs.Common.{◌≡◌}
use Rattle.rept_facts.specs.State.{state_of}
use Rattle.rept_facts.specs.Inferring.{Grows, HasInferred, InferredBelow}
use Rattle.rept_analysis.proofs.analysis.Analysis.conclude_all.Given as goal

abbrev pub invariant-loop-inferred : goal.invariant-loop-inferred
invariant-loop-inferred g l =
    let st = state_of g.W.Partial.sets g.W.Transfer.moves g.R.RowRules.rules g.B.ByteFacts.store in
    record {
      grows : Grows (st l.fn.self.propagation.facts) (st l.self.propagation.facts);
      inferred : HasInferred (st l.fn.self.propagation.facts) (st l.self.propagation.facts) l.learnt (InferredBelow l.inferred-index l.list l.i);
      known : InferredBelow l.inferred-index l.list l.i (st l.self.propagation.facts);
      still : (st l.self.propagation.facts).work ≡ (st l.fn.self.propagation.facts).work;
    }
