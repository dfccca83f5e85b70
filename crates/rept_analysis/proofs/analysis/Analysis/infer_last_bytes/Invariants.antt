use Rattle.std.proofs.Common.{◌≡◌, length}
use Rattle.rept_facts.specs.State.{state_of}
use Rattle.rept_facts.specs.Inferring.{Grows, HasInferred, LastBytesBelow}
use Rattle.rept_analysis.proofs.analysis.Analysis.infer_last_bytes.Given as goal

abbrev pub invariant-loop-k : goal.invariant-loop-k
invariant-loop-k g l =
    let st = state_of g.W.Partial.sets g.W.Transfer.moves g.R.RowRules.rules g.B.ByteFacts.store in
    record {
      grows : Grows (st l.fn.self.propagation.facts) (st l.self.propagation.facts);
      inferred : HasInferred (st l.fn.self.propagation.facts) (st l.self.propagation.facts) l.learnt (LastBytesBelow l.k);
      count : l.count ≡ length (st l.fn.self.propagation.facts).known.store.tracked;
    }
