use Rattle.std.proofs.Common.{◌≤◌, ◌+◌}
use Rattle.rept_facts.specs.Work.{left}
use Rattle.rept_facts.specs.State.{state_of}
use Rattle.rept_facts.specs.Inferring.{Continues, IsUncut}
use Rattle.rept_facts.specs.Refined.{KeepsKnown}
use Rattle.rept_facts.specs.Begun.{LearnsEndsFirst}
use Rattle.rept_facts.specs.Measure.{measure}
use Rattle.rept_analysis.proofs.analysis.Analysis.settle.Given as goal

abbrev pub invariant-loop-len : goal.invariant-loop-len
invariant-loop-len g l = record {
  spent : (state_of g.W.Partial.sets g.W.Transfer.moves g.R.RowRules.rules g.B.ByteFacts.store l.self.propagation.facts).work.infers + left (state_of g.W.Partial.sets g.W.Transfer.moves g.R.RowRules.rules g.B.ByteFacts.store l.self.propagation.facts).work.inferred ≤ (state_of g.W.Partial.sets g.W.Transfer.moves g.R.RowRules.rules g.B.ByteFacts.store l.fn.self.propagation.facts).work.infers + left (state_of g.W.Partial.sets g.W.Transfer.moves g.R.RowRules.rules g.B.ByteFacts.store l.fn.self.propagation.facts).work.inferred;
  uncut : IsUncut (state_of g.W.Partial.sets g.W.Transfer.moves g.R.RowRules.rules g.B.ByteFacts.store l.self.propagation.facts);
  more : KeepsKnown (state_of g.W.Partial.sets g.W.Transfer.moves g.R.RowRules.rules g.B.ByteFacts.store l.fn.self.propagation.facts) (state_of g.W.Partial.sets g.W.Transfer.moves g.R.RowRules.rules g.B.ByteFacts.store l.self.propagation.facts);
  begins : LearnsEndsFirst (state_of g.W.Partial.sets g.W.Transfer.moves g.R.RowRules.rules g.B.ByteFacts.store l.fn.self.propagation.facts) → LearnsEndsFirst (state_of g.W.Partial.sets g.W.Transfer.moves g.R.RowRules.rules g.B.ByteFacts.store l.self.propagation.facts);
  continues : Continues (state_of g.W.Partial.sets g.W.Transfer.moves g.R.RowRules.rules g.B.ByteFacts.store l.fn.self.propagation.facts) (state_of g.W.Partial.sets g.W.Transfer.moves g.R.RowRules.rules g.B.ByteFacts.store l.self.propagation.facts);
}

abbrev pub decreases-loop-len : goal.decreases-loop-len
decreases-loop-len g l = measure (state_of g.W.Partial.sets g.W.Transfer.moves g.R.RowRules.rules g.B.ByteFacts.store l.self.propagation.facts)
