use Rattle.std.proofs.Common.{◌<◌, ◌-◌}
use Rattle.rept_facts.specs.State.{state_of}
use Rattle.rept_facts.specs.Inferring.{Grows, HasInferred, KeptBelow}
use Rattle.rept_analysis.proofs.analysis.Analysis.carry_all.Given as goal

abbrev pub invariant-loop-least : goal.invariant-loop-least
invariant-loop-least g l =
    let st = state_of g.W.Partial.sets g.W.Transfer.moves g.R.RowRules.rules g.B.ByteFacts.store in
    record {
      named : 0 < l.least;
      grows : Grows (st l.fn.self.propagation.facts) (st l.self.propagation.facts);
      inferred : HasInferred (st l.fn.self.propagation.facts) (st l.self.propagation.facts) l.learnt (KeptBelow l.least l.row l.i);
    }

abbrev pub decreases-loop-least : goal.decreases-loop-least
decreases-loop-least g l = 32 - l.least
