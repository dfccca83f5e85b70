use Rattle.rept_timeline.specs.Paths.{timeline}
use Rattle.std.proofs.Common.{◌≡◌, ◌+◌, length}
use Rattle.rept_facts.specs.State.{state_of}
use Rattle.rept_facts.specs.Inferring.{AreWritings, IsUncut}
use Rattle.rept_facts.specs.Measure.{measure}
use Rattle.rept_analysis.specs.Since.{GoesFurther, IsFilledQuiet}
use Rattle.rept_analysis.proofs.analysis.Analysis.settle_at.Given as goal

abbrev pub invariant-loop-quiet : goal.invariant-loop-quiet
invariant-loop-quiet g l =
    let st = state_of g.W.Partial.sets g.W.Transfer.moves g.R.RowRules.rules g.B.ByteFacts.store in
    record {
      goes : GoesFurther (st l.fn.self.propagation.facts) (st l.self.propagation.facts);
      uncut : IsUncut (st l.self.propagation.facts);
      writings : AreWritings (st l.self.propagation.facts);
      quiet : IsFilledQuiet (st l.self.propagation.facts);
      marks : length l.changes.points ≡ (timeline l.fn.self.propagation.facts.paths).legs.count + 1;
    }

abbrev pub decreases-loop-quiet : goal.decreases-loop-quiet
decreases-loop-quiet g l = measure (state_of g.W.Partial.sets g.W.Transfer.moves g.R.RowRules.rules g.B.ByteFacts.store l.self.propagation.facts)
