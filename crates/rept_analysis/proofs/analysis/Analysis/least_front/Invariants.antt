use Rattle.std.proofs.Common.{◌-◌, ◌≤◌, ◌<◌, ℕ, length}
use Rattle.rept_report.specs.Log.{oldest}
use Rattle.rept_report.specs.Reasons.{StandsIn}
use Rattle.rept_facts.specs.Reasoned.{AreSetsOf}
use Rattle.rept_facts.specs.State.{setting_of}
use Rattle.rept_analysis.proofs.analysis.Analysis.least_front.Given as goal

abbrev pub invariant-loop-low : goal.invariant-loop-low
invariant-loop-low g l = record {
  low : l.low ≤ l.high;
  high : l.high ≤ length l.self.propagation.facts.known.log;
  sets : AreSetsOf (setting_of g.W.Partial.sets g.W.Transfer.moves g.R.RowRules.rules l.self.propagation.facts) (oldest l.sets.limit l.self.propagation.facts.known.log) l.sets.spans;
  stands : StandsIn (setting_of g.W.Partial.sets g.W.Transfer.moves g.R.RowRules.rules l.self.propagation.facts) (oldest l.high l.self.propagation.facts.known.log) l.fact;
  below : (u : ℕ) → u < l.low → StandsIn (setting_of g.W.Partial.sets g.W.Transfer.moves g.R.RowRules.rules l.self.propagation.facts) (oldest u l.self.propagation.facts.known.log) l.fact → ⊥;
}

abbrev pub decreases-loop-low : goal.decreases-loop-low
decreases-loop-low g l = l.high - l.low
