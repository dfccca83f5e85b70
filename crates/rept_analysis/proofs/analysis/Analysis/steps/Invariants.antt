use Rattle.rept_timeline.specs.Paths.{timeline}
use Rattle.std.proofs.Common.{◌≡◌, ◌≤◌}
use Rattle.rept_facts.specs.Counts.{rows_below}
use Rattle.rept_analysis.proofs.analysis.Analysis.steps.Given as goal

abbrev pub invariant-loop-i : goal.invariant-loop-i
invariant-loop-i g l = record {
  value : l.sum ≡ rows_below (timeline l.self.propagation.facts.paths).legs l.i;
  few : l.sum ≤ l.i;
  count : l.count ≡ (timeline l.self.propagation.facts.paths).legs.count;
}
