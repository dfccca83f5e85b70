use Rattle.rept_timeline.specs.Paths.{timeline}
use Rattle.std.proofs.Common.{◌≡◌, ◌≤◌}
use Rattle.rept_facts.specs.Counts.{calls_below}
use Rattle.rept_analysis.proofs.analysis.Analysis.calls.Given as goal

abbrev pub invariant-loop-i : goal.invariant-loop-i
invariant-loop-i g l = record {
  value : l.sum ≡ calls_below (timeline l.self.propagation.facts.paths).legs l.i;
  few : l.sum ≤ l.i;
  count : l.count ≡ (timeline l.self.propagation.facts.paths).legs.count;
}
