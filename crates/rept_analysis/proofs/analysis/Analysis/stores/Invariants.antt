use Rattle.rept_timeline.specs.Paths.{timeline}
use Rattle.std.proofs.Common.{◌≡◌, ◌≤◌}
use Rattle.rept_reason.specs.Facts.{told}
use Rattle.rept_report.specs.Log.{oldest}
use Rattle.rept_facts.specs.Counts.{stores_below}
use Rattle.rept_analysis.proofs.analysis.Analysis.stores.Given as goal

abbrev pub invariant-loop-i : goal.invariant-loop-i
invariant-loop-i g l = record {
  value : l.sum ≡ stores_below (timeline l.self.propagation.facts.paths).legs (told (oldest l.self.propagation.facts.shown l.self.propagation.facts.known.log)) l.known l.i;
  few : l.sum ≤ l.i;
  count : l.count ≡ (timeline l.self.propagation.facts.paths).legs.count;
}
