use Rattle.rept_timeline.specs.Paths.{timeline}
use Rattle.std.proofs.Common.{◌≡◌, ◌≤◌, ◌*◌}
use Rattle.rept_reason.specs.Facts.{told}
use Rattle.rept_report.specs.Log.{oldest}
use Rattle.rept_facts.specs.Counts.{known_below}
use Rattle.rept_analysis.proofs.analysis.Analysis.told.Given as goal

abbrev pub invariant-loop-point : goal.invariant-loop-point
invariant-loop-point g l = record {
  value : l.sum ≡ known_below (told (oldest l.self.propagation.facts.shown l.self.propagation.facts.known.log)) l.point;
  few : l.sum ≤ 32 * l.point;
  count : l.count ≡ (timeline l.self.propagation.facts.paths).legs.count;
}
