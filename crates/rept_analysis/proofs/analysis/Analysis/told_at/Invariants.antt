use Rattle.std.proofs.Common.{◌≡◌, ◌≤◌}
use Rattle.rept_reason.specs.Facts.{told}
use Rattle.rept_report.specs.Log.{oldest}
use Rattle.rept_facts.specs.Counts.{known_at}
use Rattle.rept_analysis.proofs.analysis.Analysis.told_at.Given as goal

abbrev pub invariant-loop-r : goal.invariant-loop-r
invariant-loop-r g l = record {
  value : l.sum ≡ known_at (told (oldest l.self.propagation.facts.shown l.self.propagation.facts.known.log)) l.point l.r;
  few : l.sum ≤ l.r;
}
