use Rattle.rept_timeline.specs.Paths.{timeline}
use Rattle.std.proofs.Common.{◌+◌, ◌-◌}
use Rattle.rept_report.specs.Last.Latest.{IsSought}
use Rattle.rept_report.proofs.LastLemmas.Latest.{AreBefore}
use Rattle.rept_timeline.proofs.last.search.LastRowSearch.has_rival.Given as goal

abbrev pub invariant-loop-least : goal.invariant-loop-least
invariant-loop-least g l = record {
  before : AreBefore (timeline l.self.paths.now).moments (IsSought (timeline l.self.paths.now) (g.M.RowWrites.writes l.self.rows.now) l.self.sought) l.best l.least;
}

abbrev pub decreases-loop-least : goal.decreases-loop-least
decreases-loop-least g l = l.top + 1 - l.least
