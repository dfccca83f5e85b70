use Rattle.rept_timeline.specs.Paths.{timeline}
use Rattle.rept_report.specs.Last.Latest.{IsNoneFrom, IsSought}
use Rattle.rept_timeline.proofs.last.search.LastRowSearch.greatest.Given as goal

abbrev pub invariant-loop-high : goal.invariant-loop-high
invariant-loop-high g l = record {
  none : IsNoneFrom (IsSought (timeline l.self.paths.now) (g.M.RowWrites.writes l.self.rows.now) l.self.sought) l.high;
}

abbrev pub decreases-loop-high : goal.decreases-loop-high
decreases-loop-high g l = l.high
