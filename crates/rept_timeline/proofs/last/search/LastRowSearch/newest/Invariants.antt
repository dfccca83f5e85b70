use Rattle.rept_timeline.specs.Paths.{timeline}
use Rattle.std.proofs.Common.{ℕ, ◌+◌, ◌-◌}
use Rattle.rept_report.specs.Last.Latest.{IsSought}
use Rattle.rept_report.proofs.LastLemmas.Latest.{IsOnlyBelow}
use Rattle.rept_timeline.proofs.last.search.LastRowSearch.newest.Given as goal

abbrev pub invariant-loop-least : goal.invariant-loop-least
invariant-loop-least g l =
    let Is : ℕ → Type 0 = IsSought (timeline l.self.paths.now) (g.M.RowWrites.writes l.self.rows.now) l.self.sought in
    record {
      one : Is l.best;
      only : IsOnlyBelow (timeline l.self.paths.now).moments Is l.least l.best;
    }

abbrev pub decreases-loop-least : goal.decreases-loop-least
decreases-loop-least g l = l.top + 1 - l.least
