use Rattle.std.proofs.Common.{◌≤◌, ◌<◌, ◌-◌, ℕ}
use Rattle.rept_report.specs.Timeline.{IsRowTo}
use Rattle.rept_extents.specs.Timelines.{time_of}
use Rattle.rept_timeline.proofs.arriving.row_to.Given as goal

abbrev pub invariant-loop-row : goal.invariant-loop-row
invariant-loop-row l = record {
  up : l.least ≤ l.row;
  none : (i : ℕ) → l.least ≤ i → i < l.row → IsRowTo (time_of l.course) l.number i → ⊥;
}

abbrev pub decreases-loop-row : goal.decreases-loop-row
decreases-loop-row l = l.last - l.row
