use Rattle.std.proofs.Common.{◌≤◌, ◌+◌, ℕ}
use Rattle.rept_moments.specs.Several.{seen_of}
use Rattle.rept_report.specs.Timeline.{IsBegun}
use Rattle.rept_extents.specs.Timelines.{as_timeline}
use Rattle.rept_timeline.proofs.beginning.begun_to.Given as goal

abbrev pub invariant-loop-row : goal.invariant-loop-row
invariant-loop-row l = record {
  few : l.end ≤ l.most + 1;
  none : (k : ℕ) → l.row ≤ k → k ≤ l.most → IsBegun (as_timeline (seen_of l.many)) l.number k → ⊥;
}
