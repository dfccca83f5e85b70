use Rattle.std.proofs.Common.{◌≤◌, ◌<◌, ◌-◌, ℕ}
use Rattle.rept_report.specs.Timeline.{IsJoined}
use Rattle.rept_moments.specs.Courses.{seen_in}
use Rattle.rept_extents.proofs.carry.lines.last_from.Given as goal

abbrev pub invariant-loop-last : goal.invariant-loop-last
invariant-loop-last l = record {
  up : l.first ≤ l.last;
  inside : l.last ≤ l.end;
  joined : (k : ℕ) → l.first ≤ k → k < l.last → IsJoined (seen_in l.ways).moments k;
}

abbrev pub decreases-loop-last : goal.decreases-loop-last
decreases-loop-last l = l.end - l.last
