use Rattle.std.proofs.Common.{◌≤◌, ◌<◌, ◌-◌, ℕ}
use Rattle.rept_moments.specs.Several.{seen_of}
use Rattle.rept_report.specs.Timeline.{IsClose}
use Rattle.rept_extents.specs.Timelines.{as_timeline}
use Rattle.rept_timeline.proofs.closing.close_from.Given as goal

abbrev pub invariant-loop-first : goal.invariant-loop-first
invariant-loop-first l = record {
  up : l.least ≤ l.from;
  none : (i : ℕ) → l.least ≤ i → i < l.from → IsClose (as_timeline (seen_of l.many)) l.row i → ⊥;
}

abbrev pub decreases-loop-first : goal.decreases-loop-first
decreases-loop-first l = (seen_of l.many).legs.count - l.from
