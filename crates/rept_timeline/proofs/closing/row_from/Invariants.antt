use Rattle.std.proofs.Common.{◌≤◌, ◌<◌, ◌-◌, ℕ}
use Rattle.std.specs.Option.{IsSome}
use Rattle.rept_moments.specs.Several.{seen_of}
use Rattle.rept_timeline.proofs.closing.row_from.Given as goal

abbrev pub invariant-loop-at : goal.invariant-loop-at
invariant-loop-at l = record {
  up : l.least ≤ l.at;
  none : (i : ℕ) → l.least ≤ i → i < l.at → IsSome ((seen_of l.many).legs.row i) → ⊥;
}

abbrev pub decreases-loop-at : goal.decreases-loop-at
decreases-loop-at l = l.last - l.at
