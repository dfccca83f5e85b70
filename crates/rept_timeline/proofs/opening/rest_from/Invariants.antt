use Rattle.std.proofs.Common.{◌≡◌, ◌≤◌, ◌<◌, ◌-◌, ℕ, false}
use Rattle.rept_moments.specs.Several.{seen_of}
use Rattle.rept_timeline.proofs.opening.rest_from.Given as goal

abbrev pub invariant-loop-row : goal.invariant-loop-row
invariant-loop-row l = record {
  up : l.least ≤ l.from;
  clear : (i : ℕ) → l.least ≤ i → i < l.from → (seen_of l.many).moments.may_act i l.m l.w ≡ false;
}

abbrev pub decreases-loop-row : goal.decreases-loop-row
decreases-loop-row l = (seen_of l.many).legs.count - l.from
