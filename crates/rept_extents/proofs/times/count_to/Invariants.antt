use Rattle.std.proofs.Common.{◌≡◌, ◌≤◌, ◌<◌, ◌-◌, ℕ, suc, length, Some, slice_get}
use Rattle.std.specs.Ordering.{MatchOrdering}
use Rattle.rept_extents.proofs.times.count_to.Given as goal

abbrev pub invariant-loop-low : goal.invariant-loop-low
invariant-loop-low l = record {
  order : l.low ≤ l.high;
  within : l.high ≤ length l.times;
  last : (k t : ℕ) → l.low ≡ suc k → slice_get l.times k ≡ Some t → MatchOrdering l.side (t < l.time) (t ≡ l.time) (l.time < t);
}

abbrev pub decreases-loop-low : goal.decreases-loop-low
decreases-loop-low l = l.high - l.low
