use Rattle.std.proofs.Common.{◌≤◌, ◌<◌, ◌-◌, ℕ, length, get_or}
use Rattle.rept_timeline.proofs.storing.Storing.begin.Given as goal

abbrev pub invariant-loop-low : goal.invariant-loop-low
invariant-loop-low l = record {
  order : l.low ≤ l.high;
  within : l.high ≤ length l.self;
  before : (k : ℕ) → k < l.low → get_or l.self k 0 < l.row;
  after : (k : ℕ) → l.high ≤ k → k < length l.self → l.row ≤ get_or l.self k 0;
}

abbrev pub decreases-loop-low : goal.decreases-loop-low
decreases-loop-low l = l.high - l.low
