use Rattle.std.proofs.Common.{◌≡◌, ◌≤◌, ◌<◌, ◌-◌, ℕ, true, false, length}
use Rattle.rept_order.specs.Reaching.{reaches_at}
use Rattle.rept_order.proofs.edge.slice_number.Given as goal

abbrev pub invariant-loop-low : goal.invariant-loop-low
invariant-loop-low l = record {
  order : l.low ≤ l.high;
  within : l.high ≤ length l.slices;
  before : (k : ℕ) → k < l.low → reaches_at l.slices k l.step ≡ false;
  after : (k : ℕ) → l.high ≤ k → reaches_at l.slices k l.step ≡ true;
}

abbrev pub decreases-loop-low : goal.decreases-loop-low
decreases-loop-low l = l.high - l.low
