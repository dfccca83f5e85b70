use Rattle.std.proofs.Common.{◌≡◌, ◌≤◌, ◌<◌, ◌-◌, ℕ, true, false}
use Rattle.rept_moments.specs.Several.{seen_of}
use Rattle.rept_timeline.proofs.closing.first_close.Given as goal

abbrev pub invariant-loop-low : goal.invariant-loop-low
invariant-loop-low l = record {
  order : l.low ≤ l.high;
  up : l.first ≤ l.low;
  within : l.high ≤ l.last;
  before : (i : ℕ) → l.first ≤ i → i < l.low → (seen_of l.many).moments.later l.row i ≡ true;
  after : (i : ℕ) → l.high ≤ i → i < l.last → (seen_of l.many).moments.later l.row i ≡ false;
}

abbrev pub decreases-loop-low : goal.decreases-loop-low
decreases-loop-low l = l.high - l.low
