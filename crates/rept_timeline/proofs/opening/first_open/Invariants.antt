use Rattle.std.proofs.Common.{◌≡◌, ◌≤◌, ◌<◌, ◌-◌, ℕ, true, false, get_or}
use Rattle.rept_moments.specs.Several.{seen_of}
use Rattle.rept_timeline.proofs.opening.first_open.Given as goal

abbrev pub invariant-loop-low : goal.invariant-loop-low
invariant-loop-low l = record {
  order : l.low ≤ l.high;
  up : l.fn.part.low ≤ l.low;
  within : l.high ≤ l.fn.part.high;
  before : (k : ℕ) → l.fn.part.low ≤ k → k < l.low → (seen_of l.many).moments.past (get_or l.storing k 0) l.m ≡ true;
  after : (k : ℕ) → l.high ≤ k → k < l.fn.part.high → (seen_of l.many).moments.past (get_or l.storing k 0) l.m ≡ false;
}

abbrev pub decreases-loop-low : goal.decreases-loop-low
decreases-loop-low l = l.high - l.low
