use Rattle.std.proofs.Common.{◌-◌, ℕ, ◌<◌, ◌≤◌, length}
use Rattle.rept_versions.specs.Line.{nth}
use Rattle.rept_versions.proofs.line.SpanLine.seek_between.Given as goal

abbrev pub invariant-loop-low : goal.invariant-loop-low
invariant-loop-low l = record {
  ordered : l.low ≤ l.high;
  bound : l.high ≤ length l.self.spans;
  below : (j : ℕ) → j < l.low → (nth l.self.spans j).high < l.k;
  above : (j : ℕ) → l.high ≤ j → j < length l.self.spans → l.k ≤ (nth l.self.spans j).high;
}

abbrev pub decreases-loop-low : goal.decreases-loop-low
decreases-loop-low l = l.high - l.low
