use Rattle.std.proofs.Common.{◌≡◌, ◌<◌, ◌≤◌, ◌-◌, ℕ, true, false}
use Rattle.rept_findings.specs.LastWriters.{writer_at}
use Rattle.rept_findings.specs.Texts.{at}
use Rattle.rept_remote.specs.Moves.Halts.{NamesNoOther, has_changed, is_touched}
use Rattle.rept_remote.proofs.moves.moves.first_change.Given as goal

-- nothing is written up to the lower point, and something up to the higher one
abbrev pub invariant-loop-high : goal.invariant-loop-high
invariant-loop-high g l =
    let s = g.F.Findings.shown l.findings in
    let t = l.here.thread in
    record {
      from : l.here.point ≤ l.low;
      order : l.low < l.high;
      within : l.high ≤ l.changed;
      none : (k : ℕ) → l.here.point < k → k ≤ l.low → is_touched s (at t k) l.address ≡ false;
      old : NamesNoOther s l.here l.low l.address;
      new : has_changed s l.here l.address (writer_at s (at t l.high) l.address) ≡ true;
    }

abbrev pub decreases-loop-high : goal.decreases-loop-high
decreases-loop-high g l = l.high - l.low
