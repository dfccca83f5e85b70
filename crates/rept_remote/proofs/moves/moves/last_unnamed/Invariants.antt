use Rattle.std.proofs.Common.{◌≡◌, ◌<◌, ◌≤◌, ◌-◌, true, false}
use Rattle.rept_findings.specs.Texts.{at}
use Rattle.rept_remote.specs.Moves.Halts.{names}
use Rattle.rept_remote.proofs.moves.moves.last_unnamed.Given as goal

abbrev pub invariant-loop-high : goal.invariant-loop-high
invariant-loop-high g l =
    let s = g.F.Findings.shown l.findings in
    record {
      order : l.low < l.high;
      within : l.high ≤ l.here.point;
      not_yet : names s (at l.here.thread l.low) l.address l.row ≡ false;
      named : names s (at l.here.thread l.high) l.address l.row ≡ true;
    }

abbrev pub decreases-loop-high : goal.decreases-loop-high
decreases-loop-high g l = l.high - l.low
