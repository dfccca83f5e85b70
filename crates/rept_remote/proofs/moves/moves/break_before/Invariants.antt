use Rattle.std.proofs.Common.{◌≡◌, ◌≤◌}
use Rattle.rept_findings.specs.Texts.{at}
use Rattle.rept_remote.specs.Moves.Halts.{break_before}
use Rattle.rept_remote.proofs.moves.moves.break_before.Given as goal

abbrev pub invariant-loop-left : goal.invariant-loop-left
invariant-loop-left g l = record {
  within : l.left ≤ l.at.point;
  same : break_before (g.F.Findings.shown l.findings) l.breaks l.at ≡ break_before (g.F.Findings.shown l.findings) l.breaks (at l.at.thread l.left);
}

abbrev pub decreases-loop-left : goal.decreases-loop-left
decreases-loop-left g l = l.left
