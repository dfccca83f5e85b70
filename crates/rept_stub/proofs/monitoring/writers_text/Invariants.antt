use Rattle.std.proofs.Common.{◌≡◌, ◌≤◌, ◌++◌}
use Rattle.rept_findings.specs.Texts.{at}
use Rattle.rept_stub.specs.Monitoring.{writers_text}
use Rattle.rept_stub.proofs.Listed.{lines_left}
use Rattle.rept_stub.proofs.monitoring.writers_text.Given as goal

abbrev pub invariant-loop : goal.invariant-loop
invariant-loop g l = record {
  within : l.below ≤ l.at.point;
  lines : writers_text (g.F.Findings.shown l.findings) l.at l.address ≡ l.text ++ lines_left (g.F.Findings.shown l.findings) l.address l.counter (at l.at.thread l.below);
}
