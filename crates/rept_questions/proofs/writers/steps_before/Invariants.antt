use Rattle.std.proofs.Common.{◌≡◌, ◌≤◌, ◌++◌}
use Rattle.rept_findings.specs.Texts.{at}
use Rattle.rept_questions.specs.Writers.{writers_before}
use Rattle.rept_questions.proofs.writers.steps_before.Given as goal

abbrev pub invariant-back : goal.invariant-back
invariant-back g l = record {
  same : writers_before (g.F.Findings.shown l.findings) l.bytes l.at ≡ l.steps.items ++ writers_before (g.F.Findings.shown l.findings) l.bytes (at l.at.thread l.below);
  within : l.below ≤ l.at.point;
}

abbrev pub decreases-back : goal.decreases-back
decreases-back g l = l.below
