use Rattle.std.proofs.Common.{◌≡◌, ℕ, ◌+◌, ◌<◌, ◌≤◌, false}
use Rattle.rept_findings.specs.Texts.{at, wrapped}
use Rattle.rept_questions.specs.Writers.{is_writer}
use Rattle.rept_questions.proofs.writers.quiet_from.Given as goal

abbrev pub invariant-loop-i : goal.invariant-loop-i
invariant-loop-i g l = record {
  quiet : (j k : ℕ) → j < l.i → l.least ≤ k → k < l.at.point → is_writer (g.F.Findings.shown l.findings) (wrapped (l.bytes.address + j)) (at l.at.thread k) ≡ false;
  within : l.least ≤ l.at.point;
}
