use Rattle.std.proofs.Common.{◌≡◌, ◌≤◌}
use Rattle.std.specs.List.{find}
use Rattle.rept_findings.specs.Texts.{at}
use Rattle.rept_questions.specs.Trail.{falling}
use Rattle.rept_questions.specs.Writers.{is_writer}
use Rattle.rept_questions.proofs.lost.byte_back.Given as goal

abbrev pub invariant-back : goal.invariant-back
invariant-back g l = record {
  same : find (λ j. is_writer (g.F.Findings.shown l.findings) l.address (at l.at.thread j)) (falling l.at.point) ≡ find (λ j. is_writer (g.F.Findings.shown l.findings) l.address (at l.at.thread j)) (falling l.below);
  within : l.below ≤ l.at.point;
}

abbrev pub decreases-back : goal.decreases-back
decreases-back g l = l.below
