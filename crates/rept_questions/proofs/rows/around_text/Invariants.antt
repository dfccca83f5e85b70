use Rattle.std.proofs.Common.{◌≡◌, ◌-◌}
use Rattle.std.specs.List.{flat_map, range_with_len}
use Rattle.rept_findings.specs.Texts.{at}
use Rattle.rept_questions.specs.Texts.{at_line}
use Rattle.rept_questions.proofs.rows.around_text.Given as goal

abbrev pub invariant-loop-point : goal.invariant-loop-point
invariant-loop-point g l = l.text ≡ flat_map (λ p. at_line (g.F.Findings.shown l.findings) (at l.at.thread p)) (range_with_len l.first (l.point - l.first))
