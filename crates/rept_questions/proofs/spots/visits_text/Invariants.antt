use Rattle.std.proofs.Common.{◌≡◌}
use Rattle.std.specs.Prelude.{◌==◌}
use Rattle.std.specs.List.{filter, range_with_len}
use Rattle.rept_findings.specs.Texts.{at, pc_at}
use Rattle.rept_questions.proofs.spots.visits_text.Given as goal

abbrev pub invariant-loop-point : goal.invariant-loop-point
invariant-loop-point g l = l.points.items ≡ filter (λ p. pc_at (g.F.Findings.shown l.findings) (at l.at.thread p) == l.address) (range_with_len 0 l.point)
