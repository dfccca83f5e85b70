use Rattle.std.proofs.Common.{◌≡◌}
use Rattle.std.specs.List.{filter, range_with_len}
use Rattle.rept_findings.specs.Texts.{at}
use Rattle.rept_questions.specs.Texts.{is_held}
use Rattle.rept_questions.proofs.spots.find_text.Given as goal

abbrev pub invariant-loop-point : goal.invariant-loop-point
invariant-loop-point g l = l.points.items ≡ filter (λ p. is_held (g.F.Findings.shown l.findings) (at l.at.thread p) l.register l.value) (range_with_len 0 l.point)
