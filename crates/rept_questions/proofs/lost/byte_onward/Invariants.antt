use Rattle.std.proofs.Common.{◌≡◌, ◌-◌, length}
use Rattle.std.specs.List.{find, range_with_len}
use Rattle.rept_findings.specs.Texts.{at}
use Rattle.rept_questions.specs.Writers.{is_writer}
use Rattle.rept_questions.proofs.lost.byte_onward.Given as goal

abbrev pub invariant-loop-step : goal.invariant-loop-step
invariant-loop-step g l =
    find (λ j. is_writer (g.F.Findings.shown l.findings) l.address (at l.at.thread j)) (range_with_len l.at.point (length ((g.F.Findings.shown l.findings).rows l.at.thread) - l.at.point))
    ≡ find (λ j. is_writer (g.F.Findings.shown l.findings) l.address (at l.at.thread j)) (range_with_len l.step (length ((g.F.Findings.shown l.findings).rows l.at.thread) - l.step))
