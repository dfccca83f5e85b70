use Rattle.std.proofs.Common.{◌≡◌, ◌+◌, ◌-◌}
use Rattle.std.specs.List.{list_any, range_with_len}
use Rattle.rept_findings.specs.Texts.{wrapped}
use Rattle.rept_questions.specs.Writers.{is_writer}
use Rattle.rept_questions.proofs.writers.is_some_writer.Given as goal

abbrev pub invariant-loop-i : goal.invariant-loop-i
invariant-loop-i g l =
    list_any (λ i. is_writer (g.F.Findings.shown l.findings) (wrapped (l.bytes.address + i)) l.at) (range_with_len 0 l.bytes.count)
    ≡ list_any (λ i. is_writer (g.F.Findings.shown l.findings) (wrapped (l.bytes.address + i)) l.at) (range_with_len l.i (l.bytes.count - l.i))
