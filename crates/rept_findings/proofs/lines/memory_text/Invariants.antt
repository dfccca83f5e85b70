use Rattle.std.proofs.Common.{◌≡◌, ◌+◌, ◌-◌, ◌*◌, min}
use Rattle.std.specs.List.{flat_map, range_with_len}
use Rattle.rept_findings.specs.Texts.{memory_line, wrapped}
use Rattle.rept_findings.proofs.lines.memory_text.Given as goal

abbrev pub invariant-loop-line : goal.invariant-loop-line
invariant-loop-line g l = l.text ≡ flat_map (λ k. memory_line (g.F.Findings.shown l.findings) l.moment (wrapped (l.address + 16 * k)) (min 16 (l.count - 16 * k))) (range_with_len 0 l.line)
