use Rattle.std.proofs.Common.{◌≡◌, ◌-◌}
use Rattle.std.specs.List.{flat_map, range_with_len}
use Rattle.rept_findings.specs.Texts.{register_line}
use Rattle.rept_findings.proofs.lines.register_texts.Given as goal

abbrev pub invariant-loop-number : goal.invariant-loop-number
invariant-loop-number g l = l.text ≡ flat_map (register_line (g.F.Findings.shown l.findings) l.point) (range_with_len 1 (l.number - 1))
