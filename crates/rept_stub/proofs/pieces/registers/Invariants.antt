use Rattle.std.proofs.Common.{◌≡◌}
use Rattle.std.specs.List.{flat_map, range_with_len}
use Rattle.rept_stub.specs.Replies.{value_digits}
use Rattle.rept_stub.proofs.pieces.registers.Given as goal

abbrev pub invariant-loop-number : goal.invariant-loop-number
invariant-loop-number g l = l.text ≡ flat_map (λ r. value_digits ((g.F.Findings.shown l.findings).register l.point r)) (range_with_len 0 l.number)
