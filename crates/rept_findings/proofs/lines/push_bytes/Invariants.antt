use Rattle.std.proofs.Common.{◌≡◌, ◌+◌, ◌++◌}
use Rattle.std.specs.List.{flat_map, range_with_len}
use Rattle.rept_findings.specs.Texts.{byte_piece, wrapped}
use Rattle.rept_findings.proofs.lines.push_bytes.Given as goal

abbrev pub invariant-loop-i : goal.invariant-loop-i
invariant-loop-i g l = l.text ≡ l.fn.text ++ flat_map (λ i. byte_piece (g.F.Findings.shown l.findings) l.moment (wrapped (l.address + i))) (range_with_len 0 l.i)
