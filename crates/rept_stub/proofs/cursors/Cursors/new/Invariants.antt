use Rattle.std.proofs.Common.{◌≡◌, length, map}
use Rattle.std.specs.List.{range_with_len}
use Rattle.rept_stub.proofs.cursors.Cursors.new.Given as goal

abbrev pub invariant-loop-thread : goal.invariant-loop-thread
invariant-loop-thread g l = l.points.items ≡ map (λ t. length ((g.F.Findings.shown l.findings).rows t)) (range_with_len 0 l.thread)
