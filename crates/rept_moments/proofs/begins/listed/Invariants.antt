use Rattle.std.proofs.Common.{◌≡◌}
use Rattle.rept_moments.specs.Begins.{firsts_to}
use Rattle.rept_moments.proofs.begins.listed.Given as goal

abbrev pub invariant-loop-point : goal.invariant-loop-point
invariant-loop-point l = l.list.items ≡ firsts_to l.points l.point
