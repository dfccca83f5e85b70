use Rattle.std.proofs.Common.{◌≡◌}
use Rattle.rept_moments.specs.Writers.{writers_to}
use Rattle.rept_moments.proofs.writers.listed.Given as goal

abbrev pub invariant-loop-point : goal.invariant-loop-point
invariant-loop-point l = l.list.items ≡ writers_to l.points l.point
