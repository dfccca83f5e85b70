use Rattle.std.proofs.Common.{◌≡◌}
use Rattle.rept_moments.specs.Ordering.{timed_to}
use Rattle.rept_moments.proofs.ordering.listed.Given as goal

abbrev pub invariant-loop-point : goal.invariant-loop-point
invariant-loop-point l = l.list.items ≡ timed_to l.points l.point
