use Rattle.std.proofs.Common.{◌≡◌}
use Rattle.rept_moments.specs.Points.{by_point}
use Rattle.rept_moments.specs.Merging.{merged_at}
use Rattle.rept_moments.proofs.merging.merged.Given as goal

abbrev pub invariant-loop-point : goal.invariant-loop-point
invariant-loop-point l = l.merged.items ≡ by_point (merged_at l.points) l.point
