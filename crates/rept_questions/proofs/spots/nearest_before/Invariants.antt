use Rattle.std.proofs.Common.{◌≡◌, reverse, take}
use Rattle.std.specs.Prelude.{nat_lt}
use Rattle.std.specs.List.{find}
use Rattle.rept_questions.proofs.spots.nearest_before.Given as goal

abbrev pub invariant-loop-point : goal.invariant-loop-point
invariant-loop-point l = l.nearest ≡ find (λ p. nat_lt p l.cursor) (reverse (take l.point-index l.points))
