use Rattle.std.proofs.Common.{◌≡◌, drop}
use Rattle.std.specs.Prelude.{nat_lt}
use Rattle.std.specs.List.{find}
use Rattle.rept_questions.proofs.spots.next_after.Given as goal

abbrev pub invariant-loop-point : goal.invariant-loop-point
invariant-loop-point l = find (λ p. nat_lt l.cursor p) l.points ≡ find (λ p. nat_lt l.cursor p) (drop l.point-index l.points)
