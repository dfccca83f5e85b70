use Rattle.std.proofs.Common.{◌≡◌, ℕ, None}
use Rattle.rept_moments.specs.Points.{by_point}
use Rattle.rept_moments.proofs.numbers.blank.Given as goal

abbrev pub invariant-loop-point : goal.invariant-loop-point
invariant-loop-point l = l.list.items ≡ by_point (λ (g : ℕ). None) l._point
