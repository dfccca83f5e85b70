use Rattle.std.proofs.Common.{ℕ, ◌<◌}
use Rattle.rept_span.specs.Points.{HasPoint}
use Rattle.rept_span.proofs.points.mark_all.Given as goal

abbrev pub invariant-loop-k : goal.invariant-loop-k
invariant-loop-k l = record {
  all : (p : ℕ) → p < l.k → HasPoint l.marks p;
}
