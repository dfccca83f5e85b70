use Rattle.rept_span.specs.Points.{HasNoneIn}
use Rattle.rept_span.proofs.points.next_marked.Given as goal

abbrev pub invariant-loop-k : goal.invariant-loop-k
invariant-loop-k l = record {
  none : HasNoneIn l.marks l.from l.k;
}
