use Rattle.rept_span.specs.Points.{HasNoneIn, KeepsPoints}
use Rattle.rept_span.proofs.points.unmark.Given as goal

abbrev pub invariant-loop-k : goal.invariant-loop-k
invariant-loop-k l = record {
  fewer : KeepsPoints l.marks l.fn.marks;
  none : HasNoneIn l.marks l.from l.k;
}
