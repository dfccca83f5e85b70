use Rattle.std.proofs.Common.{◌≤◌}
use Rattle.rept_writing.proofs.Passing.{NoneHits}
use Rattle.rept_writing.proofs.wide.past_wide.Given as goal

abbrev pub invariant-loop-i : goal.invariant-loop-i
invariant-loop-i l = record {
  high : l.i ≤ l.stop;
  none : NoneHits l.list l.wide l.i l.stop l.a;
}

abbrev pub decreases-loop-i : goal.decreases-loop-i
decreases-loop-i l = l.i
