use Rattle.std.proofs.Common.{◌≤◌, ◌-◌}
use Rattle.rept_writing.proofs.Passing.{NoneHits}
use Rattle.rept_writing.proofs.wide.next_wide.Given as goal

abbrev pub invariant-loop-i : goal.invariant-loop-i
invariant-loop-i l = record {
  low : l.start ≤ l.i;
  none : NoneHits l.list l.wide l.start l.i l.a;
}

abbrev pub decreases-loop-i : goal.decreases-loop-i
decreases-loop-i l = l.stop - l.i
