use Rattle.std.proofs.Common.{◌≤◌, ◌-◌}
use Rattle.rept_writing.proofs.Meeting.{NoneMet}
use Rattle.rept_writing.proofs.list.StoreIndex.meeting_below.Given as goal

abbrev pub invariant-loop-from : goal.invariant-loop-from
invariant-loop-from l = record {
  low : l.fn.k ≤ l.from;
  none : NoneMet l.self.list (record { from = l.m; to = l.w; address = l.a }) l.fn.k l.from;
}

abbrev pub decreases-loop-from : goal.decreases-loop-from
decreases-loop-from l = l.end - l.from
