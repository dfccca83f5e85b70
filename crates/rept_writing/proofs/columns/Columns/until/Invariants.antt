use Rattle.std.proofs.Common.{◌≤◌}
use Rattle.rept_writing.proofs.Meeting.{IsGoneOver}
use Rattle.rept_writing.proofs.columns.Columns.until.Given as goal

abbrev pub invariant-loop-p : goal.invariant-loop-p
invariant-loop-p l = record {
  most : l.found ≤ l.most;
  gone : IsGoneOver l.list l.self l.start l.p l.found l.a;
}
