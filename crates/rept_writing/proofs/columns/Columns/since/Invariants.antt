use Rattle.std.proofs.Common.{◌≤◌}
use Rattle.rept_writing.proofs.Meeting.{IsGoneBack}
use Rattle.rept_writing.proofs.columns.Columns.since.Given as goal

abbrev pub invariant-loop-p : goal.invariant-loop-p
invariant-loop-p l = record {
  least : l.least ≤ l.found;
  gone : IsGoneBack l.list l.self l.p l.end l.found l.a;
}
