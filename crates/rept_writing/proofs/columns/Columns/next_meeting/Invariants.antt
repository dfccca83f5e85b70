use Rattle.std.specs.Prelude.{max}
use Rattle.rept_writing.proofs.Meeting.{NoneMeets}
use Rattle.rept_writing.proofs.columns.Columns.next_meeting.Given as goal

abbrev pub invariant-loop-p : goal.invariant-loop-p
invariant-loop-p l = NoneMeets l.list l.self (record { from = l.m; to = l.w; address = l.a }) (max l.late l.start) l.p
