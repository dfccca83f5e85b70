use Rattle.rept_encode.specs.State.{Sent, sent_rows}
use Rattle.rept_encode.proofs.writer.send_all.Given as goal

abbrev pub invariant-loop-i : goal.invariant-loop-i
invariant-loop-i l = Sent (sent_rows l.halves l.rows) l.i l.sender
