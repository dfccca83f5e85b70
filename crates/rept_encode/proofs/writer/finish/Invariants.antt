use Rattle.rept_encode.specs.State.{Stood, sent_rows, tail_bytes}
use Rattle.rept_encode.proofs.writer.finish.Given as goal

abbrev pub invariant-loop-i : goal.invariant-loop-i
invariant-loop-i l = Stood (sent_rows l.halves l.rows) l.i l.sender (tail_bytes l.rows l.i)
