use Rattle.std.proofs.Common.{arith}
use Rattle.rept_ports.proofs.LineLemmas.{one_more, at_newline, at_its_end, at_fault, pushed, overflowed, may_act}
use Rattle.rept_ports.proofs.lines.read_line.read_line.Goals as goal

pub returns-in-Ok-None : goal.returns-in-Ok-None
returns-in-Ok-None g c =
    at_its_end _ _ _ _ _ _ _ _ c.loop-line.invariant _ _ (rw c.in-Ok-None.field-0-is at c.in-Ok-None.ensures) (c.at_end.ensures c.loop-line.invariant.front c.loop-line.invariant.holds)

pub returns-then-byte-eq10 : goal.returns-then-byte-eq10
returns-then-byte-eq10 g c =
    at_newline _ _ _ _ _ _ _ _ c.loop-line.invariant _ _ _ (rw c.in-Ok-Some.field-0-is at c.in-Ok-Some.ensures) c.if-byte-eq10.true (c.finish.ensures c.loop-line.invariant.front c.loop-line.invariant.holds)

pub loop-line-smaller-then-is_err : goal.loop-line-smaller-then-is_err
loop-line-smaller-then-is_err g c =
    may_act c.loop-line.intake c.take.new.self (g.S.Source.port c.loop-line.source) (g.S.Source.port c.take.new.source) c.in-Ok-Some.byte
    (rw c.in-Ok-Some.field-0-is at c.in-Ok-Some.ensures)

pub loop-line-preserved-then-is_err : goal.loop-line-preserved-then-is_err
loop-line-preserved-then-is_err g c =
    one_more _ _ _ _ _ _ _ _ c.loop-line.invariant _ _ _ (rw c.in-Ok-Some.field-0-is at c.in-Ok-Some.ensures) c.if-byte-eq10.false
    (overflowed c.loop-line.line.items c.loop-line.invariant.front c.in-Ok-Some.byte c.loop-line.is_long c.try_push.new.self.items c.loop-line.invariant.holds (grind (arith)))

pub loop-line-smaller : goal.loop-line-smaller
loop-line-smaller g c =
    may_act c.loop-line.intake c.take.new.self (g.S.Source.port c.loop-line.source) (g.S.Source.port c.take.new.source) c.in-Ok-Some.byte
    (rw c.in-Ok-Some.field-0-is at c.in-Ok-Some.ensures)

pub loop-line-preserved : goal.loop-line-preserved
loop-line-preserved g c =
    one_more _ _ _ _ _ _ _ _ c.loop-line.invariant _ _ _ (rw c.in-Ok-Some.field-0-is at c.in-Ok-Some.ensures) c.if-byte-eq10.false
    (pushed c.loop-line.line.items c.loop-line.invariant.front c.in-Ok-Some.byte c.loop-line.is_long c.try_push.new.self.items c.loop-line.invariant.holds (grind (arith)))

pub returns-in-Err : goal.returns-in-Err
returns-in-Err g c = at_fault _ _ _ _ _ _ _ _ c.loop-line.invariant _ c.in-Err.ensures
