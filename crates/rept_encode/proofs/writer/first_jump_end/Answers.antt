use Rattle.std.proofs.Common.{arith}
use Rattle.rept_encode.proofs.JumpEnds.{not_here, none_after}
use Rattle.rept_encode.proofs.writer.first_jump_end.Goals as goal

pub loop-i-preserved : goal.loop-i-preserved
loop-i-preserved c = λ j x. not_here c.args.rows.now c.loop-i.i c.index-rows-i.result c.index-rows-i-in-loop-i.result (omega arith) (omega arith) c.index-rows-i.is c.index-rows-i-in-loop-i.is (let e = c.ends_jump.ensures in let f = c.if-ends_jump.false in cc) j x (c.loop-i.invariant j x)

pub returns-clause-none : goal.returns-clause-none
returns-clause-none c = none_after c.args.rows.now c.loop-i.i (omega arith) c.loop-i.invariant
