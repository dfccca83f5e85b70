use Rattle.rept_encode.specs.Walkable.{AreStraight}
use Rattle.rept_encode.proofs.weaving.writer.inner_call.Given as goal

abbrev pub invariant-loop-i : goal.invariant-loop-i
invariant-loop-i l = AreStraight l.rows l.i
