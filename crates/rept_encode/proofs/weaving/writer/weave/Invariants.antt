use Rattle.std.proofs.Common.{take, length}
use Rattle.rept_encode.specs.Weaving.Steps.{IsTraceFront}
use Rattle.rept_encode.proofs.weaving.writer.weave.Given as goal

abbrev pub invariant-loop-i : goal.invariant-loop-i
invariant-loop-i l = IsTraceFront l.halves (length l.all) (take l.i l.all) l.trace
