use Rattle.std.proofs.Common.{take}
use Rattle.rept_encode.specs.Weaving.Woven.{AreStretchesTold}
use Rattle.rept_encode.proofs.weaving.writer.stream_of.Given as goal

abbrev pub invariant-loop-i : goal.invariant-loop-i
invariant-loop-i l = AreStretchesTold l.halves (take l.i l.stretches) l.stream
