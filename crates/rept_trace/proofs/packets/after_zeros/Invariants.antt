use Rattle.std.proofs.Common.{length}
use Rattle.rept_trace.specs.Stream.{AreAfterZeros}
use Rattle.rept_trace.proofs.packets.after_zeros.Given as goal

abbrev pub invariant-loop-others : goal.invariant-loop-others
invariant-loop-others l = AreAfterZeros l.bytes l.rest

abbrev pub decreases-loop-others : goal.decreases-loop-others
decreases-loop-others l = length l.rest
