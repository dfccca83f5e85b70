use Rattle.rept_moments.proofs.Places.{AreStarts}
use Rattle.rept_moments.proofs.points.starts.Given as goal

abbrev pub invariant-loop-thread : goal.invariant-loop-thread
invariant-loop-thread l = AreStarts l.run.threads l.thread l.starts.items l.point
