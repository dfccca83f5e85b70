use Rattle.rept_moments.proofs.Beginning.{IsLowering}
use Rattle.rept_moments.proofs.begins.lower.Given as goal

abbrev pub invariant-loop-place : goal.invariant-loop-place
invariant-loop-place l = IsLowering l.fn.list.items l.list.items l.place l.least

abbrev pub decreases-loop-place : goal.decreases-loop-place
decreases-loop-place l = l.place
