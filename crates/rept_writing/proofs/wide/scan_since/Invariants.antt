use Rattle.rept_writing.specs.Acting.{MayActBefore}
use Rattle.rept_writing.proofs.wide.scan_since.Given as goal

abbrev pub invariant-loop-k : goal.invariant-loop-k
invariant-loop-k l = MayActBefore l.list l.a l.k l.found
