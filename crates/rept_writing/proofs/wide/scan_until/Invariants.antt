use Rattle.rept_writing.specs.Acting.{MayActFrom}
use Rattle.rept_writing.proofs.wide.scan_until.Given as goal

abbrev pub invariant-loop-k : goal.invariant-loop-k
invariant-loop-k l = MayActFrom l.list l.a l.k l.found
