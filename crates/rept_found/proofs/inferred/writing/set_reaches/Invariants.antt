use Rattle.std.proofs.Common.{◌≡◌, false}
use Rattle.rept_found.specs.Inferred.Writing.{set_reaches}
use Rattle.rept_found.proofs.inferred.writing.set_reaches.Given as goal

abbrev pub invariant-loop-k : goal.invariant-loop-k
invariant-loop-k l = record { missed : set_reaches l.base l.offset l.address l.k ≡ false }
