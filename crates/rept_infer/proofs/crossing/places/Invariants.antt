use Rattle.std.proofs.Common.{◌<◌, ℕ}
use Rattle.rept_isa.specs.Numbers.{beside}
use Rattle.rept_narrow.specs.Lanes.{IsListed}
use Rattle.rept_infer.proofs.crossing.places.Given as goal

abbrev pub invariant-loop-k : goal.invariant-loop-k
invariant-loop-k l = (k : ℕ) → k < l.k → IsListed l.list.items (beside l.place k)
