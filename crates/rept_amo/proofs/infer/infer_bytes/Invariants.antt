use Rattle.std.proofs.Common.{◌≡◌, ◌≤◌, ◌+◌, ◌++◌, length}
use Rattle.rept_amo.specs.Listing.{bytes_inferred}
use Rattle.rept_amo.proofs.infer.infer_bytes.Given as goal

abbrev pub invariant-loop-k : goal.invariant-loop-k
invariant-loop-k l = record {
  items : l.inferred.items ≡ l.initial.inferred.items ++ bytes_inferred l.word l.k;
  capacity : l.inferred.capacity ≡ l.initial.inferred.capacity;
  few : length l.inferred.items ≤ length l.initial.inferred.items + l.k;
}
