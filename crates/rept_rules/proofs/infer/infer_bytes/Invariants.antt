use Rattle.std.proofs.Common.{◌≡◌, ◌≤◌, ◌+◌, ◌++◌, length}
use Rattle.rept_rules.specs.Listing.{bytes_inferred}
use Rattle.rept_rules.proofs.infer.infer_bytes.Given as goal

abbrev pub invariant-loop-k : goal.invariant-loop-k
invariant-loop-k l = record {
  items : l.inferred.items ≡ l.initial.inferred.items ++ bytes_inferred l.rule l.when l.base l.v l.k;
  capacity : l.inferred.capacity ≡ l.initial.inferred.capacity;
  few : length l.inferred.items ≤ length l.initial.inferred.items + l.k;
}
