use Rattle.std.proofs.Common.{◌≡◌, ◌≤◌, ◌+◌, ◌++◌, length}
use Rattle.rept_rules.specs.Needs.{byte_needs}
use Rattle.rept_rules.proofs.rest.need_bytes.Given as goal

abbrev pub invariant-loop-k : goal.invariant-loop-k
invariant-loop-k l = record {
  items : l.needs.items ≡ l.initial.needs.items ++ byte_needs l.when l.base l.k;
  capacity : l.needs.capacity ≡ l.initial.needs.capacity;
  few : length l.needs.items ≤ length l.initial.needs.items + l.k;
}
