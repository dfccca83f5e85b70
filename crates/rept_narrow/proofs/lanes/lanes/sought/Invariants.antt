use Rattle.std.proofs.Common.{◌≡◌, ◌-◌, ◌≤◌, length}
use Rattle.rept_narrow.specs.Lanes.{sought}
use Rattle.rept_narrow.proofs.lanes.lanes.sought.Given as goal

abbrev pub invariant-loop : goal.invariant-loop
invariant-loop l = record {
  inside : l.ends.1 ≤ length l.spans;
  same : sought l.spans l.point l.address (length l.spans) 0 (length l.spans) ≡ sought l.spans l.point l.address (length l.spans - l.counter) l.ends.0 l.ends.1;
}
