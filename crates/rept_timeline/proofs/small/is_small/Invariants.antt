use Rattle.std.proofs.Common.{◌≡◌, ◌≤◌, ◌+◌}
use Rattle.rept_order.specs.Legs.{points_before}
use Rattle.rept_timeline.proofs.small.is_small.Given as goal

abbrev pub invariant-loop-thread : goal.invariant-loop-thread
invariant-loop-thread l = record {
  points : l.rows + l.thread ≡ points_before l.run.threads l.thread;
  few : l.rows ≤ 65536;
}
