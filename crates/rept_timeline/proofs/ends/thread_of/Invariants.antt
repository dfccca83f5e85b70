use Rattle.std.proofs.Common.{◌≡◌, ◌≤◌}
use Rattle.rept_order.specs.Legs.{points_before}
use Rattle.rept_timeline.proofs.ends.thread_of.Given as goal

abbrev pub invariant-loop-thread : goal.invariant-loop-thread
invariant-loop-thread l = record {
  first : l.first ≡ points_before l.run.threads l.thread;
  low : l.first ≤ l.point;
}
