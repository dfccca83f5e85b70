use Rattle.std.proofs.Common.{◌≡◌, ◌≤◌}
use Rattle.rept_order.specs.Legs.{points_before}
use Rattle.rept_moments.proofs.room.has_room.Given as goal

abbrev pub invariant-loop-thread : goal.invariant-loop-thread
invariant-loop-thread l = record {
  points : l.points ≡ points_before l.run.threads l.thread;
  few : l.points ≤ 66560;
}
