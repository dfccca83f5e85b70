use Rattle.std.proofs.Common.{◌≡◌, ◌+◌, ◌*◌, ◌<◌, ◌≤◌, length}
use Rattle.std.specs.List.{insert}
use Rattle.rept_versions.proofs.blocks.Blocks.remove.Given as goal

abbrev pub invariant-loop-k : goal.invariant-loop-k
invariant-loop-k l = record {
  spans : insert l.self.spans (l.k * 2048) l.moved ≡ l.fn.self.spans;
  len : length l.self.spans + 1 ≡ length l.fn.self.spans;
  room : l.self.room ≡ l.fn.self.room;
  within : l.j < l.k;
  at : l.k * 2048 ≤ length l.self.spans;
}

abbrev pub decreases-loop-k : goal.decreases-loop-k
decreases-loop-k l = l.k
