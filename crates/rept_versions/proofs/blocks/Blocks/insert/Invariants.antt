use Rattle.std.proofs.Common.{◌≡◌, ◌+◌, ◌-◌, ◌*◌, ◌<◌, ◌≤◌, length}
use Rattle.std.specs.List.{insert}
use Rattle.rept_versions.proofs.blocks.Blocks.insert.Given as goal

abbrev pub invariant-loop-k : goal.invariant-loop-k
invariant-loop-k l = record {
  spans : insert l.self.spans (l.k * 2048 + l.r) l.moved ≡ insert l.fn.self.spans l.i l.fn.s;
  len : length l.self.spans ≡ length l.fn.self.spans;
  room : l.self.room ≡ l.fn.self.room;
  within : l.k ≤ l.last;
  small : l.r < 2048;
  at : l.k * 2048 + l.r ≤ length l.self.spans;
}

abbrev pub decreases-loop-k : goal.decreases-loop-k
decreases-loop-k l = l.last - l.k
