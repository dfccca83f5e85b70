use Rattle.std.proofs.Common.{◌≡◌}
use Rattle.std.proofs.Math.ListN.{take}
use Rattle.std.specs.Vec.{vec_capacity}
use Rattle.rept_writing.specs.Filed.{IsFiled}
use Rattle.rept_writing.proofs.list.file_all.Given as goal

abbrev pub invariant-loop-k : goal.invariant-loop-k
invariant-loop-k l = record {
  filed : IsFiled (take l.k l.list) l.narrow.items l.wide.items;
  capacity : vec_capacity l.wide ≡ vec_capacity l.fn.wide;
}
