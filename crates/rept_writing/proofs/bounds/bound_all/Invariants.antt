use Rattle.std.proofs.Common.{◌≡◌, length}
use Rattle.std.specs.Vec.{vec_capacity}
use Rattle.rept_writing.specs.Bounded.{AreBounded}
use Rattle.rept_writing.proofs.bounds.bound_all.Given as goal

abbrev pub invariant-loop-n : goal.invariant-loop-n
invariant-loop-n l = record {
  blocks : length l.blocks.items ≡ l.n;
  bounded : AreBounded l.list l.wide l.blocks.items;
  capacity : vec_capacity l.blocks ≡ vec_capacity l.fn.blocks;
}
