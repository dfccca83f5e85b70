use Rattle.std.proofs.Common.{◌≡◌, length}
use Rattle.rept_extents.specs.Hulls.{AreBlocks}
use Rattle.rept_extents.proofs.hulls.blocks_of.Given as goal

abbrev pub invariant-loop-number : goal.invariant-loop-number
invariant-loop-number l = record {
  count : length l.blocks.items ≡ l.number;
  blocks : AreBlocks 4 l.blocks.items l.list;
}
