use Rattle.rept_versions.specs.Blocks.{AreEmptyBlocks}
use Rattle.rept_versions.proofs.blocks.empty_blocks.Given as goal

abbrev pub invariant-loop : goal.invariant-loop
invariant-loop l = AreEmptyBlocks l.blocks.items l.counter
