use Rattle.std.proofs.Common.{List, Option, sym, subst, rules}
use Rattle.rept_extents.specs.declared.hulls.Bounds.{Bounds}
use Rattle.rept_extents.specs.Hulls.{AreBlocks}
use Rattle.rept_extents.proofs.Bounds.{blocks_more}
use Rattle.rept_extents.proofs.hulls.blocks_of.Goals as goal

pub loop-number-preserved : goal.loop-number-preserved
loop-number-preserved c = record {
  count = search rules;
  blocks = subst (λ (xs : List (Option Bounds)). AreBlocks 4 xs c.args.list.now) (sym c.in_ok-push.ensures.items) (blocks_more c.args.list.now c.loop-number.blocks.items c.block_of.result c.loop-number.number c.loop-number.invariant.count c.loop-number.invariant.blocks c.block_of.ensures);
}
