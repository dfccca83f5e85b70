use Rattle.std.proofs.Common.{◌-◌, ◌+◌, ◌*◌, ◌≤◌}
use Rattle.rept_extents.specs.Hulls.{LieIn}
use Rattle.rept_extents.proofs.hulls.BoundsTree.down_to.Given as goal

abbrev pub invariant-loop-block : goal.invariant-loop-block
invariant-loop-block l = record {
  from : l.from ≤ l.block.from;
  to : l.block.from ≤ l.to;
  all : LieIn l.self (record { from = l.block.from; to = l.to; outer = l.outer });
}

abbrev pub decreases-loop-block : goal.decreases-loop-block
decreases-loop-block l = (l.block.from - l.from) * 2 + l.block.level
