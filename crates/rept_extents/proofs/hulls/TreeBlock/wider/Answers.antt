use Rattle.std.proofs.Common.{arith}
use Rattle.rept_extents.proofs.Bounds.{level_below, size_above, begins_above}
use Rattle.rept_extents.proofs.hulls.TreeBlock.wider.Goals as goal

pub overflow_add-result : goal.overflow_add-result
overflow_add-result c = omega (arith, level_below c.args.self.level, c.args.self.sized, c.if-self-room.false, c.ranges.room.fits)

pub invariant_of-result : goal.invariant_of-result
invariant_of-result c = record {
  some = omega (arith, c.args.self.some);
  sized = size_above c.args.self.level c.args.self.size c.args.self.sized;
  begins = begins_above c.args.self.index c.args.self.size c.args.self.from c.if-self-ne0.false c.args.self.begins;
}
