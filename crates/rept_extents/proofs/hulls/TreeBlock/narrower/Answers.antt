use Rattle.std.proofs.Common.{◌/◌, ◌*◌, ◌≤◌, ◌<◌, ◌≡◌, arith}
use Rattle.rept_extents.proofs.Bounds.{size_below, index_below, begins_below}
use Rattle.rept_extents.proofs.hulls.TreeBlock.narrower.Goals as goal

pub overflow_mul-result : goal.overflow_mul-result
overflow_mul-result c =
    let whole : c.args.self.size / 4 * 4 ≡ c.args.self.size = (size_below c.args.self.level c.args.self.size c.requires c.args.self.sized).1 in
    let some : 0 < c.args.self.size / 4 = omega (arith, whole, c.args.self.some) in
    let below : c.args.self.index * 4 ≤ c.args.self.from = index_below (c.args.self.index * 4) (c.args.self.size / 4) c.args.self.from some (begins_below c.args.self.index c.args.self.size c.args.self.from whole c.args.self.begins) in
    omega (arith, below, c.well_formed)

pub invariant_of-result : goal.invariant_of-result
invariant_of-result c =
    let size = size_below c.args.self.level c.args.self.size c.requires c.args.self.sized in
    record {
      some = omega (arith, size.1, c.args.self.some);
      sized = size.0;
      begins = begins_below c.args.self.index c.args.self.size c.args.self.from size.1 c.args.self.begins;
    }
