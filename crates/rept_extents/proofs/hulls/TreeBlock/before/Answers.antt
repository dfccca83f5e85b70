use Rattle.rept_extents.proofs.Bounds.{begins_before}
use Rattle.rept_extents.proofs.hulls.TreeBlock.before.Goals as goal

pub invariant_of-result : goal.invariant_of-result
invariant_of-result c = record {
  some = c.args.self.some;
  sized = c.args.self.sized;
  begins = (begins_before c.args.self.index c.args.self.size c.args.self.from c.args.self.some c.requires c.args.self.begins).1;
}
