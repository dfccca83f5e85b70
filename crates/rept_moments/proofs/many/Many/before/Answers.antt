use Rattle.std.proofs.Common.{arith}
use Rattle.rept_moments.proofs.Places.{leg_below}
use Rattle.rept_moments.proofs.many.Many.before.Goals as goal

pub number-requires : goal.number-requires
number-requires c = let less = leg_below c.args.self.now c.args.row c.requires in omega arith
