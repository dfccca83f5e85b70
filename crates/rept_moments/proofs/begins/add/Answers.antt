use Rattle.std.proofs.Common.{arith}
use Rattle.rept_moments.proofs.Places.{leg_below}
use Rattle.rept_moments.proofs.begins.add.Goals as goal

pub with_times-requires : goal.with_times-requires
with_times-requires c = let less = leg_below c.args.points.now c.args.side.point c.requires in omega arith
