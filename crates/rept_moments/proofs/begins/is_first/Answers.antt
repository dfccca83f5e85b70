use Rattle.std.proofs.Common.{arith}
use Rattle.rept_moments.proofs.Places.{leg_below}
use Rattle.rept_moments.proofs.begins.is_first.Goals as goal

pub is_alike-requires-clause-one : goal.is_alike-requires-clause-one
is_alike-requires-clause-one c = let less = leg_below c.args.points.now c.in-Some.before.point c.in-Some.ensures.row in omega arith

pub is_alike-requires-clause-other : goal.is_alike-requires-clause-other
is_alike-requires-clause-other c = let less = leg_below c.args.points.now c.args.side.point c.requires in omega arith
