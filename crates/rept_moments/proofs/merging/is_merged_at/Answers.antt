use Rattle.std.proofs.Common.{sym, arith}
use Rattle.rept_moments.proofs.Places.{leg_below}
use Rattle.rept_moments.proofs.merging.is_merged_at.Goals as goal

pub is_merged-requires-clause-inside : goal.is_merged-requires-clause-inside
is_merged-requires-clause-inside c = let less = leg_below c.args.points.now c.args.point (sym c.if-leads.ensures) in omega arith
