-- The bounds of the common values are the greater lower and the smaller upper bound.
use Rattle.std.proofs.Common.{rules}
use Rattle.rept_partial.proofs.Bounds.{met_is}
use Rattle.rept_partial.proofs.range.RangePartial.meet.Goals as goal

pub returns-then-lo-hi : goal.returns-then-lo-hi
returns-then-lo-hi c = met_is c.args.self c.args.other c.max-lo.result c.min-hi.result _ _ (search rules) (search rules)
