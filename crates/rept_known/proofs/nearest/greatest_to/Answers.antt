-- By complements.
use Rattle.std.proofs.Common.{refl, arith}
use Rattle.rept_known.specs.Least.{greatest_is, no_greatest}
use Rattle.rept_known.proofs.Greatest.{greatest_by_least, no_greatest_by}
use Rattle.rept_known.proofs.nearest.greatest_to.Goals as goal

pub returns-in-None : goal.returns-in-None
returns-in-None c =
    no_greatest c.args.b c.args.hi
    (no_greatest_by c.args.b c.args.hi (omega arith) (rw (c.outside.ensures, c.value.ensures, c.loose.ensures) at (c.in-None.ensures.none refl)))

pub returns-in-Some : goal.returns-in-Some
returns-in-Some c =
    greatest_is c.args.b c.args.hi _
    (greatest_by_least c.args.b c.args.hi c.in-Some.v (omega arith) (rw (c.outside.ensures, c.value.ensures, c.loose.ensures) at c.in-Some.ensures.some))
