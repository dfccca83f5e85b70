-- By the words that lie next to the range's bounds, from inside.
use Rattle.std.proofs.Common.{sym}
use Rattle.rept_known.specs.Least.{greatest_some, greatest_none}
use Rattle.rept_known.proofs.BothMade.{reduced_high, reduced_apart, reduced_between}
use Rattle.rept_known.proofs.reduce.common.Goals as goal

pub returns-in-None-greatest_to : goal.returns-in-None-greatest_to
returns-in-None-greatest_to c = reduced_high c.args.range c.args.bits (rw c.hi.ensures at (greatest_none c.args.bits c.hi.result (sym c.in-None-greatest_to.ensures)))

pub between-requires-clause-greatest : goal.between-requires-clause-greatest
between-requires-clause-greatest c = (greatest_some c.args.bits c.hi.result c.in-Some-greatest_to.hi (sym c.in-Some-greatest_to.ensures)).has

pub returns-then-lo-hi : goal.returns-then-lo-hi
returns-then-lo-hi c =
    reduced_between c.args.range c.args.bits c.in-Some.lo c.in-Some-greatest_to.hi c.between.result
    (rw c.lo.ensures at c.in-Some.ensures.some)
    (rw c.hi.ensures at (greatest_some c.args.bits c.hi.result c.in-Some-greatest_to.hi (sym c.in-Some-greatest_to.ensures)))
    c.if-lo-hi.true (record { lowest = c.between.ensures.lowest; highest = c.between.ensures.highest; bits = c.between.ensures.bits })

pub returns-else-lo-hi : goal.returns-else-lo-hi
returns-else-lo-hi c =
    reduced_apart c.args.range c.args.bits c.in-Some.lo c.in-Some-greatest_to.hi
    (rw c.lo.ensures at c.in-Some.ensures.some)
    (rw c.hi.ensures at (greatest_some c.args.bits c.hi.result c.in-Some-greatest_to.hi (sym c.in-Some-greatest_to.ensures)))
    c.if-lo-hi.false
