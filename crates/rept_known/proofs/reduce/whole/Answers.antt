-- The least and the greatest word are words of the set.
use Rattle.rept_known.specs.Both.{least_has, greatest_has}
use Rattle.rept_known.proofs.reduce.whole.Goals as goal

pub between-requires-clause-least : goal.between-requires-clause-least
between-requires-clause-least c = rw c.lo.ensures (least_has c.args.bits)

pub between-requires-clause-greatest : goal.between-requires-clause-greatest
between-requires-clause-greatest c = rw c.hi.ensures (greatest_has c.args.bits)
