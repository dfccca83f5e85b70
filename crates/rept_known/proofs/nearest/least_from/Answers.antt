-- The upper open bits of the bound, or the next ones, with the known bits below: each is the least
-- word where it is answered.
use Rattle.std.proofs.Common.{arith}
use Rattle.rept_known.specs.Least.{least_is, no_least}
use Rattle.rept_known.proofs.NextWord.{least_low, least_none_left, least_high}
use Rattle.rept_known.proofs.nearest.least_from.Goals as goal

pub returns-then-known-value-clause-some : goal.returns-then-known-value-clause-some
returns-then-known-value-clause-some c =
    rw (c.filled.ensures, c.loose.ensures, c.loose-2.ensures, c.value.ensures, c.value-then-known-value.ensures)
    (least_low c.args.b c.args.lo (omega arith) (rw (c.loose.ensures, c.value-2.ensures) at c.if-known-value.true))

pub returns-then-known-value-clause-value : goal.returns-then-known-value-clause-value
returns-then-known-value-clause-value c = least_is c.args.b c.args.lo _ (returns-then-known-value-clause-some c)

pub returns-then-taken-upper-clause-none : goal.returns-then-taken-upper-clause-none
returns-then-taken-upper-clause-none c =
    λ e v h. least_none_left c.args.b c.args.lo (omega arith) (rw (c.loose.ensures, c.value-2.ensures) at c.if-known-value.false)
    (rw (c.filled.ensures, c.loose.ensures, c.loose-2.ensures, c.value.ensures) at c.if-taken-upper.true) v h

pub returns-then-taken-upper-clause-value : goal.returns-then-taken-upper-clause-value
returns-then-taken-upper-clause-value c =
    no_least c.args.b c.args.lo
    (least_none_left c.args.b c.args.lo (omega arith) (rw (c.loose.ensures, c.value-2.ensures) at c.if-known-value.false)
    (rw (c.filled.ensures, c.loose.ensures, c.loose-2.ensures, c.value.ensures) at c.if-taken-upper.true))

pub returns-clause-some : goal.returns-clause-some
returns-clause-some c =
    rw (c.next_part.ensures, c.filled.ensures, c.loose.ensures, c.loose-2.ensures, c.value.ensures, c.value-3.ensures)
    (least_high c.args.b c.args.lo (omega arith) (rw (c.loose.ensures, c.value-2.ensures) at c.if-known-value.false)
    (rw (c.filled.ensures, c.loose.ensures, c.loose-2.ensures, c.value.ensures) at c.if-taken-upper.false))

pub returns-clause-value : goal.returns-clause-value
returns-clause-value c = least_is c.args.b c.args.lo _ (returns-clause-some c)
