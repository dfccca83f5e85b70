use Rattle.std.proofs.Common.{arith, ap, ◌∙◌}
use Rattle.std.specs.Char.{digit_value}
use Rattle.rept_simlog.proofs.Numerals.{too_large}
use Rattle.rept_simlog.proofs.address.numeral.Goals as goal

pub returns-in-None-clause-none : goal.returns-in-None-clause-none
returns-in-None-clause-none c = λ numeral small.
    let low = c.requires.low in
    too_large c.args.radix c.loop-byte.value c.in_ok-digit.digit c.loop-byte.byte-index c.args.digits.now c.loop-byte-test.true (c.in_ok-digit.ensures.value.1 ∙ ap digit_value c.from.ensures) (omega arith) c.in-None.ensures.none c.loop-byte.invariant.value small
