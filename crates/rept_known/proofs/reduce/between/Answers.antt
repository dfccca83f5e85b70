-- The upper word agrees with the lower one outside the bits that are open between them.
use Rattle.rept_known.specs.Bits.{outside}
use Rattle.rept_known.specs.Laws.BitsLaws.{agrees_has}
use Rattle.rept_known.specs.Both.{open_between, upper_word}
use Rattle.rept_known.proofs.reduce.between.Goals as goal

pub of_parts-requires-clause-greatest : goal.of_parts-requires-clause-greatest
of_parts-requires-clause-greatest c =
    rw (c.outside-known.ensures, c.new.ensures.highest, c.filled.ensures, c.loose.ensures)
    (agrees_has (outside c.args.lo (open_between c.args.bits c.args.lo c.args.hi)) c.args.hi (upper_word c.args.bits c.args.lo c.args.hi c.requires.least c.requires.greatest))
