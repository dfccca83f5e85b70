-- The bits of the mask are taken out of the word.
use Rattle.std.proofs.Common.{arith}
use Rattle.rept_known.proofs.Made.{outside_is}
use Rattle.rept_known.proofs.outside.outside.Goals as goal

pub returns : goal.returns
returns c = outside_is c.args.v c.args.loose c.new.result (omega arith) (omega arith) c.new.ensures.value c.new.ensures.loose
