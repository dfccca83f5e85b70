-- Two words without a common bit add up to a word.
use Rattle.std.proofs.Common.{arith}
use Rattle.rept_known.specs.Masks.{apart_small}
use Rattle.rept_known.proofs.bits.Bits.new.Goals as goal

pub invariant_of-result : goal.invariant_of-result
invariant_of-result c = record { apart = c.requires; small = apart_small c.args.value c.args.loose c.requires (omega arith) (omega arith) }
