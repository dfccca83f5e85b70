use Rattle.std.proofs.Common.{◌≡◌, ◌<◌, ◌^◌, take}
use Rattle.rept_word.specs.Parsing.Numbers.{decimal_value}
use Rattle.rept_word.proofs.parsing.digits.value.Given as goal

abbrev pub invariant-loop-digit : goal.invariant-loop-digit
invariant-loop-digit l = record {
  value : l.n ≡ decimal_value (take l.digit-index l.digits);
  small : l.n < 10 ^ l.digit-index;
}
