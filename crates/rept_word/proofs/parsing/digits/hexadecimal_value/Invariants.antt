use Rattle.std.proofs.Common.{◌≡◌, ◌<◌, ◌^◌, take}
use Rattle.rept_word.specs.Parsing.Numbers.{hexadecimal_value}
use Rattle.rept_word.proofs.parsing.digits.hexadecimal_value.Given as goal

abbrev pub invariant-loop-digit : goal.invariant-loop-digit
invariant-loop-digit l = record {
  value : l.n ≡ hexadecimal_value (take l.digit-index l.digits);
  small : l.n < 16 ^ l.digit-index;
}
