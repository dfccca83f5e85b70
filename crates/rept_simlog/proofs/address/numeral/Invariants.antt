use Rattle.std.proofs.Common.{◌≡◌, drop}
use Rattle.std.specs.Str.Parse.{AllDigits, digits_value, digits_value_after}
use Rattle.rept_simlog.proofs.address.numeral.Given as goal

abbrev pub invariant-loop-byte : goal.invariant-loop-byte
invariant-loop-byte l = record {
  digits : AllDigits l.radix (drop l.byte-index l.digits) → AllDigits l.radix l.digits;
  back : AllDigits l.radix l.digits → AllDigits l.radix (drop l.byte-index l.digits);
  value : digits_value_after l.radix l.value (drop l.byte-index l.digits) ≡ digits_value l.radix l.digits;
}
