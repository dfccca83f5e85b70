-- A log of executed addresses: one a line, in decimal digits, or in `0x` and hexadecimal ones. It
-- is this project's own.
use Rattle.std.specs.Prelude.{◌≡◌, ℕ, ◌<◌, ◌^◌, ◌⊎◌, List, ◌∷◌}
use Rattle.std.specs.Str.Parse.{IsNumeral, digits_value}
use Rattle.rept_simlog.specs.declared.entry.LogLine.{LogLine}

-- The digits write a number below 2^32.
pub record WritesNumber (radix : ℕ) (digits : List ℕ) (n : ℕ) : Type 0 where
  pub numeral : IsNumeral radix digits
  pub value : digits_value radix digits ≡ n
  pub small : n < 2 ^ 32

-- The digits after `0x` do.
pub record WritesHex (line : List ℕ) (n : ℕ) : Type 0 where
  pub digits : List ℕ
  pub front : line ≡ 48 ∷ 120 ∷ digits
  pub writes : WritesNumber 16 digits n

abbrev pub IsLogNumber : List ℕ → ℕ → Type 0
IsLogNumber line n = WritesNumber 10 line n ⊎ WritesHex line n

-- The line of this number tells the entry, which has the number of the line and the address that it
-- writes.
abbrev pub IsAddressEntry : ℕ → List ℕ → LogLine → Type 0
IsAddressEntry number line entry = (entry.line ≡ number) × IsLogNumber line entry.address
