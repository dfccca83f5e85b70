-- The numbers that words spell. This project's own.
use Rattle.std.specs.Prelude.{ℕ, ◌+◌, ◌*◌, ◌-◌, ◌^◌, List, length, drop, Bool, ◌&&◌, ◌||◌, nat_eq, nat_lt, nat_le, Option, None, Some, fold, codes, if◌then◌else◌}
use Rattle.std.specs.Char.{digit_value, is_ascii_digit, is_ascii_hexdigit}
use Rattle.std.specs.List.{list_all, starts_with}

-- the number that decimal digits spell
abbrev pub decimal_value : List ℕ → ℕ
decimal_value digits = fold (λ n digit. 10 * n + (digit - 48)) 0 digits

-- 1 to 10 decimal digits of a number below 2^32
abbrev pub is_decimal : List ℕ → Bool
is_decimal word = nat_lt 0 (length word) && nat_le (length word) 10 && list_all is_ascii_digit word && nat_lt (decimal_value word) (2 ^ 32)

abbrev pub decimal_of : List ℕ → Option ℕ
decimal_of word = if is_decimal word then Some (decimal_value word) else None

-- the number that hexadecimal digits spell
abbrev pub hexadecimal_value : List ℕ → ℕ
hexadecimal_value digits = fold (λ n digit. 16 * n + digit_value digit) 0 digits

-- 1 to 8 hexadecimal digits
abbrev pub are_hexadecimal : List ℕ → Bool
are_hexadecimal digits = nat_lt 0 (length digits) && nat_le (length digits) 8 && list_all is_ascii_hexdigit digits

abbrev pub hexadecimal_of : List ℕ → Option ℕ
hexadecimal_of digits = if are_hexadecimal digits then Some (hexadecimal_value digits) else None

-- `0x` or `0X` and hexadecimal digits
abbrev pub is_hexadecimal : List ℕ → Bool
is_hexadecimal word = (starts_with nat_eq word (codes "0x") || starts_with nat_eq word (codes "0X")) && are_hexadecimal (drop 2 word)

-- the number that a word spells, in hexadecimal or decimal digits
abbrev pub number_of_word : List ℕ → Option ℕ
number_of_word word = if is_hexadecimal word then Some (hexadecimal_value (drop 2 word)) else decimal_of word
