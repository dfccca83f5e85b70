-- Hexadecimal digits in lower case, as C's printf writes them (ISO C, 7.23.6.1, conversion x).
use Rattle.std.specs.Prelude.{ℕ, ◌+◌, ◌/◌, ◌%◌, ◌^◌, List, [], ◌∷◌, ◌++◌, map, nat_lt, if◌then◌else◌, codes}

-- the character of a digit below 16: 0 to 9 from code 48 on, a to f from code 97 on
abbrev pub hex_digit : ℕ → ℕ
hex_digit digit = if nat_lt digit 10 then 48 + digit else 87 + digit

-- the digits of the number at these bits, each of four bits, in the order given
abbrev pub hex_at : ℕ → List ℕ → List ℕ
hex_at n bits = map (λ bit. hex_digit (n / 2 ^ bit % 16)) bits

-- a word as 0x and eight digits, the highest first
abbrev pub hex_word : ℕ → List ℕ
hex_word n = codes "0x" ++ hex_at n (28 ∷ 24 ∷ 20 ∷ 16 ∷ 12 ∷ 8 ∷ 4 ∷ 0 ∷ [])

-- a byte as two digits, the higher first
abbrev pub hex_byte : ℕ → List ℕ
hex_byte n = hex_at n (4 ∷ 0 ∷ [])
