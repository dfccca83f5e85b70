-- Bytes that stand for others, and the sum by which a packet is checked (GDB manual, appendix
-- Remote Serial Protocol, section Overview).
use Rattle.std.specs.Prelude.{ℕ, ◌+◌, ◌*◌, ◌-◌, ◌%◌, ◌^◌, List, [], ◌∷◌, ◌++◌, Bool, ◌&&◌, ◌||◌, ◌==◌, nat_le, sum, Option, None, Some, option_map, if◌then◌else◌}
use Rattle.std.specs.Int.Bits.{bit_xor}
use Rattle.std.specs.List.{flat_map}
use Rattle.rept_word.specs.Hex.{hex_byte}

-- `}` and a byte whose bit 5 is turned stand for that byte; no text ends within such a pair
abbrev pub unescaped : List ℕ → Option (List ℕ)
unescaped [] = Some []
unescaped (byte ∷ []) = if byte == 125 then None else Some (byte ∷ [])
unescaped (byte ∷ next ∷ bytes) = if byte == 125 then option_map (λ rest. bit_xor next 32 ∷ rest) (unescaped bytes) else option_map (λ rest. byte ∷ rest) (unescaped (next ∷ bytes))

-- `#`, `$`, `*` and `}` don't stand for themselves in a reply
abbrev pub is_special : ℕ → Bool
is_special byte = byte == 35 || byte == 36 || byte == 42 || byte == 125

abbrev pub escape : ℕ → List ℕ
escape byte = if is_special byte then 125 ∷ bit_xor byte 32 ∷ [] else byte ∷ []

abbrev pub escaped : List ℕ → List ℕ
escaped bytes = flat_map escape bytes

-- the sum of the bytes between `$` and `#`, in eight bits
abbrev pub checksum : List ℕ → ℕ
checksum body = sum body % 2 ^ 8

-- the value of a hexadecimal digit: 0 to 9, a to f or A to F
abbrev pub digit_value : ℕ → Option ℕ
digit_value digit =
    if nat_le 48 digit && nat_le digit 57 then Some (digit - 48)
    else if nat_le 97 digit && nat_le digit 102 then Some (digit - 87)
    else if nat_le 65 digit && nat_le digit 70 then Some (digit - 55)
    else None

-- the number that two digits are
abbrev pub number_of_digits : Option ℕ → Option ℕ → Option ℕ
number_of_digits (Some high) (Some low) = Some (16 * high + low)
number_of_digits _ _ = None

-- two hexadecimal digits, the higher first
abbrev pub digits_value : ℕ → ℕ → Option ℕ
digits_value high low = number_of_digits (digit_value high) (digit_value low)

-- a packet that carries these bytes, as a reply is written
abbrev pub packet_of : List ℕ → List ℕ
packet_of reply = 36 ∷ escaped reply ++ 35 ∷ hex_byte (checksum (escaped reply))
