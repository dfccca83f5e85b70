-- The names of registers: x0 to x31 (RISC-V unprivileged manual, chapter 2.1) and the names of the
-- RISC-V psABI, chapter 1.1. They are in lower case, and the number in a name has no leading zero.
use Rattle.std.specs.Prelude.{ℕ, ◌+◌, ◌*◌, ◌-◌, List, [], ◌∷◌, ◌&&◌, ◌==◌, not, nat_lt, Option, None, Some, codes, if◌then◌else◌}
use Rattle.std.specs.Char.{is_ascii_digit}
use Rattle.std.specs.Option.{option_and_then, option_or}
use Rattle.std.specs.Str.{bytes_eq}

-- names without a number; fp is another name of s0
abbrev pub named : List ℕ → Option ℕ
named word =
    if bytes_eq word (codes "zero") then Some 0
    else if bytes_eq word (codes "ra") then Some 1
    else if bytes_eq word (codes "sp") then Some 2
    else if bytes_eq word (codes "gp") then Some 3
    else if bytes_eq word (codes "tp") then Some 4
    else if bytes_eq word (codes "fp") then Some 8
    else None

-- the number of one or two decimal digits without a leading zero
abbrev pub plain_index : List ℕ → Option ℕ
plain_index [] = None
plain_index (unit ∷ []) = if is_ascii_digit unit then Some (unit - 48) else None
plain_index (ten ∷ unit ∷ []) = if not (ten == 48) && is_ascii_digit ten && is_ascii_digit unit then Some (10 * (ten - 48) + (unit - 48)) else None
plain_index (ten ∷ unit ∷ more ∷ digits) = None

abbrev pub below : ℕ → ℕ → ℕ → Option ℕ
below limit index number = if nat_lt index limit then Some number else None

-- x0 to x31; a0 to a7 are x10 to x17; s0 and s1 are x8 and x9, s2 to s11 are x18 to x27; t0 to t2
-- are x5 to x7, t3 to t6 are x28 to x31
abbrev pub indexed : ℕ → ℕ → Option ℕ
indexed letter index =
    if letter == 120 then below 32 index index
    else if letter == 97 then below 8 index (10 + index)
    else if letter == 115 then (if nat_lt index 2 then Some (8 + index) else below 12 index (16 + index))
    else if letter == 116 then (if nat_lt index 3 then Some (5 + index) else below 7 index (25 + index))
    else None

abbrev pub lettered : List ℕ → Option ℕ
lettered [] = None
lettered (letter ∷ digits) = option_and_then (indexed letter) (plain_index digits)

-- the number of the register that a word names
abbrev pub register_of : List ℕ → Option ℕ
register_of word = option_or (named word) (lettered word)
