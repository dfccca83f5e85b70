-- The numbers whose bits are all in a mask, in their order.
use Rattle.std.specs.Prelude.{ℕ, ◌+◌, ◌-◌, ◌%◌, ◌^◌, bit_and}

-- the one after a part of the mask: the bits outside the mask are filled, so that they hand a carry
-- on (Hacker's Delight, second edition, chapter 2-1; Knuth, The Art of Computer Programming, 7.1.3)
abbrev pub next_part : ℕ → ℕ → ℕ
next_part part mask = bit_and ((part + (2 ^ 32 - mask)) % 2 ^ 32) mask
