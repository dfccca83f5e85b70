-- The number by which an odd word is multiplied to give 1 modulo 2 ^ 32 (Hacker's Delight, chapter
-- 10).
use Rattle.std.specs.Prelude.{ℕ, ◌+◌, ◌-◌, ◌*◌, ◌%◌, ◌^◌}

-- one step of Newton's iteration, x (2 - v x), which doubles how many low bits are right
abbrev pub refined : ℕ → ℕ → ℕ
refined v x = x * ((2 + (2 ^ 32 - v * x % 2 ^ 32)) % 2 ^ 32) % 2 ^ 32

-- from the one right bit of 1: two, four, eight, sixteen, thirty-two
unfoldable pub inverse : ℕ → ℕ
inverse v = refined v (refined v (refined v (refined v (refined v 1))))
