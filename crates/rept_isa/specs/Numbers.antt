-- Values and addresses are 32-bit words, and sums of them are modulo 2 ^ 32 (RISC-V unprivileged
-- manual 20191213, chapter 2.4: overflow is ignored, and the result is the low 32 bits).
use Rattle.std.specs.Prelude.{ℕ, suc, ◌+◌, ◌-◌, ◌%◌, ◌^◌, ℤ, pos, negsuc}

-- the word of a signed number, in two's complement
unfoldable pub word : ℤ → ℕ
word (pos n) = n % 2 ^ 32
word (negsuc n) = 2 ^ 32 - suc (n % 2 ^ 32)

-- the word that so far from it lies, as a base with an immediate
abbrev pub plus : ℕ → ℤ → ℕ
plus base imm = (base + word imm) % 2 ^ 32

-- the address of the instruction that follows one of four bytes at this address
abbrev pub following : ℕ → ℕ
following from = (from + 4) % 2 ^ 32

-- the address so many bytes after another, modulo 2 ^ 32
abbrev pub beside : ℕ → ℕ → ℕ
beside base k = (base + k) % 2 ^ 32
