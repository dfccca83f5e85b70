-- The state of a hart: the integer registers and the memory, byte by byte (RISC-V unprivileged
-- manual 20191213, chapters 1.4 and 2.1).
use Rattle.std.specs.Prelude.{◌≡◌, ℕ, ◌<◌, ◌^◌}

pub record State : Type 0 where
  pub register : ℕ → ℕ
  pub memory : ℕ → ℕ

-- x0 is 0, registers are 32-bit words, and memory has bytes
pub record IsState (s : State) : Type 0 where
  pub zero : s.register 0 ≡ 0
  pub words : (r : ℕ) → s.register r < 2 ^ 32
  pub bytes : (a : ℕ) → s.memory a < 2 ^ 8
