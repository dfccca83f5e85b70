-- The words of the code of four threads: the 15 instructions of each, and its jump. This project's
-- own.
use Rattle.std.specs.Prelude.{◌≡◌, ℕ, ◌+◌, ◌*◌, ◌^◌, ◌<◌, List, length, slice_index}
use Rattle.rept_isa.specs.declared.instr.Instr.{Instr}
use Rattle.rept_isa.specs.Words.{IsWord}
use Rattle.test_kit.specs.Threads.Play.Code.{instr_in}

pub record AreCode (code : List Instr) (words : List ℕ) : Type 0 where
  pub size : length words ≡ 64
  pub small : (i : ℕ) → slice_index words i < 2 ^ 32
  pub spell : (t s : ℕ) → t < 4 → s < 16 → IsWord (slice_index words (16 * t + s)) (instr_in code t s)
