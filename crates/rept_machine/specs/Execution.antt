-- An execution of a path that ends in a dump: one state for each point, a step of the machine for
-- each row, and in the last state the registers and bytes that the dump tells (RISC-V unprivileged
-- manual 20191213, chapter 1.2).
use Rattle.std.specs.Prelude.{◌≡◌, ℕ, ◌+◌, ◌<◌, ◌≤◌, List, length, Option, Some, slice_get}
use Rattle.rept_isa.specs.declared.row.StepRow.{StepRow}
use Rattle.rept_machine.specs.State.{State, IsState}
use Rattle.rept_machine.specs.Step.{IsStep}

pub record Execution (image_end : ℕ) (rows : List StepRow) (registers : ℕ → Option ℕ) (dump : ℕ → Option ℕ) (run : ℕ → State) : Type 0 where
  pub states : (p : ℕ) → p ≤ length rows → IsState (run p)
  pub steps : (i : ℕ) (row : StepRow) → slice_get rows i ≡ Some row → IsStep image_end row (run i) (run (i + 1))
  pub registers_end : (r v : ℕ) → 0 < r → registers r ≡ Some v → (run (length rows)).register r ≡ v
  pub bytes_end : (a v : ℕ) → dump a ≡ Some v → (run (length rows)).memory a ≡ v
