-- The run of a made program on the machine, from the start registers and a memory of zeros.
use Rattle.std.specs.Prelude.{◌≡◌, ℕ, ◌+◌, ◌*◌, ◌<◌, ◌≤◌, List, length, slice_get, slice_index, Some, false}
use Rattle.rept_isa.specs.declared.row.StepRow.{StepRow}
use Rattle.rept_steps.specs.Linked.{BeginAt}
use Rattle.rept_machine.specs.State.{State, IsState}
use Rattle.rept_machine.specs.Step.{IsStep}
use Rattle.rept_machine.specs.Choices.{Picks}
use Rattle.rept_path.specs.Code.{flow_of}
use Rattle.rept_encode.specs.Walkable.{calls}
use Rattle.rept_make.specs.Code.{made_instr}
use Rattle.rept_make.specs.Start.{start_registers}

-- The row is a step of the machine, by the instruction of the seed's code that stands there.
pub record IsMadeRow (seed : ℕ) (row : StepRow) (s t : State) : Type 0 where
  pub slot : ℕ
  pub below : slot < 256
  pub at : row.at ≡ 65536 + 4 * slot
  pub instr : row.instr ≡ made_instr seed slot
  pub step : (image_end : ℕ) → IsStep image_end row s t
  pub picks : Picks row.instr s t
  pub call : row.call ≡ calls (flow_of row.instr)
  pub long : row.short ≡ false

pub record AreMadeStates (seed : ℕ) (rows : List StepRow) (run : ℕ → State) : Type 0 where
  pub registers : (r : ℕ) → (run 0).register r ≡ slice_index (start_registers seed) r
  pub memory : (a : ℕ) → (run 0).memory a ≡ 0
  pub begin : BeginAt rows 65536
  pub states : (i : ℕ) → i ≤ length rows → IsState (run i)
  pub steps : (i : ℕ) (row : StepRow) → slice_get rows i ≡ Some row → IsMadeRow seed row (run i) (run (i + 1))
