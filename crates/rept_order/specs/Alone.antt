-- A run of one thread in one slice, all of which is told: its executions are those of the rows by
-- themselves.
use Rattle.std.specs.Prelude.{◌≡◌, ℕ, suc, ◌<◌, ◌≤◌, length, None}
use Rattle.rept_machine.specs.State.{State}
use Rattle.rept_machine.specs.Execution.{Execution}
use Rattle.rept_steps.specs.Course.{Course, row_of, rows_of}
use Rattle.rept_order.specs.Moments.Moment.{before, after, at_end}
use Rattle.rept_order.specs.History.{Ending, History, IsExecution}
use Rattle.rept_order.specs.Points.{thread_registers, memory_at}

-- no other thread has registers that were saved
abbrev pub SavesOne : Ending → Type 0
SavesOne D = (t s : ℕ) → 0 < t → D.registers t s ≡ None

-- an execution of the rows of thread 0 that ends as told
abbrev pub RunsAlone : Course → Ending → (ℕ → State) → Type 0
RunsAlone C D run = Execution D.image_end (rows_of C 0) (D.registers 0) D.dump run

-- the history has the states of the run: at points, and at the moments around rows
pub record ShowsRun (C : Course) (h : History) (run : ℕ → State) : Type 0 where
  pub registers : (p : ℕ) → p ≤ length (rows_of C 0) → thread_registers C h 0 p ≡ (run p).register
  pub memory_before : (i : ℕ) → i < length (rows_of C 0) → memory_at C h (before (row_of 0 i)) ≡ (run i).memory
  pub memory_after : (i : ℕ) → i < length (rows_of C 0) → memory_at C h (after (row_of 0 i)) ≡ (run (suc i)).memory
  pub memory_end : memory_at C h at_end ≡ (run (length (rows_of C 0))).memory

-- an execution of several threads with these states
abbrev pub IsShared : Course → Ending → (ℕ → State) → Type 0
IsShared C D run = (h : History) × IsExecution C D h × ShowsRun C h run
