-- What an execution has where an analysis looks: the registers of a thread at its points, and the
-- memory at moments. A thread of n rows has the points 0 to n. Point p is the moment before row p,
-- and the last one is the end. This project's own.
use Rattle.std.specs.Prelude.{ℕ, nat_lt, if◌then◌else◌, length}
use Rattle.rept_machine.specs.State.{State}
use Rattle.rept_steps.specs.Course.{Course, row_of, rows_of}
use Rattle.rept_order.specs.Moments.{Moment}
use Rattle.rept_order.specs.Moments.Moment.{before, at_end}
use Rattle.rept_order.specs.History.{History, tick}

abbrev pub moment_of_point : Course → ℕ → ℕ → Moment
moment_of_point C t p = if nat_lt p (length (rows_of C t)) then before (row_of t p) else at_end

abbrev pub thread_registers : Course → History → ℕ → ℕ → (ℕ → ℕ)
thread_registers C h t p = (h.world (tick C h (moment_of_point C t p))).register t

abbrev pub memory_at : Course → History → Moment → (ℕ → ℕ)
memory_at C h m = (h.world (tick C h m)).memory

-- what a row has around it: the registers of a point, and the memory of a moment
abbrev pub state_from : (ℕ → ℕ) → (ℕ → ℕ) → State
state_from registers memory = record { register = registers; memory = memory }
