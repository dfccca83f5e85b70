-- A run as a course, and the run of one thread. This project's own.
use Rattle.std.specs.Prelude.{ℕ, ◌-◌, ◌^◌, List, [], ◌∷◌, length, None}
use Rattle.rept_isa.specs.declared.row.StepRow.{StepRow}
use Rattle.rept_steps.specs.declared.run.Run.{Run}
use Rattle.rept_steps.specs.declared.slice.Slice.{Slice}
use Rattle.rept_steps.specs.declared.threads.ThreadRows.{ThreadRows}
use Rattle.rept_steps.specs.Course.{Course}

-- a run without its count of skipped packets
abbrev pub course_of : Run → Course
course_of run = record { threads = run.threads; untraced = run.untraced }

-- one slice of so many rows, at no known time
abbrev pub whole_slice : ℕ → Slice
whole_slice count = record { stream = 0; begin = 0; end = 2 ^ 64 - 1; first = 0; count = count }

abbrev pub thread_of_one : List StepRow → ThreadRows
thread_of_one rows = record { steps = rows; slices = whole_slice (length rows) ∷ [] }

-- the run of one thread
abbrev pub run_of_one : List StepRow → ℕ → Run
run_of_one rows skipped = record { threads = thread_of_one rows ∷ []; untraced = None; skipped = skipped }
