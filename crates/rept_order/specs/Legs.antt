-- One numbering for all threads: their points one after the other, thread 0 first. Leg g leads from
-- point g to point g + 1. It is a row of a thread, or the seam between the last point of a thread
-- and the first one of the next. This project's own.
use Rattle.std.specs.Prelude.{ℕ, zero, suc, ◌+◌, ◌-◌, nat_lt, if◌then◌else◌, List, [], ◌∷◌, length, Option}
use Rattle.rept_isa.specs.declared.row.StepRow.{StepRow}
use Rattle.rept_steps.specs.declared.threads.ThreadRows.{ThreadRows}
use Rattle.rept_steps.specs.Course.{Course, Row, row_of, row_at}
use Rattle.rept_order.specs.History.{History}
use Rattle.rept_order.specs.Points.{thread_registers}

-- a point of a thread
pub record Point : Type 0 where
  pub thread : ℕ
  pub number : ℕ

abbrev pub point_of_thread : ℕ → ℕ → Point
point_of_thread t p = record { thread = t; number = p }

-- how many points the threads before thread t have
abbrev pub points_before : List ThreadRows → ℕ → ℕ
points_before threads zero = 0
points_before [] (suc t) = suc t
points_before (thread ∷ threads) (suc t) = suc (length thread.steps) + points_before threads t

abbrev pub in_next : Point → Point
in_next x = record { thread = suc x.thread; number = x.number }

-- the thread's point that has a number among all
abbrev pub point_in : List ThreadRows → ℕ → Point
point_in [] g = point_of_thread 0 g
point_in (thread ∷ threads) g = if nat_lt (length thread.steps) g then in_next (point_in threads (g - suc (length thread.steps))) else point_of_thread 0 g

-- the number of a thread's point among all, and the point of a number
abbrev pub number_of : Course → ℕ → ℕ → ℕ
number_of C t p = points_before C.threads t + p

abbrev pub point_at : Course → ℕ → Point
point_at C g = point_in C.threads g

abbrev pub row_from : Point → Row
row_from x = row_of x.thread x.number

-- the row that leg g is, or none where it is a seam
abbrev pub leg_row : Course → ℕ → Option StepRow
leg_row C g = row_at C (row_from (point_at C g))

-- the registers at point g: those of the point's thread
abbrev pub registers_on : Course → History → ℕ → (ℕ → ℕ)
registers_on C h g = thread_registers C h (point_at C g).thread (point_at C g).number
