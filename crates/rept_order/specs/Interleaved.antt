-- What an analysis sees of an execution: the registers at the points of all threads, by the one
-- numbering, and the memory at moments. Nothing is said of what comes between. This project's own.
use Rattle.std.specs.Prelude.{◌≡◌, ℕ, suc, ◌<◌, if◌then◌else◌, length, Some, MatchOption}
use Rattle.rept_isa.specs.declared.row.StepRow.{StepRow}
use Rattle.rept_machine.specs.State.{State, IsState}
use Rattle.rept_machine.specs.Step.{IsStep}
use Rattle.rept_steps.specs.Course.{Course, Row, rows_of, row_at, calls}
use Rattle.rept_order.specs.Moments.{Moment, IsMoment, NotLater, Act, IsAct, Stretch, MayAct, AreOne}
use Rattle.rept_order.specs.Moments.Moment.{before, after, at_end}
use Rattle.rept_order.specs.Moments.Act.{row, untraced}
use Rattle.rept_order.specs.History.{History, Ending}
use Rattle.rept_order.specs.Points.{memory_at, state_from}
use Rattle.rept_order.specs.Legs.{number_of, registers_on}
use Rattle.rept_order.specs.Writing.{WritesBy}

pub record CourseRun : Type 0 where
  -- by the point's number among all
  pub register : ℕ → ℕ → ℕ
  pub memory : Moment → ℕ → ℕ

abbrev pub run_of_history : Course → History → CourseRun
run_of_history C h = record { register = registers_on C h; memory = memory_at C h }

-- the point before a row
abbrev pub leg_of : Course → Row → ℕ
leg_of C r = number_of C r.thread r.step

-- The states before and after a row. Between a call's entry and its return others may go on, so of
-- its step only the registers are said: it has one memory on both sides.
abbrev pub state_before_row : Course → CourseRun → Row → State
state_before_row C run r = state_from (run.register (leg_of C r)) (run.memory (before r))

abbrev pub state_after_row : Course → CourseRun → Row → State
state_after_row C run r = state_from (run.register (suc (leg_of C r))) (run.memory (if calls C r then before r else after r))

-- the act writes the byte; of the untraced prefix this is said of each byte
abbrev pub WritesIn : Course → Ending → CourseRun → Act → ℕ → Type 0
WritesIn C D run (row r) a = MatchOption (row_at C r) ⊥ (λ its_row. WritesBy its_row.instr D.image_end (state_before_row C run r) (state_after_row C run r) a)
WritesIn C D run untraced a = Unit {0}

pub record IsCourseRun (C : Course) (D : Ending) (run : CourseRun) : Type 0 where
  -- registers are words, x0 is 0, and memory has bytes
  pub states : (g : ℕ) (m : Moment) → IsMoment C m → IsState (state_from (run.register g) (run.memory m))
  -- each row is a step of the machine
  pub steps : (r : Row) (its_row : StepRow) → row_at C r ≡ Some its_row → IsStep D.image_end its_row (state_before_row C run r) (state_after_row C run r)
  -- each thread ends in its registers, and all in the bytes that were saved
  pub registers_end : (t s v : ℕ) → t < length C.threads → 0 < s → D.registers t s ≡ Some v → run.register (number_of C t (length (rows_of C t))) s ≡ v
  pub bytes_end : (a v : ℕ) → D.dump a ≡ Some v → run.memory at_end a ≡ v
  -- a byte that nothing writes that may act between two moments is the same at both
  pub quiet : (x : Stretch) (a : ℕ) → IsMoment C x.from → IsMoment C x.to → NotLater C x.from x.to → ((act : Act) → IsAct C act → MayAct C act x → WritesIn C D run act a → ⊥) → run.memory x.to a ≡ run.memory x.from a
  -- moments that are one have one memory
  pub one : (x : Stretch) (a : ℕ) → AreOne C x → run.memory x.to a ≡ run.memory x.from a
