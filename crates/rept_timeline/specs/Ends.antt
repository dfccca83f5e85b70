-- How the threads of a run of a program ended, by what their register notes have. This project's
-- own.
use Rattle.std.specs.Prelude.{◌≡◌, ℕ, nat_lt, if◌then◌else◌, ◌==◌, ◌&&◌, Bool, true, false, List, length, Option, Some, None, slice_get, slice_index}
use Rattle.rept_isa.specs.declared.row.StepRow.{StepRow}
use Rattle.rept_order.specs.Legs.{point_at}
use Rattle.rept_dump.specs.Program.{Program, contents}
use Rattle.rept_dump.specs.Status.{IsStatus}
use Rattle.rept_dump.specs.declared.status.Status.{Status}
use Rattle.rept_steps.specs.Course.{Course}
use Rattle.rept_moments.specs.Seen.{alone_by}

-- the word spells ECALL
abbrev pub is_ecall : Option ℕ → Bool
is_ecall None = false
is_ecall (Some spelled) = spelled == 115

-- A thread sleeps in a call that Linux will begin anew. Its program counter is at the ECALL again,
-- and x17 has the number of `restart_syscall`, 128, in place of the one that the call had
-- (arch/riscv/kernel/signal.c).
abbrev pub is_restarted : Program → (pc number : ℕ) → Bool
is_restarted program pc number = number == 128 && is_ecall ((contents program).word pc)

-- The last values of a thread's registers, by its program counter and by what was saved of x0 to
-- x31: those that were saved, but none of x17 where its call is begun anew.
abbrev pub left_by : Program → ℕ → List ℕ → ℕ → Option ℕ
left_by program pc saved r = if r == 17 && is_restarted program pc (slice_index saved 17) then None else slice_get saved r

-- the thread of a point; a number that is no point's goes by the first thread
abbrev pub thread_on : Course → ℕ → ℕ
thread_on C p = if nat_lt (point_at C p).thread (length C.threads) then (point_at C p).thread else 0

-- the last values of registers of the thread of a point; where there is one thread in one slice,
-- all of which is told, those of that thread
abbrev pub values_by : Course → (ℕ → ℕ → Option ℕ) → Option (List StepRow) → ℕ → ℕ → Option ℕ
values_by C registers (Some rows) p = registers 0
values_by C registers None p = registers (thread_on C p)

pub record Ends : Type 0 where
  pub course : Course
  pub statuses : List Status
  pub program : Program

-- the last values of a thread's registers; past the last thread there are none
abbrev pub registers_of_one : Program → Option Status → ℕ → Option ℕ
registers_of_one program None = λ r. None
registers_of_one program (Some status) = left_by program status.pc status.regs

abbrev pub registers_in : Ends → ℕ → ℕ → Option ℕ
registers_in e t = registers_of_one e.program (slice_get e.statuses t)

-- the last values at a point of its thread
abbrev pub last_values_in : Ends → ℕ → ℕ → Option ℕ
last_values_in e p = values_by e.course (registers_in e) (alone_by e.course.threads e.course.untraced) p

-- each has 32 registers
abbrev pub AreWhole : List Status → Type 0
AreWhole statuses = (t : ℕ) (status : Status) → slice_get statuses t ≡ Some status → length status.regs ≡ 32

-- there is one for each thread
pub record AreEnds (e : Ends) : Type 0 where
  pub count : length e.statuses ≡ length e.course.threads
  pub whole : AreWhole e.statuses

-- each is that of the note of its thread
pub record AreNoted (descs : List (List ℕ)) (statuses : List Status) : Type 0 where
  pub each : (t : ℕ) (status : Status) → slice_get statuses t ≡ Some status → (desc : List ℕ) × (slice_get descs t ≡ Some desc) × IsStatus desc status
