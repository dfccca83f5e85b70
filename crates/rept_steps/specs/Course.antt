-- The course of a run of several threads: the steps of each thread, and the slices in which harts
-- ran them. All times are of one clock. This project's own.
use Rattle.std.specs.Prelude.{◌≡◌, ℕ, suc, ◌+◌, ◌<◌, ◌≤◌, ◌⊎◌, nat_lt, if◌then◌else◌, Bool, true, false, List, [], ◌∷◌, length, Option, Some, None, slice_get, unwrap_or}
use Rattle.rept_isa.specs.declared.row.StepRow.{StepRow}
use Rattle.rept_isa.specs.Operands.{is_call}
use Rattle.rept_steps.specs.declared.slice.Slice.{Slice}
use Rattle.rept_steps.specs.declared.threads.ThreadRows.{ThreadRows}

pub record Course : Type 0 where
  -- what each thread executed, in its order, and the slices in which it ran, in the order of time
  pub threads : List ThreadRows
  -- where something of the begin isn't told: a time after which all is. Until then any byte may
  -- change.
  pub untraced : Option ℕ

-- a row by its thread and its number in it
pub record Row : Type 0 where
  pub thread : ℕ
  pub step : ℕ

abbrev pub row_of : ℕ → ℕ → Row
row_of t i = record { thread = t; step = i }

abbrev pub no_thread : ThreadRows
no_thread = record { steps = []; slices = [] }

-- past the last thread nothing is executed
abbrev pub thread_at : Course → ℕ → ThreadRows
thread_at C t = unwrap_or (slice_get C.threads t) no_thread

abbrev pub rows_of : Course → ℕ → List StepRow
rows_of C t = (thread_at C t).steps

abbrev pub slices_of : Course → ℕ → List Slice
slices_of C t = (thread_at C t).slices

-- it is a row of the course
abbrev pub IsRow : Course → Row → Type 0
IsRow C r = r.step < length (rows_of C r.thread)

abbrev pub row_at : Course → Row → Option StepRow
row_at C r = slice_get (rows_of C r.thread) r.step

abbrev pub is_call_row : Option StepRow → Bool
is_call_row None = false
is_call_row (Some row) = is_call row.instr

-- whether the row is a call
abbrev pub calls : Course → Row → Bool
calls C r = is_call_row (row_at C r)

-- the slice that a row is in: slices take the rows one after the other, so it is the first one that
-- reaches past the row
abbrev pub slice_of : List Slice → ℕ → Option Slice
slice_of [] i = None
slice_of (s ∷ slices) i = if nat_lt i (s.first + s.count) then Some s else slice_of slices i

abbrev pub first_slice : List Slice → Option Slice
first_slice [] = None
first_slice (s ∷ slices) = Some s

-- the one that follows it in the thread
abbrev pub slice_after : List Slice → ℕ → Option Slice
slice_after [] i = None
slice_after (s ∷ slices) i = if nat_lt i (s.first + s.count) then first_slice slices else slice_after slices i

-- the slices take the rows from one number to another, each row once
abbrev pub TakeRows : ℕ → List Slice → ℕ → Type 0
TakeRows from [] to = to ≡ from
TakeRows from (s ∷ slices) to = (s.first ≡ from) × TakeRows (from + s.count) slices to

-- the slice doesn't begin before this time
abbrev pub BeginsFrom : ℕ → Option Slice → Type 0
BeginsFrom time None = Unit {0}
BeginsFrom time (Some s) = time ≤ s.begin

-- no slice begins after its own end, nor before the end of the one before
abbrev pub KeepTime : List Slice → Type 0
KeepTime [] = Unit {0}
KeepTime (s ∷ slices) = (s.begin ≤ s.end) × BeginsFrom s.end (first_slice slices) × KeepTime slices

-- a call is the last row of its slice
abbrev pub CallsEnd : Course → Type 0
CallsEnd C = (r : Row) (s : Slice) → calls C r ≡ true → slice_of (slices_of C r.thread) r.step ≡ Some s → s.first + s.count ≡ suc r.step

-- one thread in one slice, all of which is told
pub record IsAlone (C : Course) : Type 0 where
  pub thread : ThreadRows
  pub slice : Slice
  pub only : C.threads ≡ thread ∷ []
  pub whole : thread.slices ≡ slice ∷ []
  pub told : C.untraced ≡ None

-- A course is sound where the slices of each thread take its rows in order and keep time, and each
-- call is the last row of its slice; of one thread alone, in one slice, calls may stand anywhere.
pub record IsSoundCourse (C : Course) : Type 0 where
  pub taken : (t : ℕ) → TakeRows 0 (slices_of C t) (length (rows_of C t))
  pub in_time : (t : ℕ) → KeepTime (slices_of C t)
  pub calls : IsAlone C ⊎ CallsEnd C
