-- What a sound course keeps, as truth values. This project's own.
use Rattle.std.specs.Prelude.{ℕ, zero, suc, ◌+◌, ◌==◌, ◌&&◌, ◌||◌, nat_le, not, Bool, true, false, List, [], ◌∷◌, length, Option, Some, None, slice_get}
use Rattle.rept_steps.specs.declared.slice.Slice.{Slice}
use Rattle.rept_steps.specs.declared.threads.ThreadRows.{ThreadRows}
use Rattle.rept_steps.specs.Course.{Course, thread_at, is_call_row, slice_of}

-- the slices take the rows from one number to another
abbrev pub takes : ℕ → List Slice → ℕ → Bool
takes from [] to = from == to
takes from (s ∷ slices) to = (s.first == from) && takes (from + s.count) slices to

-- the slice of this number begins no later than it ends, and ends no later than the next one begins
abbrev pub begins_from : ℕ → Option Slice → Bool
begins_from time None = true
begins_from time (Some s) = nat_le time s.begin

abbrev pub in_time : Option Slice → Option Slice → Bool
in_time None next = true
in_time (Some s) next = nat_le s.begin s.end && begins_from s.end next

-- so many slices do
abbrev pub keeps_to : List Slice → ℕ → Bool
keeps_to slices zero = true
keeps_to slices (suc n) = keeps_to slices n && in_time (slice_get slices n) (slice_get slices (suc n))

-- the row of this number is the last one of the slice
abbrev pub ends_after : Option Slice → ℕ → Bool
ends_after None i = true
ends_after (Some s) i = s.first + s.count == suc i

-- of so many rows of a thread each call is the last one of its slice
abbrev pub call_ends : ThreadRows → ℕ → Bool
call_ends thread i = not (is_call_row (slice_get thread.steps i)) || ends_after (slice_of thread.slices i) i

abbrev pub calls_end_to : ThreadRows → ℕ → Bool
calls_end_to thread zero = true
calls_end_to thread (suc i) = calls_end_to thread i && call_ends thread i

abbrev pub calls_end : ThreadRows → Bool
calls_end thread = calls_end_to thread (length thread.steps)

-- the slices of a thread take its rows and keep time
abbrev pub fits : ThreadRows → Bool
fits thread = takes 0 thread.slices (length thread.steps) && keeps_to thread.slices (length thread.slices)

-- of so many threads
abbrev pub fit_to : Course → ℕ → Bool
fit_to C zero = true
fit_to C (suc t) = fit_to C t && fits (thread_at C t)

abbrev pub end_to : Course → ℕ → Bool
end_to C zero = true
end_to C (suc t) = end_to C t && calls_end (thread_at C t)

-- one thread in one slice, all of which is told
abbrev pub is_one : {A : Type 0} → List A → Bool
is_one (x ∷ []) = true
is_one xs = false

abbrev pub is_told : Option ℕ → Bool
is_told None = true
is_told (Some d) = false

abbrev pub is_alone : Course → Bool
is_alone C = is_told C.untraced && (is_one C.threads && is_one (thread_at C 0).slices)

abbrev pub is_sound : Course → Bool
is_sound C = fit_to C (length C.threads) && (is_alone C || end_to C (length C.threads))
