-- Before which times the moments of numbers don't come, and before which they do. This project's
-- own.
use Rattle.std.specs.Prelude.{◌≡◌, ℕ, suc, ◌+◌, ◌≤◌, ◌<◌, List, Option, Some, None, slice_get}
use Rattle.rept_steps.specs.declared.slice.Slice.{Slice}
use Rattle.rept_steps.specs.Course.{Course}
use Rattle.rept_order.specs.Events.{event_slice, first_event, last_event}
use Rattle.rept_order.specs.Moments.{Moment}
use Rattle.rept_order.specs.Moments.Moment.{before, after, at_end}
use Rattle.rept_order.specs.Times.{begin_of}
use Rattle.rept_moments.specs.Numbers.{numbers_of}

-- the moment doesn't come before the time
abbrev pub ComesFrom : Course → Moment → ℕ → Type 0
ComesFrom C (before r) time = time ≤ begin_of C (first_event C r)
ComesFrom C (after r) time = time ≤ begin_of C (last_event C r)
ComesFrom C at_end time = Unit {0}

-- there is a slice, and it ends before the time
abbrev pub EndsBefore : Option Slice → ℕ → Type 0
EndsBefore None time = ⊥
EndsBefore (Some s) time = s.end < time

-- the moment is in a slice that ends before the time
abbrev pub ComesBefore : Course → Moment → ℕ → Type 0
ComesBefore C (before r) time = EndsBefore (event_slice C (first_event C r)) time
ComesBefore C (after r) time = EndsBefore (event_slice C (last_event C r)) time
ComesBefore C at_end time = ⊥

-- the moments of these numbers don't come before the time
abbrev pub AllFrom : Course → ℕ → ℕ → ℕ → Type 0
AllFrom C low count time = (j : ℕ) → low ≤ j → j < count → ComesFrom C ((numbers_of C).last j) time

-- those of the numbers below one do
abbrev pub AllBefore : Course → ℕ → ℕ → Type 0
AllBefore C high time = (j : ℕ) → j < high → ComesBefore C ((numbers_of C).last j) time

-- for the last number below a count, the last two, and so on, a time before which none of their
-- moments comes
abbrev pub AreBegins : Course → ℕ → List ℕ → Type 0
AreBegins C count list = (k low time : ℕ) → slice_get list k ≡ Some time → low + suc k ≡ count → AllFrom C low count time

-- for the first number, the first two, and so on, a time up to which all their moments come
abbrev pub AreEndTimes : Course → List ℕ → Type 0
AreEndTimes C list = (k time : ℕ) → slice_get list k ≡ Some time → AllBefore C (suc k) (suc time)
