-- Which slices of a thread reach past a row, by their numbers. This project's own.
use Rattle.std.specs.Prelude.{ℕ, ◌+◌, nat_lt, Bool, true, List, Option, Some, None, slice_get}
use Rattle.rept_steps.specs.declared.slice.Slice.{Slice}

abbrev pub reaches_past : Option Slice → ℕ → Bool
reaches_past None step = true
reaches_past (Some s) step = nat_lt step (s.first + s.count)

-- whether the slice of that number does; all do that aren't there
abbrev pub reaches_at : List Slice → ℕ → ℕ → Bool
reaches_at slices number step = reaches_past (slice_get slices number) step
