-- The rows and moments of a run as an analysis takes them. Of one thread in one slice, all of which
-- is told, the moments are its points. This project's own.
use Rattle.std.specs.Prelude.{◌≡◌, ◌≢◌, ◌⊎◌, ◌↔◌, ℕ, ◌<◌, ◌≤◌, true, List, [], ◌∷◌, length, Option, Some, None}
use Rattle.std.specs.List.{Contains}
use Rattle.std.specs.Option.{IsSome}
use Rattle.rept_isa.specs.declared.row.StepRow.{StepRow}
use Rattle.rept_steps.specs.declared.slice.Slice.{Slice}
use Rattle.rept_steps.specs.declared.threads.ThreadRows.{ThreadRows}
use Rattle.rept_steps.specs.Course.{Course}
use Rattle.rept_span.specs.Ranges.{Legs, legs_of}
use Rattle.rept_report.specs.Moments.{Moments, points_of}
use Rattle.rept_report.specs.Timeline.{moment_by}
use Rattle.rept_moments.specs.Naming.Numbered.{legs_on}
use Rattle.rept_moments.specs.Numbers.{numbered}

pub record SeenMoments : Type 0 where
  pub legs : Legs
  pub moments : Moments

abbrev pub seen_alone : List StepRow → SeenMoments
seen_alone rows = record { legs = legs_of rows; moments = points_of (length rows) }

abbrev pub seen_many : Course → SeenMoments
seen_many C = record { legs = legs_on C; moments = numbered C }

-- the rows, if it is one thread in one slice, all of which is told
abbrev pub rows_in : List Slice → List StepRow → Option (List StepRow)
rows_in (s ∷ []) rows = Some rows
rows_in slices rows = None

abbrev pub alone_by : List ThreadRows → Option ℕ → Option (List StepRow)
alone_by (thread ∷ []) None = rows_in thread.slices thread.steps
alone_by threads untraced = None

abbrev pub seen_by : Course → Option (List StepRow) → SeenMoments
seen_by C (Some rows) = seen_alone rows
seen_by C None = seen_many C

abbrev pub seen : Course → SeenMoments
seen C = seen_by C (alone_by C.threads C.untraced)

-- the moment of a point: the one before its row, and where no row leads from it the end
abbrev pub moment_in : SeenMoments → ℕ → ℕ
moment_in x p = moment_by x.moments (x.legs.row p) p

-- the numbers that are next to one were added to a list, all of them
abbrev pub AddsNexts : Moments → ℕ → List ℕ → List ℕ → Type 0
AddsNexts moments m old new = (w : ℕ) → Contains new w ↔ (Contains old w ⊎ (moments.next m w ≡ true))

-- the one row that has the moment of a number before it, or that no row has
abbrev pub IsRowAt : SeenMoments → ℕ → Option ℕ → Type 0
IsRowAt x m None = (i : ℕ) → IsSome (x.legs.row i) → x.moments.before i ≢ m
IsRowAt x m (Some i) = IsSome (x.legs.row i) × (x.moments.before i ≡ m) × ((j : ℕ) → IsSome (x.legs.row j) → x.moments.before j ≡ m → j ≡ i)

-- the least point from one on from which no row leads, or that there is none
abbrev pub IsLastFrom : Legs → ℕ → Option ℕ → Type 0
IsLastFrom legs least None = legs.count < least
IsLastFrom legs least (Some p) = (least ≤ p) × (p ≤ legs.count) × (legs.row p ≡ None) × ((q : ℕ) → least ≤ q → q < p → IsSome (legs.row q))
