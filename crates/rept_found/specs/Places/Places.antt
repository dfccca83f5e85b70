-- What the numbers of a run's points and moments stand for. A moment of a number is named as the
-- point that it is at, if it is at one; of several threads the end has a name of its own, of one
-- thread it is the last point. This project's own.
use Rattle.std.specs.Prelude.{ℕ, ◌+◌, ◌==◌, nat_lt, if◌then◌else◌, List, length, Option, Some, None}
use Rattle.rept_isa.specs.declared.row.StepRow.{StepRow}
use Rattle.rept_steps.specs.Course.{Course, row_of}
use Rattle.rept_order.specs.Moments.{Moment}
use Rattle.rept_order.specs.Moments.Moment.{before, after, at_end}
use Rattle.rept_order.specs.Legs.{point_at, number_of}
use Rattle.rept_moments.specs.Numbers.{numbers_of}
use Rattle.rept_moments.specs.Seen.{alone_by, seen, moment_in}
use Rattle.rept_findings.specs.declared.place.Place.{Place}
use Rattle.rept_findings.specs.declared.place.Place.TheVariants as places
use Rattle.rept_findings.specs.declared.place.ThreadPlace.{ThreadPlace}
use Rattle.rept_findings.specs.declared.place.ThreadPoint.{ThreadPoint}

abbrev pub thread_point : ℕ → ℕ → ThreadPoint
thread_point t p = record { thread = t; point = p }

abbrev pub point_named : ℕ → ℕ → ThreadPlace
point_named t p = record { thread = t; place = places.Point p }

abbrev pub after_named : ℕ → ℕ → ThreadPlace
after_named t i = record { thread = t; place = places.After i }

-- the point of a number
abbrev pub point_on : Course → ℕ → ThreadPoint
point_on C g = record { thread = (point_at C g).thread; point = (point_at C g).number }

-- the last of the moments that have a number: of one thread in one slice, all of which is told, the
-- one at the point
abbrev pub last_by : Course → Option (List StepRow) → ℕ → Moment
last_by C (Some rows) m = if nat_lt m (length rows) then before (row_of 0 m) else at_end
last_by C None m = (numbers_of C).last m

abbrev pub last_on : Course → ℕ → Moment
last_on C m = last_by C (alone_by C.threads C.untraced) m

-- the end is no thread's own where there are several; it is then named as of thread 0
abbrev pub end_on : Course → ThreadPlace
end_on C = if length C.threads == 1 then point_named 0 (seen C).legs.count else record { thread = 0; place = places.End }

abbrev pub named_on : Course → Moment → ThreadPlace
named_on C (before r) = point_named r.thread r.step
named_on C (after r) = after_named r.thread r.step
named_on C at_end = end_on C

-- the place of a moment's number
abbrev pub place_on : Course → ℕ → ThreadPlace
place_on C m = named_on C (last_on C m)

-- and back
abbrev pub number_by : Course → ℕ → Place → ℕ
number_by C t (places.Point p) = moment_in (seen C) (number_of C t p)
number_by C t (places.After i) = (seen C).moments.after (number_of C t i)
number_by C t places.End = (seen C).moments.end

abbrev pub place_number : Course → ThreadPlace → ℕ
place_number C x = number_by C x.thread x.place
