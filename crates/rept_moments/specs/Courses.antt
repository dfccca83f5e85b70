-- The rows and moments that a course of the code stands for.
use Rattle.std.specs.Prelude.{◌≡◌, ℕ, ◌+◌, nat_lt, if◌then◌else◌, Bool, true, false, length, Some, None}
use Rattle.rept_steps.specs.Course.{row_of}
use Rattle.rept_steps.specs.Course as runs
use Rattle.rept_order.specs.Legs.{points_before}
use Rattle.rept_order.specs.Moments.{Moment}
use Rattle.rept_order.specs.Moments.Moment.{before, at_end}
use Rattle.rept_moments.specs.declared.course.NumberedRun.{NumberedRun}
use Rattle.rept_moments.specs.declared.course.NumberedRun as courses
use Rattle.rept_moments.specs.Seen.{SeenMoments, seen_alone, alone_by}
use Rattle.rept_moments.specs.Several.{seen_of}
use Rattle.rept_moments.specs.declared.side.PointOfThread.{PointOfThread}
use Rattle.rept_moments.specs.Numbers.{numbers_of}
use Rattle.rept_moments.specs.Points.{points_in, place_on}

abbrev pub seen_in : NumberedRun → SeenMoments
seen_in (courses.TheVariants.One steps) = seen_alone steps.now
seen_in (courses.TheVariants.Many many) = seen_of many

-- how many threads there are, the first point of each, and the thread of a point with its number
-- there
abbrev pub threads_in : NumberedRun → ℕ
threads_in (courses.TheVariants.One steps) = 1
threads_in (courses.TheVariants.Many many) = length many.threads

abbrev pub first_in : NumberedRun → ℕ → ℕ
first_in (courses.TheVariants.One steps) t = 0
first_in (courses.TheVariants.Many many) t = points_before many.threads t

abbrev pub place_in : NumberedRun → ℕ → PointOfThread
place_in (courses.TheVariants.One steps) g = record { thread = 0; step = g }
place_in (courses.TheVariants.Many many) g = place_on many g

-- how many points there are
abbrev pub count_in : NumberedRun → ℕ
count_in (courses.TheVariants.One steps) = length steps.now + 1
count_in (courses.TheVariants.Many many) = points_in many

-- whether it is of one thread in one slice, all of which is told
abbrev pub is_one : NumberedRun → Bool
is_one (courses.TheVariants.One steps) = true
is_one (courses.TheVariants.Many many) = false

-- it is that of this run: of one thread in one slice, all of which is told, its rows, else the run
abbrev pub IsCourseOf : runs.Course → NumberedRun → Type 0
IsCourseOf C (courses.TheVariants.One steps) = alone_by C.threads C.untraced ≡ Some steps.now
IsCourseOf C (courses.TheVariants.Many many) = (many ≡ C) × (alone_by C.threads C.untraced ≡ None)

-- the last of the moments that have a number
abbrev pub last_in : NumberedRun → ℕ → Moment
last_in (courses.TheVariants.One steps) m = if nat_lt m (length steps.now) then before (row_of 0 m) else at_end
last_in (courses.TheVariants.Many many) m = (numbers_of many).last m
