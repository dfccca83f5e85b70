-- The rows and moments of a course as an analysis takes them, and the rows that are in the way of a
-- moment or of a row. This project's own.
use Rattle.std.specs.Prelude.{ℕ, Option}
use Rattle.rept_report.specs.Timeline.{Timeline, IsLeastFrom, IsGreatestTo, IsOpen, IsBegun, IsClose}
use Rattle.rept_moments.specs.Seen.{SeenMoments}
use Rattle.rept_steps.specs.Course.{IsSoundCourse}
use Rattle.rept_moments.specs.declared.course.NumberedRun.{NumberedRun}
use Rattle.rept_moments.specs.declared.course.NumberedRun as courses
use Rattle.rept_moments.specs.Courses.{seen_in}

abbrev pub as_timeline : SeenMoments → Timeline
as_timeline seen = record { legs = seen.legs; moments = seen.moments }

abbrev pub time_of : NumberedRun → Timeline
time_of course = as_timeline (seen_in course)

-- the least row from one on that doesn't lie wholly before a moment, or that there is none
abbrev pub IsOpenFrom : Timeline → ℕ → ℕ → Option ℕ → Type 0
IsOpenFrom t m least found = IsLeastFrom (IsOpen t m) least found

-- the greatest row up to a number that doesn't lie wholly after a moment, or that there is none
abbrev pub IsBegunTo : Timeline → ℕ → ℕ → Option ℕ → Type 0
IsBegunTo t m most found = IsGreatestTo (IsBegun t m) most found

-- the least row from one on than which another one isn't later, or that there is none
abbrev pub IsCloseFrom : Timeline → ℕ → ℕ → Option ℕ → Type 0
IsCloseFrom t j least found = IsLeastFrom (IsClose t j) least found

-- it is that of a sound run
abbrev pub IsSoundIn : courses.NumberedRun → Type 0
IsSoundIn (courses.TheVariants.One steps) = Unit {0}
IsSoundIn (courses.TheVariants.Many many) = IsSoundCourse many
