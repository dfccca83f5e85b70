-- The executions of a trip, and what of them the numbers of its points and moments stand for, and
-- the names by which a session tells them. This project's own.
use Rattle.std.specs.Prelude.{ℕ}
use Rattle.rept_steps.specs.Course.{Course, row_of}
use Rattle.rept_order.specs.History.{History, IsExecution}
use Rattle.rept_order.specs.Moments.{Moment}
use Rattle.rept_order.specs.Moments.Moment.{after, at_end}
use Rattle.rept_order.specs.Points.{moment_of_point, memory_at}
use Rattle.rept_order.specs.Legs.{registers_on}
use Rattle.rept_order.specs.Writers as order
use Rattle.rept_moments.specs.Naming.Numbered.{row_on}
use Rattle.rept_found.specs.Places.Places.{last_on}
use Rattle.rept_report.specs.Runs.{Run}
use Rattle.rept_report.specs.declared.writer.Writer.{Writer}
use Rattle.rept_report.specs.declared.writer.Writer as writers
use Rattle.rept_findings.specs.declared.place.Place.{Place}
use Rattle.rept_findings.specs.declared.place.Place.TheVariants as places
use Rattle.rept_findings.specs.declared.place.ThreadPlace.{ThreadPlace}
use Rattle.rept_found.specs.Trip.Trip.{Trip}

-- an execution of all its threads that ends as it did
abbrev pub IsHistoryOf : {W : Type 0} → Trip W → History → Type 0
IsHistoryOf t h = IsExecution t.course t.ending h

-- there is none
abbrev pub HasNoHistory : {W : Type 0} → Trip W → Type 0
HasNoHistory t = (h : History) → IsHistoryOf t h → ⊥

-- the moment at a place of a thread: at a point that before its row, or the end after the last one
abbrev pub moment_by : Course → ℕ → Place → Moment
moment_by C t (places.Point p) = moment_of_point C t p
moment_by C t (places.After i) = after (row_of t i)
moment_by C t places.End = at_end

abbrev pub moment_named : Course → ThreadPlace → Moment
moment_named C x = moment_by C x.thread x.place

-- the memory at the moment of a number: the last of those that have it
abbrev pub memory_on : Course → History → ℕ → (ℕ → ℕ)
memory_on C h m = memory_at C h (last_on C m)

-- the registers by points, and the memory by the numbers of moments
abbrev pub run_on : Course → History → Run
run_on C h = record { register = registers_on C h; memory = memory_on C h }

-- the byte at an address, at the moment of a number
abbrev pub spot_on : Course → ℕ → ℕ → order.CourseSpot
spot_on C m a = record { moment = last_on C m; address = a }

-- of which row an answer speaks
abbrev pub writer_on : Course → Writer → order.Writer
writer_on C (writers.TheVariants.Writes i) = order.Writer.writes (row_on C i)
writer_on C (writers.TheVariants.MayWrite i) = order.Writer.may_write (row_on C i)
writer_on C writers.TheVariants.Several = order.Writer.several
writer_on C writers.TheVariants.None = order.Writer.none
