-- What is told of the last writer of a byte, at the points of one thread. This project's own.
use Rattle.std.specs.Prelude.{◌≡◌, ℕ, ◌<◌, ◌≤◌, Option, None, Some}
use Rattle.rept_report.specs.declared.writer.Writer.{Writer}
use Rattle.rept_report.specs.declared.writer.Writer.TheVariants as writer
use Rattle.rept_findings.specs.Shown.{IsThreadPoint, Shown, moment_at}
use Rattle.rept_findings.specs.Texts.{at}
use Rattle.rept_findings.specs.declared.place.ThreadPoint.{ThreadPoint}

-- what is told of the last writer of a byte at a point of a thread
abbrev pub writer_at : Shown → ThreadPoint → ℕ → Writer
writer_at s c address = s.writer (moment_at s c) address

-- the step that is named as the last one that writes it, or may
abbrev pub named_row : Writer → Option ℕ
named_row (writer.Writes row) = Some row
named_row (writer.MayWrite row) = Some row
named_row writer.Several = None
named_row writer.None = None

-- this step is named at a point
abbrev pub IsNamed : Shown → ThreadPoint → ℕ → ℕ → Type 0
IsNamed s c address step = named_row (writer_at s c address) ≡ Some step

-- A step that is named at a point was before it, and was the last one at each point since it.
pub record AreLastWriters (s : Shown) (thread address : ℕ) : Type 0 where
  -- a step of the thread itself is before the point
  pub before : (step p : ℕ) → IsThreadPoint s (at thread p) → (s.point step).thread ≡ thread → IsNamed s (at thread p) address step → (s.point step).point < p
  -- and is named at each point between them
  pub since : (step q p : ℕ) → IsThreadPoint s (at thread p) → (s.point step).thread ≡ thread → IsNamed s (at thread p) address step → (s.point step).point < q → q ≤ p → IsNamed s (at thread q) address step
  -- a step of any thread that is named at two points is named at each point between them
  pub between : (step o q p : ℕ) → IsThreadPoint s (at thread p) → IsNamed s (at thread o) address step → IsNamed s (at thread p) address step → o ≤ q → q ≤ p → IsNamed s (at thread q) address step
  -- where no step may have written the byte before a point, none may have before an earlier one
  pub none : (q p : ℕ) → IsThreadPoint s (at thread p) → writer_at s (at thread p) address ≡ writer.None → q ≤ p → writer_at s (at thread q) address ≡ writer.None
