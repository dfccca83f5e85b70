-- What an execution has at the points of a run, and that the answers of a session are true of each
-- execution. This project's own.
use Rattle.std.specs.Prelude.{◌≡◌, ℕ, ◌+◌, List, length, None, Some}
use Rattle.rept_isa.specs.declared.row.StepRow.{StepRow}
use Rattle.rept_machine.specs.State.{State}
use Rattle.rept_narrow.specs.Admitted.{IsAdmitted}
use Rattle.rept_report.specs.OneThread.{ThreadPath}
use Rattle.rept_report.specs.Spots.{Spot, spot}
use Rattle.rept_report.specs.declared.writer.Writer as told
use Rattle.rept_order.specs.History.{History}
use Rattle.rept_order.specs.Points.{memory_at, moment_of_point, thread_registers}
use Rattle.rept_order.specs.Writers.{Writer, WriterHoldsInHistory}
use Rattle.rept_order.specs.Writers.Writer.{writes, may_write, several, none}
use Rattle.rept_streams.specs.Runs.Kind.{path_rows}
use Rattle.rept_findings.specs.declared.place.Place.{Place}
use Rattle.rept_findings.specs.declared.place.Place.TheVariants as places
use Rattle.rept_findings.specs.declared.place.ThreadPoint.{ThreadPoint}
use Rattle.rept_found.specs.Trip.Executed.{IsHistoryOf, moment_named}
use Rattle.rept_found.specs.Trip.Trip.{Trip}
use Rattle.rept_found.specs.Truth.{WriterHoldsOnPath}
use Rattle.rept_opening.specs.Beyond.{story_of}
use Rattle.rept_opening.specs.Opened.{CrashRun, RunAccount, route_of, told_in}
use Rattle.rept_opening.specs.True.{path_by}
use Rattle.rept_session.specs.Texts.{last_of}
use Rattle.rept_app.specs.TrueLines.{AreLinesTrue}
use Rattle.rept_app.specs.TrueValues.{ExecutionHeld, PointHeld}

-- what an execution of all threads has at a point of a thread
abbrev pub held_in : {W : Type 0} → Trip W → History → ThreadPoint → PointHeld
held_in t h c = record {
  register = thread_registers t.course h c.thread c.point;
  memory = memory_at t.course h (moment_of_point t.course c.thread c.point);
  last_writer = λ a w. WriterHoldsInHistory t.course t.ending h (record { moment = moment_of_point t.course c.thread c.point; address = a }) w;
}

-- at all points, and its memory at each place
abbrev pub all_held_in : {W : Type 0} → Trip W → History → ExecutionHeld
all_held_in t h = record { at = held_in t h; memory = λ x. memory_at t.course h (moment_named t.course x) }

-- What is so of the step that last wrote a byte of a path, whose steps are those of thread 0. Of a
-- path `several` isn't told.
abbrev pub WritesOnPath : {W : Type 0} → ThreadPath W → (ℕ → State) → Spot → Writer → Type 0
WritesOnPath P states x (writes r) = (r.thread ≡ 0) × WriterHoldsOnPath P states x (told.TheVariants.Writes r.step)
WritesOnPath P states x (may_write r) = (r.thread ≡ 0) × WriterHoldsOnPath P states x (told.TheVariants.MayWrite r.step)
WritesOnPath P states x several = ⊥
WritesOnPath P states x none = WriterHoldsOnPath P states x told.TheVariants.None

-- what an execution of a path has at a point
abbrev pub held_on : {W : Type 0} → ThreadPath W → (ℕ → State) → ThreadPoint → PointHeld
held_on P states c = record {
  register = (states c.point).register;
  memory = (states c.point).memory;
  last_writer = λ a w. WritesOnPath P states (spot c.point a) w;
}

-- the point at a place of a path of so many steps
abbrev pub point_by : ℕ → Place → ℕ
point_by steps (places.Point p) = p
point_by steps (places.After j) = j + 1
point_by steps places.End = steps

-- at all points of a path, and its memory at each place
abbrev pub all_held_on : {W : Type 0} → ThreadPath W → (ℕ → State) → ExecutionHeld
all_held_on P states = record { at = held_on P states; memory = λ x. (states (point_by (length P.given.rows) x.place)).memory }

-- The answers to these lines are true, line by line. Where the report alone is told, they are true
-- of each execution of all threads that ends in the crash. Of a run that is one path they are true
-- of each execution of it that ends in the crash and keeps the premises.
pub record AreTrueLines {W : Type 0} (p : CrashRun W) (a : RunAccount) (lines : List (List ℕ)) (text : List ℕ) : Type 0 where
  pub threads : a.beyond ≡ None → (h : History) → IsHistoryOf (route_of p) h → AreLinesTrue (all_held_in (route_of p) h) (told_in p a).shown (last_of (told_in p a).shown 0) lines text
  pub alone : (rows : List StepRow) → path_rows p.run ≡ Some rows → (states : ℕ → State) → IsAdmitted (story_of p.crash p.run.skipped rows) states → AreLinesTrue (all_held_on (path_by p rows) states) (told_in p a).shown (last_of (told_in p a).shown 0) lines text
