-- What is true of the report of a run, and what a conflict excludes: in every execution of all
-- threads, and of a run that is one path in every execution of that path; and what is true of what
-- is inferred beyond the report. This project's own.
use Rattle.std.specs.Prelude.{◌≡◌, ◌≤◌, ◌⊎◌, ℕ, nat_le, if◌then◌else◌, true, false, List, [], ◌∷◌, length, Option, Some, None, bit_and}
use Rattle.rept_isa.specs.declared.row.StepRow.{StepRow}
use Rattle.rept_machine.specs.State.{State}
use Rattle.rept_moments.specs.Numbers.{numbers_of}
use Rattle.rept_moments.specs.Seen.{seen, moment_in}
use Rattle.rept_order.specs.Alone.{IsShared, ShowsRun}
use Rattle.rept_order.specs.History.{History, IsExecution}
use Rattle.rept_reason.specs.declared.fact.Cell.TheVariants.{Register, Byte}
use Rattle.rept_reason.specs.Facts.{Knowledge}
use Rattle.rept_report.specs.Closure.{IsReport}
use Rattle.rept_report.specs.OneThread.{ThreadPath, path_setting}
use Rattle.rept_streams.specs.Runs.Kind.{path_rows}
use Rattle.rept_steps.specs.Course.{Course}
use Rattle.rept_steps.specs.Runs.{course_of}
use Rattle.rept_steps.specs.declared.run.Run.{Run}
use Rattle.rept_steps.specs.declared.threads.ThreadRows.{ThreadRows}
use Rattle.rept_findings.specs.Shown.{Shown, moment_at, number}
use Rattle.rept_findings.specs.declared.place.ThreadPoint.{ThreadPoint}
use Rattle.rept_found.specs.Trip.Executed.{HasNoHistory}
use Rattle.rept_found.specs.Crash.{Scene, ending_of, path_of}
use Rattle.rept_found.specs.Histories.{IsTrueTrip}
use Rattle.rept_found.specs.Telling.{shown_of, shown_on}
use Rattle.rept_found.specs.Truth.{ExecutesPath, HasNoExecutionOfPath, IsTrueOf, IsTrueReport}
use Rattle.rept_narrow.specs.Admitted.{IsAdmitted}
use Rattle.rept_found.specs.Inferred.Narrowed.{TellsAll}
use Rattle.rept_opening.specs.Beyond.{story_of}
use Rattle.rept_opening.specs.Opened.{CrashRun, RunAccount, route_of, run_setting, told_in}
use Rattle.rept_opening.specs.Order.{GoesByOrder}

-- the path of these steps, with the crash in which it ends
abbrev pub path_by : {W : Type 0} → CrashRun W → List StepRow → ThreadPath W
path_by p rows = path_of p.means p.crash rows

-- Where a run is one path, of one thread in one slice, all of which is told: what is shown of it is
-- what is shown of the path, and it holds in every execution of the path.
pub record IsTrueAlone {W : Type 0} (p : CrashRun W) (known : Knowledge) (rows : List StepRow) : Type 0 where
  pub shown : (scene : Scene) → shown_on (route_of p) known scene ≡ shown_of (path_by p rows) known scene
  pub holds : IsTrueReport (path_by p rows) known

-- the steps of a run of one thread, in however many slices, all of which is told
abbrev pub lone_by : List ThreadRows → Option ℕ → Option (List StepRow)
lone_by (thread ∷ []) None = Some thread.steps
lone_by threads untraced = None

abbrev pub lone_rows : Run → Option (List StepRow)
lone_rows run = lone_by run.threads run.untraced

-- the point of this number of the first thread
abbrev pub first_at : ℕ → ThreadPoint
first_at q = record { thread = 0; point = q }

-- Of one execution of the steps of one thread: what is told at each of its points is what it has
-- there.
pub record IsTrueAtPoints (s : Shown) (rows : List StepRow) (states : ℕ → State) : Type 0 where
  pub registers : (q r v : ℕ) → q ≤ length rows → s.register (number s (first_at q)) r ≡ Some v → (states q).register r ≡ v
  pub ranges : (q r : ℕ) → q ≤ length rows → ((s.range (number s (first_at q)) r).lo ≤ (states q).register r) × ((states q).register r ≤ (s.range (number s (first_at q)) r).hi)
  pub notes : (q r : ℕ) (n : ℕ × ℕ) → q ≤ length rows → s.note (number s (first_at q)) r ≡ Some n → bit_and ((states q).register r) n.0 ≡ n.1
  pub bytes : (q a v : ℕ) → q ≤ length rows → s.byte (moment_at s (first_at q)) a ≡ Some v → (states q).memory a ≡ v

-- What is known of a run of one thread, by its points alone: of a byte what is known at the memory
-- point there. The path of a thread by itself has no other numbers.
abbrev pub known_at_points : Course → ℕ → Knowledge → Knowledge
known_at_points C last K p (Register r) = K p (Register r)
known_at_points C last K p (Byte a) = if nat_le p last then K (moment_in (seen C) p) (Byte a) else None

-- At each point of one thread the same is told: of registers, and of the bytes there and the steps
-- that wrote them last. So it is of the code, and of how much is known.
pub record IsSameAtPoints (rows : List StepRow) (s t : Shown) : Type 0 where
  pub registers : (q r : ℕ) → q ≤ length rows → s.register (number s (first_at q)) r ≡ t.register (number t (first_at q)) r
  pub ranges : (q r : ℕ) → q ≤ length rows → s.range (number s (first_at q)) r ≡ t.range (number t (first_at q)) r
  pub notes : (q r : ℕ) → q ≤ length rows → s.note (number s (first_at q)) r ≡ t.note (number t (first_at q)) r
  pub bytes : (q a : ℕ) → q ≤ length rows → s.byte (moment_at s (first_at q)) a ≡ t.byte (moment_at t (first_at q)) a
  pub writers : (q a : ℕ) → q ≤ length rows → s.writer (moment_at s (first_at q)) a ≡ t.writer (moment_at t (first_at q)) a
  pub code : (a : ℕ) → s.code a ≡ t.code a
  pub counts : s.counts ≡ t.counts

-- the execution of the run is one of the path, with the same registers at each point and the same
-- memory at each moment
abbrev pub IsOfPath : {W : Type 0} → ThreadPath W → Course → History → Type 0
IsOfPath P C h = (states : ℕ → State) × ExecutesPath P states × ShowsRun C h states

-- Of a run of one thread, in however many slices, all of which is told: the executions of the run
-- that end in the crash are those of its steps by themselves, in both directions, with the same
-- registers at each point and the same memory at each moment; and what is told at points holds in
-- each of them. What is known of the run is at points the report of its path, no more and no less,
-- and what is told of the run is at points what is told of its path.
pub record IsTrueLone {W : Type 0} (p : CrashRun W) (known : Knowledge) (rows : List StepRow) : Type 0 where
  pub shared : (states : ℕ → State) → ExecutesPath (path_by p rows) states → IsShared (course_of p.run) (ending_of p.crash) states
  pub of_path : (h : History) → IsExecution (course_of p.run) (ending_of p.crash) h → IsOfPath (path_by p rows) (course_of p.run) h
  pub told : (scene : Scene) (states : ℕ → State) → ExecutesPath (path_by p rows) states → IsTrueAtPoints (shown_on (route_of p) known scene) rows states
  pub report : IsReport (path_setting (path_by p rows)) (known_at_points (course_of p.run) (length rows) known)
  pub same : (scene : Scene) → IsSameAtPoints rows (shown_on (route_of p) known scene) (shown_of (path_by p rows) (known_at_points (course_of p.run) (length rows) known) scene)

-- What a session tells of a report of the run holds in every execution of all threads that ends in
-- the crash, and reasons rest on the report; and of one path the same in its own words. So it does
-- in every execution of the steps of one thread, in however many slices; the core file of one
-- thread has one note. Of any other run than one path, what is carried and who may have written go
-- by the order of the steps.
pub record IsTrue {W : Type 0} (p : CrashRun W) (known : Knowledge) : Type 0 where
  pub threads : IsTrueTrip (route_of p) known
  pub alone : (rows : List StepRow) → path_rows p.run ≡ Some rows → IsTrueAlone p known rows
  pub lone : (rows : List StepRow) → lone_rows p.run ≡ Some rows → length p.crash.notes ≡ 1 → IsTrueLone p known rows
  pub order : path_rows p.run ≡ None → GoesByOrder (course_of p.run) (numbers_of (course_of p.run)) (run_setting p) known

-- What is told of a run beyond its report, too: of one path it holds in every admitted execution,
-- and nothing that the report has is lost. Where nothing is to be inferred beyond the report, it is
-- what the report has.
pub record IsTrueBeyond {W : Type 0} (p : CrashRun W) (a : RunAccount) : Type 0 where
  pub holds : (rows : List StepRow) → path_rows p.run ≡ Some rows → (states : ℕ → State) → IsAdmitted (story_of p.crash p.run.skipped rows) states → IsTrueOf (path_by p rows) (told_in p a).shown states
  pub whole : TellsAll (shown_on (route_of p) a.known a.scene) (told_in p a).shown
  pub same : p.means.beyond ≡ false → a.beyond ≡ None

-- No execution of all threads ends in the crash; and of one path none of it does.
pub record HasNoExecutionToCrash {W : Type 0} (p : CrashRun W) : Type 0 where
  pub threads : HasNoHistory (route_of p)
  pub alone : (rows : List StepRow) → path_rows p.run ≡ Some rows → HasNoExecutionOfPath (path_by p rows)

-- More is inferred of the run, which is one path, and there is no admitted execution of it.
pub record IsRefuted {W : Type 0} (p : CrashRun W) : Type 0 where
  pub asked : p.means.beyond ≡ true
  pub rows : List StepRow
  pub one : path_rows p.run ≡ Some rows
  pub none : (states : ℕ → State) → IsAdmitted (story_of p.crash p.run.skipped rows) states → ⊥

-- so; or, where more is inferred beyond the report of one path, no admitted execution of it does
abbrev pub IsExcluded : {W : Type 0} → CrashRun W → Type 0
IsExcluded p = HasNoExecutionToCrash p ⊎ IsRefuted p

-- the run is one path, and these states are an execution of it that ends in the crash
abbrev pub IsExecuted : {W : Type 0} → CrashRun W → Type 0
IsExecuted p = (rows : List StepRow) × (path_rows p.run ≡ Some rows) × (states : ℕ → State) × ExecutesPath (path_by p rows) states
