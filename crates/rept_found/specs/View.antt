-- An analysis that is prepared, or has ended, as contracts see it. This project's own.
use Rattle.std.specs.Prelude.{◌≡◌, ℕ, ◌<◌, List, length, map, Option}
use Rattle.rept_elf.specs.Segments.{ElfSegment}
use Rattle.rept_dump.specs.Memory.{crash_byte}
use Rattle.rept_dump.specs.Program.{Program, contents}
use Rattle.rept_dump.specs.declared.status.Status.{Status}
use Rattle.rept_steps.specs.Course.{IsSoundCourse}
use Rattle.rept_order.specs.History.{Ending}
use Rattle.rept_span.specs.Ranges.{range}
use Rattle.rept_report.specs.Closure.{IsReport}
use Rattle.rept_report.specs.Setting.{way_of}
use Rattle.rept_versions.specs.OnLine.{LineParts, store}
use Rattle.rept_facts.specs.State.{AnalysisState, Whole, given_of, state_of}
use Rattle.rept_facts.specs.Kept.{answers}
use Rattle.rept_analysis.specs.Logged.{IsLogOf}
use Rattle.rept_found.specs.Trip.Trip.{Trip, given_on, setting_on}
use Rattle.rept_found.specs.Crash.{Means, ThreadEnd, Scene, trip_by}
use Rattle.rept_timeline.specs.Ends.{Ends, registers_in}

-- the analysis, how the threads of its run ended, the files of the program, and the segments of the
-- core file
pub record CrashView (W R : Type 0) : Type 0 where
  pub analysis : Whole LineParts W R
  pub ends : Ends
  pub program : Program
  pub core : List ElfSegment

-- how the run ended
abbrev pub ending_in : {W R : Type 0} → CrashView W R → Ending
ending_in v = record {
  registers = registers_in v.ends;
  dump = crash_byte (contents v.program) v.core;
  image_end = (contents v.program).end;
}

-- the trip that the analysis is of
abbrev pub trip_in : {W R : Type 0} → Means W → CrashView W R → Trip W
trip_in m v = trip_by m v.ends.course (ending_in v)

abbrev pub ended_as : Status → ThreadEnd
ended_as status = record { end_pc = status.pc; process = status.pid }

-- what a session tells of the crash besides
abbrev pub scene_in : {W R : Type 0} → CrashView W R → Scene
scene_in v = record { threads = map ended_as v.ends.statuses; program = v.program }

-- the analysis, as definitions speak of it
abbrev pub state_in : {W R : Type 0} → Means W → CrashView W R → AnalysisState W
state_in m v = state_of m.sets m.moves m.rules store v.analysis

-- the set of values that is left of a register at a point
abbrev pub set_in : {W R : Type 0} → Means W → CrashView W R → ℕ → ℕ → Option W
set_in m v p r = range (way_of (setting_on (trip_in m v))) (answers (state_in m v)) p r

-- it goes over the rows and moments of a sound run of at least one thread, and ends as that does
pub record IsOfRun {W R : Type 0} (v : CrashView W R) : Type 0 where
  pub some : 0 < length v.ends.course.threads
  pub sound : IsSoundCourse v.ends.course
  pub given : given_of v.analysis ≡ given_on v.ends.course (ending_in v)

-- it is of this trip and crash
pub record IsPreparedFor {W R : Type 0} (m : Means W) (t : Trip W) (scene : Scene) (v : CrashView W R) : Type 0 where
  pub trip : trip_in m v ≡ t
  pub same_scene : scene_in v ≡ scene

-- it has the report, and an order in which that was learnt
pub record IsFoundIn {W R : Type 0} (m : Means W) (t : Trip W) (scene : Scene) (v : CrashView W R) : Type 0 where
  pub trip : trip_in m v ≡ t
  pub same_scene : scene_in v ≡ scene
  pub report : IsReport (setting_on t) (answers (state_in m v))
  pub log : IsLogOf (setting_on t) (answers (state_in m v)) (state_in m v).known.log
