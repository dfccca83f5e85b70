-- An analysis, as its callers see it, and what definitions speak of in it. This project's own.
use Rattle.std.specs.Prelude.{◌≡◌, ◌+◌, ℕ, Bool, true, List, Option}
use Rattle.rept_elf.specs.Segments.{ElfSegment}
use Rattle.rept_dump.specs.Memory.{crash_byte}
use Rattle.rept_dump.specs.Program.{Program, contents}
use Rattle.rept_partial.specs.Sets.{Sets}
use Rattle.rept_span.specs.Moves.{Moves}
use Rattle.rept_span.specs.Filled.{View}
use Rattle.rept_reason.specs.View.Rules.{Rules}
use Rattle.rept_versions.specs.Facts.{Store}
use Rattle.rept_log.specs.Known.{Held, Known, known_of, knows}
use Rattle.rept_report.specs.declared.conflict.ConflictKind.{ConflictKind}
use Rattle.rept_report.specs.Setting.{Setting}
use Rattle.rept_report.specs.Given.{Given, setting_by}
use Rattle.rept_report.specs.Timeline.{Timeline}
use Rattle.rept_timeline.specs.Paths.{timeline}
use Rattle.rept_timeline.specs.Ends.{Ends, last_values_in}
use Rattle.rept_timeline.specs.declared.run_paths.RunPaths.{RunPaths}
use Rattle.rept_reason.specs.Facts.{Knowledge}
use Rattle.rept_writing.specs.declared.list.Writing.{Writing}
use Rattle.rept_writing.specs.declared.passes.pass.Pass.{Pass}
use Rattle.rept_facts.specs.Work.{Work}

-- The rows and moments, and the last register values of each thread; the files of the program, and
-- the segments of the core file; the facts that were learnt; the sets of values that were filled
-- last, and of how many facts in the log; the rules; how many facts in the log, from the oldest on,
-- are answered; whether all is learnt, and the conflict that was answered; and its work.
pub record Whole (B W R : Type 0) : Type 0 where
  pub paths : RunPaths
  pub last : Ends
  pub exe : Program
  pub core : List ElfSegment
  pub known : Held B
  pub spans : View W
  pub filled : ℕ
  pub rules : R
  pub shown : ℕ
  pub complete : Bool
  pub conflict : Option ConflictKind
  pub work : Work

-- what is given, and what it is read by: the kind of sets of values that is followed along the
-- paths, and the rules of the rows
pub record Subject (W : Type 0) : Type 0 where
  pub sets : Sets W
  pub moves : Moves W
  pub rules : Rules
  pub given : Given

-- a byte is carried from each moment to the one of the next number alone
abbrev pub IsLined : Timeline → Type 0
IsLined t = (m w : ℕ) → t.moments.next m w ≡ true → w ≡ m + 1

-- the setting of which a report speaks
abbrev pub along : {W : Type 0} → Subject W → Setting W
along p = setting_by p.sets p.moves p.rules p.given

-- the same, with what is given
pub record AnalysisState (W : Type 0) : Type 0 where
  pub path : Subject W
  pub known : Known
  pub spans : View W
  pub filled : ℕ
  pub shown : ℕ
  pub complete : Bool
  pub conflict : Option ConflictKind
  pub work : Work

-- what is given: the rows and moments, the last values of registers and the dump
abbrev pub given_of : {B W R : Type 0} → Whole B W R → Given
given_of a = record {
  legs = (timeline a.paths).legs;
  moments = (timeline a.paths).moments;
  last = last_values_in a.last;
  dump = crash_byte (contents a.exe) a.core;
  image_end = (contents a.exe).end;
}

abbrev pub path_of : {B W R : Type 0} → Sets W → Moves W → Rules → Whole B W R → Subject W
path_of sets moves rules a = record {
  sets = sets;
  moves = moves;
  rules = rules;
  given = given_of a;
}

abbrev pub setting_of : {B W R : Type 0} → Sets W → Moves W → Rules → Whole B W R → Setting W
setting_of sets moves rules a = along (path_of sets moves rules a)

abbrev pub state_of : {B W R : Type 0} → Sets W → Moves W → Rules → (B → Store) → Whole B W R → AnalysisState W
state_of sets moves rules store a = record {
  path = path_of sets moves rules a;
  known = known_of store a.known;
  spans = a.spans;
  filled = a.filled;
  shown = a.shown;
  complete = a.complete;
  conflict = a.conflict;
  work = a.work;
}

-- the same with other work
abbrev pub with_work : {W : Type 0} → AnalysisState W → Work → AnalysisState W
with_work s w = record { path = s.path; known = s.known; spans = s.spans; filled = s.filled; shown = s.shown; complete = s.complete; conflict = s.conflict; work = w }

-- the same with another list of rows that may write
abbrev pub with_writing : {W : Type 0} → AnalysisState W → List Writing → AnalysisState W
with_writing s list = with_work s (record { joins = s.work.joins; writing = list; room = s.work.room; infers = s.work.infers; inferred = s.work.inferred })

-- the same, where rules were applied so often
abbrev pub with_infers : {W : Type 0} → AnalysisState W → ℕ → AnalysisState W
with_infers s n = with_work s (record { joins = s.work.joins; writing = s.work.writing; room = s.work.room; infers = n; inferred = s.work.inferred })

-- the same, where they were applied so far
abbrev pub with_inferred : {W : Type 0} → AnalysisState W → List Pass → AnalysisState W
with_inferred s passes = with_work s (record { joins = s.work.joins; writing = s.work.writing; room = s.work.room; infers = s.work.infers; inferred = passes })

-- the rows and moments
abbrev pub timeline_of : {W : Type 0} → AnalysisState W → Timeline
timeline_of s = record { legs = s.path.given.legs; moments = s.path.given.moments }

-- The room that was taken at first is enough: the store joins what stands side by side, and a value
-- is carried to the next number alone, so that it takes no place.
abbrev pub IsRoomy : {W : Type 0} → AnalysisState W → Type 0
IsRoomy s = (s.work.joins ≡ true) × IsLined (timeline_of s)

-- all that is known
abbrev pub all_known : {W : Type 0} → AnalysisState W → Knowledge
all_known s = knows s.known
