-- The crash that words and files come to, its run, and the report of that. This project's own.
use Rattle.std.specs.Prelude.{◌≡◌, ◌⊎◌, ℕ, Bool, true, List, ◌∷◌, ◌++◌, Option, None, Some, Result, Ok}
use Rattle.rept_dump.specs.declared.fault.CoreFault.{CoreFault}
use Rattle.rept_steps.specs.Runs.{course_of}
use Rattle.rept_steps.specs.declared.run.Run.{Run}
use Rattle.rept_isa.specs.declared.row.StepRow.{StepRow}
use Rattle.rept_machine.specs.State.{State}
use Rattle.rept_streams.specs.Runs.Kind.{is_several, path_rows}
use Rattle.rept_ports.specs.Shelves.{Files}
use Rattle.rept_report.specs.Closure.{IsReport}
use Rattle.rept_report.specs.Setting.{Setting}
use Rattle.rept_report.specs.declared.conflict.ConflictKind.{ConflictKind}
use Rattle.rept_analysis.specs.Logged.{IsLogOf}
use Rattle.rept_reason.specs.declared.fact.Fact.{Fact}
use Rattle.rept_reason.specs.Facts.{Knowledge}
use Rattle.rept_report.specs.Why.{IsReason}
use Rattle.rept_findings.specs.Shown.{SessionTold, session_told}
use Rattle.rept_found.specs.Trip.Trip.{Trip, setting_on}
use Rattle.rept_found.specs.Contradictions.{contradiction_on}
use Rattle.rept_found.specs.Crash.{Crash, Means, Scene, route, scene_of, setting}
use Rattle.rept_found.specs.Telling.{shown_on}
use Rattle.rept_narrow.specs.Admitted.{IsAdmitted}
use Rattle.rept_infer.specs.Holding.{Holds}
use Rattle.rept_found.specs.Inferred.Narrowed.{Beyond, shown_beyond}
use Rattle.rept_found.specs.declared.contradiction.Contradiction.{Contradiction}
use Rattle.rept_opening.specs.declared.words.request.Domain.{Domain}
use Rattle.rept_opening.specs.Beyond.{story_of}
use Rattle.rept_opening.specs.Domains.{SetsOf, means_of}
use Rattle.rept_opening.specs.Forms.{program_fault, core_image_fault, crash_in}
use Rattle.rept_opening.specs.Loading.{CrashBytes, Loading, loading}
use Rattle.rept_opening.specs.Loading.Loading.{Refused, Loaded, LoadedCore, MadeRun}
use Rattle.rept_opening.specs.Mapped.{mapped_crash, IsMappedAs}
use Rattle.rept_opening.specs.Reading.{NotesSay}
use Rattle.rept_opening.specs.Taken.{taken_of}
use Rattle.rept_opening.specs.TraceRun.{IsRunFor}
use Rattle.rept_opening.specs.declared.load.OpenOptions.{OpenOptions}

-- a run, the crash in which it ends, and the means by which it is analysed
pub record CrashRun (W : Type 0) : Type 0 where
  pub means : Means W
  pub crash : Crash
  pub run : Run

abbrev pub crash_run : {W : Type 0} → Means W → Crash → Run → CrashRun W
crash_run m crash run = record { means = m; crash = crash; run = run }

-- the steps and slices of all threads, and what is given besides
abbrev pub route_of : {W : Type 0} → CrashRun W → Trip W
route_of p = route p.means p.crash (course_of p.run)

-- the analysis of the run
abbrev pub run_setting : {W : Type 0} → CrashRun W → Setting W
run_setting p = setting p.means p.crash (course_of p.run)

-- a conflict of it, by the names of a session
abbrev pub contradiction_in : {W : Type 0} → CrashRun W → ConflictKind → Contradiction
contradiction_in p kind = contradiction_on (course_of p.run) kind

-- More is inferred of the run, which is one path: a holding holds in each admitted execution of it,
-- and these premises are taken.
pub record IsInferredOf {W : Type 0} (p : CrashRun W) (b : Beyond) : Type 0 where
  pub asked : p.means.beyond ≡ true
  pub rows : List StepRow
  pub one : path_rows p.run ≡ Some rows
  pub holds : (states : ℕ → State) → IsAdmitted (story_of p.crash p.run.skipped rows) states → Holds (story_of p.crash p.run.skipped rows) b.told states
  pub taken : b.taken ≡ taken_of p.crash p.run.skipped rows

-- what is told beyond the report: nothing, or so much
abbrev pub IsBeyond : {W : Type 0} → CrashRun W → Option Beyond → Type 0
IsBeyond p None = Unit {0}
IsBeyond p (Some b) = IsInferredOf p b

-- a report, the order in which it was learnt, what a session tells of the crash besides, how many
-- packets were left out, and what was inferred beyond the report
pub record RunAccount : Type 0 where
  pub known : Knowledge
  pub log : List Fact
  pub scene : Scene
  pub skipped : ℕ
  pub beyond : Option Beyond

-- what a session tells of a trip by an account, with reasons by that order
abbrev pub told_by : {W : Type 0} → Trip W → RunAccount → SessionTold
told_by t a = session_told (shown_beyond a.beyond (shown_on t a.known a.scene)) a.skipped (IsReason (setting_on t) a.log)

-- and of a run
abbrev pub told_in : {W : Type 0} → CrashRun W → RunAccount → SessionTold
told_in p a = told_by (route_of p) a

-- what a session tells by: the report of the run, an order in which it was learnt, the program
-- counters and the processes of the notes, the functions that the program's files name, the count
-- of packets that were left out, and what was inferred beyond the report
pub record IsAccountOf {W : Type 0} (p : CrashRun W) (a : RunAccount) : Type 0 where
  pub report : IsReport (run_setting p) a.known
  pub log : IsLogOf (run_setting p) a.known a.log
  pub scene : a.scene ≡ scene_of p.crash
  pub skipped : a.skipped ≡ p.run.skipped
  pub beyond : IsBeyond p a.beyond

-- the bytes of a trace file, the crash in which the run ends, the number of the packet to begin
-- from, and the domain of values
pub record CrashTrace : Type 0 where
  pub crash : Crash
  pub trace : List ℕ
  pub manner : OpenOptions

abbrev pub crash_trace : Crash → List ℕ → OpenOptions → CrashTrace
crash_trace crash trace manner = record { crash = crash; trace = trace; manner = manner }

-- a run of the trace, with its crash, and the sets of the domain
abbrev pub run_in : (t : CrashTrace) → Run → CrashRun (SetsOf t.manner.domain)
run_in t run = crash_run (means_of t.manner.domain) t.crash run

-- the trace of a crash, of which the register notes have these descriptors
abbrev pub trace_in : CrashBytes → List (List ℕ) → CrashTrace
trace_in bytes notes = crash_trace (crash_in bytes.program bytes.core notes) bytes.trace bytes.manner

-- what the core file's notes say: of each thread, where the trace is one of several streams; else
-- of the only one
abbrev pub CoreSays : CrashBytes → Result (List (List ℕ)) CoreFault → Type 0
CoreSays bytes said = NotesSay (is_several bytes.trace) bytes.core said

-- the program's files and the core file are accepted, which may have many threads or has one, and
-- these are the descriptors of the register notes
pub record ReadsAs (many : Bool) (bytes : CrashBytes) (notes : List (List ℕ)) : Type 0 where
  pub program_accepted : program_fault bytes.program ≡ None
  pub core_accepted : core_image_fault bytes.core ≡ None
  pub noted : NotesSay many bytes.core (Ok notes)

-- as the trace asks for it
abbrev pub ReadsNotes : CrashBytes → List (List ℕ) → Type 0
ReadsNotes bytes notes = ReadsAs (is_several bytes.trace) bytes notes

-- the bytes of a crash, the descriptors of the register notes, and a run
pub record Opening : Type 0 where
  pub bytes : CrashBytes
  pub notes : List (List ℕ)
  pub run : Run

-- the crash that they tell, the run that ends in it, and its analysis in the domain that is asked
-- for
abbrev pub crash_at : Opening → Crash
crash_at o = crash_in o.bytes.program o.bytes.core o.notes

abbrev pub domain_at : Opening → Domain
domain_at o = o.bytes.manner.domain

abbrev pub run_at : (o : Opening) → CrashRun (SetsOf (domain_at o))
run_at o = crash_run (means_of (domain_at o)) (crash_at o) o.run

abbrev pub route_at : (o : Opening) → Trip (SetsOf (domain_at o))
route_at o = route_of (run_at o)

abbrev pub setting_at : (o : Opening) → Setting (SetsOf (domain_at o))
setting_at o = run_setting (run_at o)

-- what was loaded comes to the bytes of this crash: these were loaded, or the core file that was
-- lists its other files
abbrev pub IsCrashOf : Files → Loading → CrashBytes → Type 0
IsCrashOf files (Refused r) bytes = ⊥
IsCrashOf files (Loaded loaded) bytes = bytes ≡ loaded
IsCrashOf files (LoadedCore core) bytes = IsMappedAs (mapped_crash files core) bytes
IsCrashOf files (MadeRun seed steps) bytes = ⊥

-- the words and the files come to it: the files are accepted, this is what the notes hold, and of
-- the run that the trace tells this one is analysed
pub record Opens (words : List (List ℕ)) (files : Files) (o : Opening) : Type 0 where
  pub loaded : IsCrashOf files (loading words files) o.bytes
  pub read : ReadsNotes o.bytes o.notes
  pub told : IsRunFor (crash_at o) o.bytes.trace o.bytes.manner o.run
