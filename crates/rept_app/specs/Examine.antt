-- What is written of the bytes of a crash.
use Rattle.std.specs.Prelude.{◌≡◌, ◌⊎◌, ℕ, List, Result, MatchOption, MatchResult}
use Rattle.rept_dump.specs.declared.fault.CoreFault.{CoreFault}
use Rattle.rept_path.specs.declared.fault.PathFault.{PathFault}
use Rattle.rept_steps.specs.declared.run.Run.{Run}
use Rattle.rept_ports.specs.Port.{Port, PortMove}
use Rattle.rept_report.specs.Closure.{ClosureHas, IsConsistent}
use Rattle.rept_report.specs.declared.conflict.ConflictKind.{ConflictKind}
use Rattle.rept_session.specs.Serving.Serving.{Reading}
use Rattle.rept_opening.specs.Delivered.{SaysRefusal}
use Rattle.rept_app.specs.Ends.{Yields, EndsSession, PortsEnd}
use Rattle.rept_opening.specs.Forms.{program_fault, core_image_fault, crash_in}
use Rattle.rept_app.specs.Held.{CutOff}
use Rattle.rept_opening.specs.Loading.{CrashBytes}
use Rattle.rept_app.specs.Conflict.{EndsReport}
use Rattle.rept_opening.specs.Opened.{CrashRun, CoreSays, RunAccount, run_setting, told_in, CrashTrace, trace_in, run_in, ReadsNotes, IsAccountOf}
use Rattle.rept_app.specs.Told.{WalkedTrace, Examined}
use Rattle.rept_opening.specs.TraceRun.{IsRunFor, HasNoRunOf}
use Rattle.rept_opening.specs.True.{IsExcluded}
use Rattle.rept_opening.specs.declared.refusal.Refusal.TheVariants as refusal
use Rattle.rept_opening.specs.declared.status.ExitStatus.{ExitStatus}
use Rattle.rept_opening.specs.declared.status.ExitStatus.TheVariants as ends

-- the session over the run's report was cut short
abbrev pub WalkCut : CrashTrace → Reading → List ℕ → ExitStatus → Type 0
WalkCut t reading text status =
    (run : Run) × (a : RunAccount) × IsRunFor t.crash t.trace t.manner run × IsAccountOf (run_in t run) a × CutOff (told_in (run_in t run) a) reading text status

-- all of it; or memory ran out; or the session was cut short
abbrev pub WalksTrace : CrashTrace → Reading → List ℕ → ExitStatus → Type 0
WalksTrace t reading text status = WalkedTrace t reading.input text status ⊎ SaysRefusal refusal.OutOfMemory text status ⊎ WalkCut t reading text status

abbrev pub Examines : CrashBytes → Reading → List ℕ → ExitStatus → Type 0
Examines bytes reading text status =
    Examined bytes reading.input text status ⊎ SaysRefusal refusal.OutOfMemory text status
    ⊎ ((notes : List (List ℕ)) × ReadsNotes bytes notes × WalkCut (trace_in bytes notes) reading text status)

-- how the analysis of a run ends the call
pub record RunYields {W : Type 0} (p : CrashRun W) (status : ExitStatus) : Type 0 where
  pub conflict : (kind : ConflictKind) → ClosureHas (run_setting p) kind → Yields ends.Inconsistent status
  pub report : IsConsistent (run_setting p) → EndsReport p status

-- How a trace ends the call, whatever the input is. Its status comes only where it tells no run.
pub record WalkYields (t : CrashTrace) (status : ExitStatus) : Type 0 where
  pub refused : (fault : PathFault) → HasNoRunOf t.crash t.trace t.manner.from fault → Yields ends.Trace status
  pub walked : (run : Run) → IsRunFor t.crash t.trace t.manner run → RunYields (run_in t run) status
  pub only : status ≡ ends.Trace → (fault : PathFault) × HasNoRunOf t.crash t.trace t.manner.from fault

-- how what the notes say ends the call
abbrev pub NoteYields : CrashBytes → Result (List (List ℕ)) CoreFault → ExitStatus → Type 0
NoteYields bytes said status = MatchResult said (λ notes. WalkYields (trace_in bytes notes) status) (λ _. Yields ends.Core status)

-- how the files end the call
abbrev pub FilesEnd : CrashBytes → ExitStatus → Type 0
FilesEnd bytes status =
    MatchOption (program_fault bytes.program)
    (MatchOption (core_image_fault bytes.core) ((said : Result (List (List ℕ)) CoreFault) → CoreSays bytes said → NoteYields bytes said status) (λ _. Yields ends.Core status))
    (λ _. Yields ends.Executable status)

-- the statuses of a run that is told
abbrev pub IsRunStatus : ExitStatus → Type 0
IsRunStatus status = (status ≡ ends.Inconsistent) ⊎ EndsSession status

-- the statuses of a trace that is walked
abbrev pub IsWalkStatus : ExitStatus → Type 0
IsWalkStatus status = (status ≡ ends.Trace) ⊎ IsRunStatus status

-- each fault has its cause and ends the call, and each status comes where the trace says so
pub record IsWalked (t : CrashTrace) (source sink : PortMove Port) (status : ExitStatus) : Type 0 where
  pub ports : PortsEnd source sink status
  pub yields : WalkYields t status
  pub ends_so : IsWalkStatus status

-- the same of the files
pub record IsExamined (bytes : CrashBytes) (source sink : PortMove Port) (status : ExitStatus) : Type 0 where
  pub ports : PortsEnd source sink status
  pub yields : FilesEnd bytes status
  pub ends_so : (status ≡ ends.Executable) ⊎ (status ≡ ends.Core) ⊎ IsWalkStatus status

-- a session may have been held, since the trace tells a run whose closure has no conflict
abbrev pub WalkHolds : CrashTrace → ExitStatus → Type 0
WalkHolds t status = ((run : Run) × IsRunFor t.crash t.trace t.manner run × IsConsistent (run_setting (run_in t run))) × EndsSession status

-- the same of the files
abbrev pub FilesHold : CrashBytes → ExitStatus → Type 0
FilesHold bytes status =
    ((notes : List (List ℕ)) × (run : Run) × ReadsNotes bytes notes × IsRunFor (crash_in bytes.program bytes.core notes) bytes.trace bytes.manner run × IsConsistent (run_setting (run_in (trace_in bytes notes) run)))
    × EndsSession status

-- no execution of the run ends in the crash
abbrev pub TraceExcludes : CrashTrace → Type 0
TraceExcludes t = (run : Run) → IsRunFor t.crash t.trace t.manner run → IsExcluded (run_in t run)

abbrev pub FilesExclude : CrashBytes → Type 0
FilesExclude bytes = (notes : List (List ℕ)) → ReadsNotes bytes notes → TraceExcludes (trace_in bytes notes)
