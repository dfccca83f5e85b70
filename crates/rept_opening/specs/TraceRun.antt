-- The run of a trace file, of one stream or of several, over a program and the threads of its core
-- file; and the run that is analysed. This project's own.
use Rattle.std.specs.Prelude.{◌≡◌, ◌≢◌, ◌⊎◌, ℕ, ◌<◌, List, length, Bool, false, Result, IfOk, IfErr, MatchBool, MatchResult}
use Rattle.rept_dump.specs.Dump.{threads_of}
use Rattle.rept_dump.specs.declared.dump.Dump.{Dump}
use Rattle.rept_steps.specs.Course.{IsSoundCourse}
use Rattle.rept_steps.specs.Runs.{course_of, run_of_one}
use Rattle.rept_steps.specs.declared.run.Run.{Run}
use Rattle.rept_timeline.specs.Small.{IsSmall}
use Rattle.rept_streams.specs.Runs.Kind.{is_several}
use Rattle.rept_streams.specs.Runs.Ended.{IsEndedRun}
use Rattle.rept_streams.specs.Runs.Told.{Traced, IsTracedRun, HasNoTracedRun}
use Rattle.rept_path.specs.declared.fault.PathFault.{PathFault}
use Rattle.rept_path.specs.declared.fault.PathFault.TheVariants.{OutOfMemory}
use Rattle.rept_path.specs.declared.rebuilding.Path.{Path}
use Rattle.rept_found.specs.Crash.{Crash}
use Rattle.rept_opening.specs.Path.{IsTracePath, HasNoPath}
use Rattle.rept_opening.specs.declared.load.OpenOptions.{OpenOptions}
use Rattle.rept_opening.specs.declared.words.request.Domain.{Domain}
use Rattle.rept_opening.specs.declared.words.request.Domain.TheVariants as domain

-- what the run of a trace of several streams is told by: the program, the threads of the register
-- notes, the bytes, and the packet of each stream from which on its window may begin
abbrev pub traced_in : Crash → List ℕ → ℕ → Traced
traced_in crash trace from = record { program = crash.exe; notes = crash.notes; trace = trace; from = from }

-- The streams tell this run of the threads of the core file.
abbrev pub IsSharedRun : Crash → List ℕ → ℕ → Run → Type 0
IsSharedRun crash trace from run = IsTracedRun (traced_in crash trace from) run

-- The streams tell no run, for this reason. Want of memory is none.
pub record HasNoSharedRun (crash : Crash) (trace : List ℕ) (from : ℕ) (fault : PathFault) : Type 0 where
  pub refused : HasNoTracedRun (traced_in crash trace from) fault
  pub reason : fault ≢ OutOfMemory

-- The one stream tells a path, and this is the run of the one thread that took it.
abbrev pub IsRunAlone : Crash → List ℕ → ℕ → Run → Type 0
IsRunAlone crash trace from run = (path : Path) × IsTracePath crash trace from path × (run ≡ run_of_one path.steps path.skipped)

-- the run of a trace of several streams, which begins with `RTR2`; or else of one
abbrev pub IsRunOf : Crash → List ℕ → ℕ → Run → Type 0
IsRunOf crash trace from run = MatchBool (is_several trace) (IsSharedRun crash trace from run) (IsRunAlone crash trace from run)

abbrev pub HasNoRunOf : Crash → List ℕ → ℕ → PathFault → Type 0
HasNoRunOf crash trace from fault = MatchBool (is_several trace) (HasNoSharedRun crash trace from fault) (HasNoPath crash trace from fault)

-- What was read of a trace is the run that it tells, or why it tells none: there is no other run,
-- and no other reason. Want of memory is none of the definition's.
pub record IsRunRead (crash : Crash) (trace : List ℕ) (from : ℕ) (result : Result Run PathFault) : Type 0 where
  pub run : IfOk result (IsRunOf crash trace from)
  pub refusal : IfErr result (λ e. (e ≡ OutOfMemory) ⊎ HasNoRunOf crash trace from e)
  pub only_run : (other : Run) → IsRunOf crash trace from other → MatchResult result (λ run. run ≡ other) (λ e. e ≡ OutOfMemory)
  pub only_refusal : (fault : PathFault) → HasNoRunOf crash trace from fault → MatchResult result (λ _. ⊥) (λ e. (e ≡ OutOfMemory) ⊎ (e ≡ fault))
  pub reason : (fault : PathFault) → HasNoRunOf crash trace from fault → fault ≢ OutOfMemory

-- whether the run that is analysed has an untraced prefix that ends as early as its streams allow:
-- by `infer`, of a trace of several streams
abbrev pub ends_early : Domain → List ℕ → Bool
ends_early domain.Ranges trace = false
ends_early domain.KnownBits trace = false
ends_early domain.Inferred trace = is_several trace

-- The run that is analysed, by the one that the trace tells: the told one, or that with the earlier
-- end.
abbrev pub IsRunBy : OpenOptions → List ℕ → Run → Run → Type 0
IsRunBy manner trace told run = MatchBool (ends_early manner.domain trace) (IsEndedRun trace manner.from told run) (run ≡ told)

-- the trace tells a run, and of that this one is analysed
abbrev pub IsRunFor : Crash → List ℕ → OpenOptions → Run → Type 0
IsRunFor crash trace manner run = (told : Run) × IsRunOf crash trace manner.from told × IsRunBy manner trace told run

-- What was read of a trace is the run that is analysed, or why the trace tells none: there is no
-- other run, and no other reason. Want of memory is none of the definition's.
pub record IsRunFound (crash : Crash) (trace : List ℕ) (manner : OpenOptions) (result : Result Run PathFault) : Type 0 where
  pub run : IfOk result (IsRunFor crash trace manner)
  pub refusal : IfErr result (λ e. (e ≡ OutOfMemory) ⊎ HasNoRunOf crash trace manner.from e)
  pub only_run : (other : Run) → IsRunFor crash trace manner other → MatchResult result (λ run. run ≡ other) (λ e. e ≡ OutOfMemory)
  pub only_refusal : (fault : PathFault) → HasNoRunOf crash trace manner.from fault → MatchResult result (λ _. ⊥) (λ e. (e ≡ OutOfMemory) ⊎ (e ≡ fault))
  pub reason : (fault : PathFault) → HasNoRunOf crash trace manner.from fault → fault ≢ OutOfMemory

-- The run can be analysed as one that ends in the dump: it is sound and small enough, and has one
-- thread for each of the dump's, of which there are some.
pub record FitsDump (dump : Dump) (run : Run) : Type 0 where
  pub sound : IsSoundCourse (course_of run)
  pub small : IsSmall (course_of run)
  pub threads : threads_of dump ≡ length run.threads
  pub some : 0 < length run.threads
