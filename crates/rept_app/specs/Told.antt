-- What the program writes, and with which status.
use Rattle.std.specs.Prelude.{◌≡◌, ◌⊎◌, ℕ, List, [], ◌∷◌, ◌++◌, Option, Some, Result, MatchOption, MatchResult, codes}
use Rattle.rept_dump.specs.declared.fault.CoreFault.{CoreFault}
use Rattle.rept_maps.specs.declared.fault.MapFault.{MapFault}
use Rattle.rept_path.specs.declared.fault.PathFault.{PathFault}
use Rattle.rept_steps.specs.declared.run.Run.{Run}
use Rattle.rept_ports.specs.Port.{PortMove, move}
use Rattle.rept_ports.specs.Shelves.{Files, Shelved}
use Rattle.rept_session.specs.Serving.Serving.{Reading}
use Rattle.rept_make.specs.Made.{IsMade}
use Rattle.rept_make.specs.declared.made.Made.{Made}
use Rattle.rept_opening.specs.Words.Words.{meaning_of}
use Rattle.rept_opening.specs.Words.Words.Meaning.{Made as MadeWords}
use Rattle.rept_opening.specs.declared.words.request.Domain.TheVariants as domain
use Rattle.rept_opening.specs.Delivered.{SaysRefusal}
use Rattle.rept_opening.specs.Forms.{program_fault, core_image_fault}
use Rattle.rept_app.specs.Held.{Replies, CutOff}
use Rattle.rept_opening.specs.Loading.{CrashBytes, crash_bytes, CoreBytes, Loading, loading, ComesTo, ComesToCore, loads_to, core_loads_to}
use Rattle.rept_opening.specs.Loading.Loading.{Refused, Loaded, LoadedCore, MadeRun}
use Rattle.rept_opening.specs.Mapped.{MappedCrash, mapped_crash, mapped_bytes, ListSays}
use Rattle.rept_app.specs.Mapped.{NameFails}
use Rattle.rept_opening.specs.TraceRun.{IsRunFor, HasNoRunOf}
use Rattle.rept_opening.specs.declared.refusal.FileKind.{FileKind}
use Rattle.rept_opening.specs.declared.refusal.FileKind.TheVariants as file
use Rattle.rept_opening.specs.declared.refusal.Refusal.TheVariants as refusal
use Rattle.rept_opening.specs.declared.status.ExitStatus.{ExitStatus}
use Rattle.rept_app.specs.Conflict.{TellsConflict}
use Rattle.rept_opening.specs.Opened.{CrashRun, IsAccountOf, RunAccount, CrashTrace, run_in, told_in, trace_in, CoreSays, ReadsNotes, Opening, crash_at, run_at, Opens}

-- A conflict is told; or the report answers the input, with what was inferred beyond it.
abbrev pub Analysed : {W : Type 0} → CrashRun W → List ℕ → List ℕ → ExitStatus → Type 0
Analysed p input text status =
    TellsConflict p text status
    ⊎ ((a : RunAccount) × IsAccountOf p a × Replies (told_in p a) input text status)

-- The trace tells no run, for a reason that the line tells; or it tells one, and a run is analysed
-- for it.
abbrev pub WalkedTrace : CrashTrace → List ℕ → List ℕ → ExitStatus → Type 0
WalkedTrace t input text status =
    ((fault : PathFault) × HasNoRunOf t.crash t.trace t.manner.from fault × SaysRefusal (refusal.Path fault) text status)
    ⊎ ((run : Run) × IsRunFor t.crash t.trace t.manner run × Analysed (run_in t run) input text status)

-- The core file's notes are refused; or they give the registers, and the trace is walked.
abbrev pub NotesTold : CrashBytes → List ℕ → List ℕ → ExitStatus → Type 0
NotesTold bytes input text status =
    (said : Result (List (List ℕ)) CoreFault) × CoreSays bytes said
    × MatchResult said (λ notes. WalkedTrace (trace_in bytes notes) input text status) (λ fault. SaysRefusal (refusal.Core fault) text status)

-- The program's executable is refused; or the core file is refused as an image; or its notes are
-- read.
abbrev pub Examined : CrashBytes → List ℕ → List ℕ → ExitStatus → Type 0
Examined bytes input text status =
    MatchOption (program_fault bytes.program) (MatchOption (core_image_fault bytes.core) (NotesTold bytes input text status) (λ fault. SaysRefusal (refusal.CoreImage fault) text status))
    (λ fault. SaysRefusal (refusal.Executable fault) text status)

-- The core file is refused as an image; or its list of mapped files is; or the crash with the files
-- of that list is examined.
abbrev pub MappedTold : MappedCrash → List ℕ → List ℕ → ExitStatus → Type 0
MappedTold m input text status =
    MatchOption (core_image_fault m.bytes.core)
    ((said : Result (List ℕ) MapFault) × ListSays m.bytes.core said × MatchResult said (λ desc. Examined (mapped_bytes m desc) input text status) (λ fault. SaysRefusal (refusal.Maps fault) text status))
    (λ fault. SaysRefusal (refusal.CoreImage fault) text status)

-- the input that is answered of a made run: the command `summary`
abbrev pub summary_line : List ℕ
summary_line = codes "summary" ++ 10 ∷ []

-- the files of a made crash, from the first packet on, with values followed as ranges
abbrev pub made_bytes : Made → CrashBytes
made_bytes made = crash_bytes made.exe made.core made.trace (record { from = 0; domain = domain.Ranges })

-- what is written of a made run: what the files of its crash tell, answering `summary`
abbrev pub Summed : ℕ → ℕ → List ℕ → ExitStatus → Type 0
Summed seed steps text status = (made : Made) × IsMade seed steps made × Examined (made_bytes made) summary_line text status

-- the files of a made crash come to it
pub record OpensMade (made : Made) (o : Opening) : Type 0 where
  pub bytes : o.bytes ≡ made_bytes made
  pub read : ReadsNotes o.bytes o.notes
  pub told : IsRunFor (crash_at o) o.bytes.trace o.bytes.manner o.run

-- the session over the report of a made run was cut short
abbrev pub SumCut : ℕ → ℕ → List ℕ → ExitStatus → Type 0
SumCut seed steps text status =
    (made : Made) × IsMade seed steps made × (o : Opening) × OpensMade made o × (a : RunAccount) × IsAccountOf (run_at o) a
    × (left : Option (List ℕ)) × CutOff (told_in (run_at o) a) (record { input = summary_line; left = left }) text status

-- What a call was given, where its ports tell it: its words, the files, how many loads the file
-- store was asked for before the call and after it, and the bytes of the input with those that are
-- left of it.
pub record CallInput : Type 0 where
  pub words : List (List ℕ)
  pub files : Files
  pub loads : PortMove ℕ
  pub reading : Reading

abbrev pub call_input : List (List ℕ) → Files → PortMove Shelved → Reading → CallInput
call_input words files file_store reading = record {
  words = words;
  files = files;
  loads = move file_store.before.loads file_store.after.loads;
  reading = reading;
}

-- what is written of what was loaded
abbrev pub ToldOf : CallInput → Loading → List ℕ → ExitStatus → Type 0
ToldOf g (Refused r) text status = SaysRefusal r text status
ToldOf g (Loaded bytes) text status = Examined bytes g.reading.input text status
ToldOf g (LoadedCore bytes) text status = MappedTold (mapped_crash g.files bytes) g.reading.input text status
ToldOf g (MadeRun seed steps) text status = Summed seed steps text status

-- Words, files and input that are all there: the text that is written, and the status. The cases
-- stand in the order in which they are looked at: the words, the files, the executable, the core
-- file, its list of mapped files where the words ask for it, the trace and its path, the analysis,
-- the input.
abbrev pub CallTold : CallInput → List ℕ → ExitStatus → Type 0
CallTold g text status = ToldOf g (loading g.words g.files) text status

-- A load failed, which is that of the file that the line names: one of three, one of two, or one of
-- those that the core file lists. Those of the command line that come before it are there and
-- within their limits.
abbrev pub LoadFailed : CallInput → List ℕ → ExitStatus → Type 0
LoadFailed g text status =
    ((kind : FileKind) × ComesTo g.words g.files kind × (g.loads.after ≡ loads_to kind g.loads.before) × SaysRefusal (refusal.LoadFault kind) text status)
    ⊎ ((kind : FileKind) × ComesToCore g.words g.files kind × (g.loads.after ≡ core_loads_to kind g.loads.before) × SaysRefusal (refusal.LoadFault kind) text status)
    ⊎ ((core : CoreBytes) × (loading g.words g.files ≡ LoadedCore core) × NameFails (mapped_crash g.files core) (move (core_loads_to file.Trace g.loads.before) g.loads.after) text status)

-- A call that was cut short: a load failed; memory ran out; or, where all came to a report, the
-- session was cut short; or that over a made run was.
abbrev pub Interrupted : CallInput → List ℕ → ExitStatus → Type 0
Interrupted g text status =
    LoadFailed g text status
    ⊎ SaysRefusal refusal.OutOfMemory text status
    ⊎ ((o : Opening) × (a : RunAccount) × Opens g.words g.files o × IsAccountOf (run_at o) a × CutOff (told_in (run_at o) a) g.reading text status)
    ⊎ ((seed : ℕ) × (steps : ℕ) × (meaning_of g.words ≡ Some (MadeWords seed steps)) × SumCut seed steps text status)

-- what is written where the output doesn't fail
abbrev pub CallWrites : CallInput → List ℕ → ExitStatus → Type 0
CallWrites g text status = CallTold g text status ⊎ Interrupted g text status
