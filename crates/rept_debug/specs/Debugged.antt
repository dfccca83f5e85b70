-- A dialog over the report of a crash, and why there is none. This project's own.
use Rattle.std.specs.Prelude.{◌≡◌, ◌⊎◌, ℕ, suc, List, [], ◌∷◌, ◌++◌, None, Some, Result, Ok, MatchOption, MatchResult, codes, slice_get, string_bytes}
use Rattle.std.specs.Fmt.{decimal}
use Rattle.std.specs.Io.KnownBytes.{Appends}
use Rattle.rept_elf.specs.Header.{half_at}
use Rattle.rept_elf.specs.Image.{file_of}
use Rattle.rept_ports.specs.Causes.{OneFault, AppendsPrefix}
use Rattle.rept_maps.specs.declared.fault.MapFault.{MapFault}
use Rattle.rept_maps.specs.Mapfiles.Kept.{asked_names, loads_after}
use Rattle.rept_ports.specs.Port.{Port, PortMove, move}
use Rattle.rept_ports.specs.Shelves.{Files, Shelved}
use Rattle.rept_path.specs.declared.fault.PathFault.{PathFault}
use Rattle.rept_steps.specs.declared.run.Run.{Run}
use Rattle.rept_streams.specs.Runs.Kind.{is_several}
use Rattle.rept_found.specs.Crash.{note_at}
use Rattle.rept_findings.specs.Shown.{SessionTold}
use Rattle.rept_debug.specs.Dialog.Converse.{Parties, Converses, parties_over}
use Rattle.rept_debug.specs.Dialog.Greeting.{IsGreeting}
use Rattle.rept_debug.specs.Dialog.Onward.{GoesOn}
use Rattle.rept_debug.specs.declared.dialog.conversation.SessionEnd.{SessionEnd}
use Rattle.rept_stub.specs.CrashFiles.{AreFilesOf, program_of}
use Rattle.rept_debug.specs.declared.dialog.greeting.Greeting.{Greeting}
use Rattle.rept_debug.specs.declared.talk.OpenDialog.{OpenDialog}
use Rattle.rept_stub.specs.declared.answers.Setting.{Setting}
use Rattle.rept_stub.specs.declared.files.ProcessFiles.{ProcessFiles}
use Rattle.rept_opening.specs.Forms.{core_image_fault}
use Rattle.rept_opening.specs.Lines.{status_of}
use Rattle.rept_opening.specs.Loading.{CrashBytes, CoreBytes, ComesTo, ComesToCore, Loading, core_loads_to, loading, loads_to}
use Rattle.rept_opening.specs.Loading.Loading.{Loaded, LoadedCore, MadeRun, Refused}
use Rattle.rept_opening.specs.Mapped.{IsMappedAs, ListSays, MappedCrash, mapped_bytes, mapped_crash}
use Rattle.rept_opening.specs.Reading.{HasNoCrash}
use Rattle.rept_opening.specs.Report.{HasNoReport}
use Rattle.rept_opening.specs.Opened.{CrashRun, CrashTrace, IsAccountOf, IsCrashOf, ReadsNotes, RunAccount, run_in, told_in, trace_in}
use Rattle.rept_opening.specs.TraceRun.{IsRunFor}
use Rattle.rept_opening.specs.True.{IsTrue, IsTrueBeyond}
use Rattle.rept_opening.specs.declared.refusal.FileKind.{FileKind}
use Rattle.rept_opening.specs.declared.refusal.FileKind.TheVariants as file
use Rattle.rept_opening.specs.declared.refusal.Refusal.{Refusal}
use Rattle.rept_opening.specs.declared.refusal.Refusal.TheVariants as refusal
use Rattle.rept_opening.specs.declared.status.ExitStatus.{ExitStatus}
use Rattle.rept_opening.specs.declared.status.ExitStatus.TheVariants as ends
use Rattle.rept_debug.specs.Begin.{BeginsAt, NeverBegins, beginning}
use Rattle.rept_debug.specs.declared.no_talk.GdbError.{GdbError}
use Rattle.rept_debug.specs.declared.no_talk.GdbError.TheVariants as no_talk
use Rattle.rept_debug.specs.declared.talk.GdbSession.{GdbSession}

-- the three streams, before a call and after it
pub record Streams : Type 0 where
  pub input : PortMove Port
  pub output : PortMove Port
  pub errors : PortMove Port

abbrev pub streams : PortMove Port → PortMove Port → PortMove Port → Streams
streams input output errors = record { input = input; output = output; errors = errors }

-- the line that tells from which packet the run was rebuilt, where that isn't the one that was
-- asked for
abbrev pub notice_line : ℕ → List ℕ
notice_line from = codes "the path begins at packet " ++ decimal from ++ 10 ∷ []

-- the line was written, and no fault was counted; or one was
abbrev pub IsWritten : ℕ → PortMove Port → Type 0
IsWritten from errors =
    (Appends errors.before.bytes errors.after.bytes (notice_line from) × (errors.after.faults ≡ errors.before.faults))
    ⊎ (AppendsPrefix errors.before.bytes errors.after.bytes (notice_line from) × OneFault errors.before.faults errors.after.faults)

-- of a dialog that was held: nothing was written, where the run begins at the packet that was asked
-- for; else the line
abbrev pub IsNoticed : ℕ → ℕ → PortMove Port → Type 0
IsNoticed asked from errors = ((from ≡ asked) × (errors.after ≡ errors.before)) ⊎ IsWritten from errors

-- of a crash that is refused: nothing was written; or such a line
abbrev pub Notices : PortMove Port → Type 0
Notices errors = (errors.after ≡ errors.before) ⊎ ((from : ℕ) × IsWritten from errors)

-- what is told besides what a session tells: how many packets were left out, the signal, and what
-- the files hold
abbrev pub setting_of : ℕ → ℕ → ProcessFiles → Setting
setting_of skipped signal files = record { skipped = skipped; signal = signal; files = files }

-- who talks: what a session tells of an account of the run; the signal of the first thread's
-- register note (`pr_cursig` of `struct elf_prstatus`, at 12); what the files hold; and a debugger
-- that stands at the end
abbrev pub dialog_over : {W : Type 0} → CrashRun W → ProcessFiles → RunAccount → Parties
dialog_over p files a = parties_over (told_in p a) (setting_of a.skipped (half_at (note_at p.crash 0) 12) files)

-- a dialog that began before the report goes on over what a session tells, with the signal of the
-- crash and what its files hold
abbrev pub HoldsDialog : OpenDialog → SessionTold → ℕ → PortMove Port → PortMove Port → SessionEnd → Type 0
HoldsDialog d t signal source sink end = GoesOn (parties_over t (setting_of t.skipped signal d.files)) d.greeting source sink end

-- What was read and answered where there is no dialog over a report: nothing; or all packets up to
-- the first one that needs a report.
abbrev pub MayGreet : PortMove Port → PortMove Port → Type 0
MayGreet source sink = ((source.after ≡ source.before) × (sink.after ≡ sink.before)) ⊎ ((g : Greeting) × IsGreeting source sink g)

-- what arrived was answered over an account of the run, and over its files
pub record TalksOver {W : Type 0} (p : CrashRun W) (files : ProcessFiles) (source sink : PortMove Port) (end : SessionEnd) : Type 0 where
  pub account : RunAccount
  pub report : IsAccountOf p account
  pub talks : Converses (dialog_over p files account) source sink end

-- the run that is analysed of a trace, and what was answered over it and over the files of the crash
pub record IsHeldTrace (t : CrashTrace) (files : ProcessFiles) (io : Streams) (talk : GdbSession) : Type 0 where
  pub run : Run
  pub is : IsRunFor t.crash t.trace (beginning t.manner talk.from) run
  pub begins : BeginsAt t.crash t.trace t.manner.from talk.from
  pub noticed : IsNoticed t.manner.from talk.from io.errors
  pub over : TalksOver (run_in t run) files io.input io.output talk.end

-- the trace tells no run; or it tells one, and that is refused
abbrev pub IsRefusedTrace : CrashTrace → Refusal → Type 0
IsRefusedTrace t r =
    ((fault : PathFault) × NeverBegins t.crash t.trace t.manner.from fault × (r ≡ refusal.Path fault))
    ⊎ ((from : ℕ) × (run : Run) × BeginsAt t.crash t.trace t.manner.from from × IsRunFor t.crash t.trace (beginning t.manner from) run × HasNoReport (run_in t run) r)
    ⊎ (status_of r ≡ ends.OutOfMemory)

-- the files are accepted, and their trace was answered
pub record IsHeld (bytes : CrashBytes) (io : Streams) (talk : GdbSession) : Type 0 where
  pub notes : List (List ℕ)
  pub read : ReadsNotes bytes notes
  pub files : ProcessFiles
  pub core : file_of files.core ≡ bytes.core
  pub program : program_of files.program ≡ bytes.program
  pub are : AreFilesOf files
  pub held : IsHeldTrace (trace_in bytes notes) files io talk

-- the files are refused; or their trace is
abbrev pub IsRefusedCrash : CrashBytes → Refusal → Type 0
IsRefusedCrash bytes r = HasNoCrash (is_several bytes.trace) bytes r ⊎ ((notes : List (List ℕ)) × ReadsNotes bytes notes × IsRefusedTrace (trace_in bytes notes) r)

-- the core file and its list are accepted, and the trace was answered over the crash with the files
-- of that list
pub record IsHeldMapped (m : MappedCrash) (io : Streams) (talk : GdbSession) : Type 0 where
  pub bytes : CrashBytes
  pub is : IsMappedAs m bytes
  pub held : IsHeld bytes io talk

-- the core file is refused as an image; or its list is; or the crash with the files of that list is
abbrev pub IsRefusedMapped : MappedCrash → Refusal → Type 0
IsRefusedMapped m r =
    MatchOption (core_image_fault m.bytes.core)
    ((said : Result (List ℕ) MapFault) × ListSays m.bytes.core said × MatchResult said (λ desc. IsRefusedCrash (mapped_bytes m desc) r) (λ fault. r ≡ refusal.Maps fault))
    (λ fault. r ≡ refusal.CoreImage fault)

-- The load of the file of this name, which is one of those that the core file lists, failed: it was
-- the last.
pub record NameStops (m : MappedCrash) (asked : PortMove ℕ) (name : List ℕ) : Type 0 where
  pub accepted : core_image_fault m.bytes.core ≡ None
  pub desc : List ℕ
  pub listed : ListSays m.bytes.core (Ok desc)
  pub place : ℕ
  pub named : slice_get (asked_names desc) place ≡ Some name
  pub loads : asked.after ≡ loads_after (suc place) asked.before

-- why nothing is answered of a core file that lists the files of its program
abbrev pub IsUnheld : MappedCrash → PortMove ℕ → GdbError → Type 0
IsUnheld m asked (no_talk.Refused r) = IsRefusedMapped m r ⊎ (status_of r ≡ ends.OutOfMemory)
IsUnheld m asked (no_talk.LoadFault name) = NameStops m asked (string_bytes name)

-- the load of a name failed, or there was no memory to tell it
abbrev pub IsLoadFault : List ℕ → GdbError → Type 0
IsLoadFault name (no_talk.Refused r) = r ≡ refusal.OutOfMemory
IsLoadFault name (no_talk.LoadFault told) = string_bytes told ≡ name

abbrev pub status_of_no_talk : GdbError → ExitStatus
status_of_no_talk (no_talk.Refused r) = status_of r
status_of_no_talk (no_talk.LoadFault name) = ends.LoadFault

-- the words and the files come to a crash; what arrived was answered over its report; all that the
-- report tells holds in every execution of the run that ends in the crash; and so does what was
-- inferred beyond it in every admitted one
pub record IsDebugged (words : List (List ℕ)) (files : Files) (io : Streams) (talk : GdbSession) : Type 0 where
  pub bytes : CrashBytes
  pub loaded : IsCrashOf files (loading words files) bytes
  pub held : IsHeld bytes io talk
  pub holds : IsTrue (run_in (trace_in bytes held.notes) held.held.run) held.held.over.account.known
  pub beyond : IsTrueBeyond (run_in (trace_in bytes held.notes) held.held.run) held.held.over.account

-- why nothing is answered of what was loaded: it is refused; or the words ask for a made run
abbrev pub IsRefusedLoading : Files → Loading → Refusal → Type 0
IsRefusedLoading files (Refused named) r = r ≡ named
IsRefusedLoading files (Loaded bytes) r = IsRefusedCrash bytes r
IsRefusedLoading files (LoadedCore bytes) r = IsRefusedMapped (mapped_crash files bytes) r
IsRefusedLoading files (MadeRun seed steps) r = r ≡ refusal.Usage

-- Why nothing is answered: the words have no meaning, or ask for a made run; a file is missing or
-- too large; the crash is refused; a load failed, after those before it; or memory ran out.
abbrev pub HasNoTalk : List (List ℕ) → Files → PortMove Shelved → GdbError → Type 0
HasNoTalk words files file_store (no_talk.Refused r) =
    IsRefusedLoading files (loading words files) r
    ⊎ ((kind : FileKind) × (r ≡ refusal.LoadFault kind) × ((ComesTo words files kind × (file_store.after.loads ≡ loads_to kind file_store.before.loads)) ⊎ (ComesToCore words files kind × (file_store.after.loads ≡ core_loads_to kind file_store.before.loads))))
    ⊎ (status_of r ≡ ends.OutOfMemory)
HasNoTalk words files file_store (no_talk.LoadFault name) =
    (core : CoreBytes) × (loading words files ≡ LoadedCore core)
    × NameStops (mapped_crash files core) (move (core_loads_to file.Trace file_store.before.loads) file_store.after.loads) (string_bytes name)
