-- What is written of a crash whose core file lists the files of its program, and how it ends the
-- call.
use Rattle.std.specs.Prelude.{◌≡◌, ◌⊎◌, ℕ, List, Result, MatchOption, MatchResult, IfSome}
use Rattle.rept_maps.specs.declared.fault.MapFault.{MapFault}
use Rattle.rept_ports.specs.Port.{Port, PortMove, move}
use Rattle.rept_ports.specs.Shelves.{Shelved}
use Rattle.rept_session.specs.Serving.Serving.{Reading}
use Rattle.rept_opening.specs.Delivered.{SaysRefusal}
use Rattle.rept_app.specs.Ends.{Yields, PortsEnd}
use Rattle.rept_app.specs.Examine.{FilesEnd, FilesExclude, FilesHold, IsWalkStatus, WalkCut}
use Rattle.rept_opening.specs.Forms.{core_image_fault}
use Rattle.rept_opening.specs.Loading.{CrashBytes, CoreBytes}
use Rattle.rept_opening.specs.Mapped.{MappedCrash, mapped_crash, mapped_bytes, IsMappedAs, ListSays}
use Rattle.rept_app.specs.Mapped.{NameFails, NamesLoaded, NamesMove}
use Rattle.rept_app.specs.Told.{MappedTold}
use Rattle.rept_opening.specs.Opened.{ReadsNotes, trace_in}
use Rattle.rept_opening.specs.declared.refusal.Refusal.TheVariants as refusal
use Rattle.rept_opening.specs.declared.status.ExitStatus.{ExitStatus}
use Rattle.rept_opening.specs.declared.status.ExitStatus.TheVariants as ends

-- What a call is given that examines a core file: the crash, how many loads the file store was
-- asked for before and after, and the bytes of the input with those that are left of it.
pub record MappedCall : Type 0 where
  pub crash : MappedCrash
  pub loads : PortMove ℕ
  pub reading : Reading

abbrev pub mapped_call : MappedCrash → PortMove ℕ → Reading → MappedCall
mapped_call crash loads reading = record { crash = crash; loads = loads; reading = reading }

-- all of it; or memory ran out; or the load of a mapped file failed; or the session was cut short
abbrev pub ExaminesMapped : MappedCall → List ℕ → ExitStatus → Type 0
ExaminesMapped c text status =
    MappedTold c.crash c.reading.input text status ⊎ SaysRefusal refusal.OutOfMemory text status ⊎ NameFails c.crash c.loads text status
    ⊎ ((bytes : CrashBytes) × (notes : List (List ℕ)) × IsMappedAs c.crash bytes × ReadsNotes bytes notes × WalkCut (trace_in bytes notes) c.reading text status)

-- how what the core file's list says ends the call
abbrev pub ListEnds : MappedCrash → Result (List ℕ) MapFault → ExitStatus → Type 0
ListEnds m said status = MatchResult said (λ desc. FilesEnd (mapped_bytes m desc) status) (λ _. Yields ends.Core status)

-- how the core file and the files that it lists end the call
abbrev pub MappedEnd : MappedCrash → ExitStatus → Type 0
MappedEnd m status = MatchOption (core_image_fault m.bytes.core) ((said : Result (List ℕ) MapFault) → ListSays m.bytes.core said → ListEnds m said status) (λ _. Yields ends.Core status)

-- What a call does to its three ports.
pub record PortMoves : Type 0 where
  pub file_store : PortMove Shelved
  pub source : PortMove Port
  pub sink : PortMove Port

abbrev pub port_moves : PortMove Shelved → PortMove Port → PortMove Port → PortMoves
port_moves file_store source sink = record { file_store = file_store; source = source; sink = sink }

-- Each fault has its cause, and each status comes where the core file and the files that it lists
-- say so: where these are told, they decide on it, unless a load fails.
pub record IsExaminedMapped (bytes : CoreBytes) (m : PortMoves) (status : ExitStatus) : Type 0 where
  pub ports : PortsEnd m.source m.sink status
  pub file_store : NamesMove m.file_store status
  pub loads : NamesLoaded bytes.core (move m.file_store.before.loads m.file_store.after.loads) status
  pub ends_so : (status ≡ ends.LoadFault) ⊎ (status ≡ ends.Core) ⊎ IsWalkStatus status
  pub yields : IfSome m.file_store.before.files (λ files. MappedEnd (mapped_crash files bytes) status ⊎ (status ≡ ends.LoadFault))

-- a session may have been held, since the trace tells a run whose closure has no conflict
abbrev pub MappedHolds : MappedCrash → ExitStatus → Type 0
MappedHolds m status = (bytes : CrashBytes) × IsMappedAs m bytes × FilesHold bytes status

-- no execution of the run ends in the crash
abbrev pub MappedExcludes : MappedCrash → Type 0
MappedExcludes m = (bytes : CrashBytes) → IsMappedAs m bytes → FilesExclude bytes
