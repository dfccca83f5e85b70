-- The causes of each status, and what a call leaves of its ports.
use Rattle.std.specs.Prelude.{◌≡◌, ◌⊎◌, ℕ, ◌≤◌, List, Option, Some, None, IfSome, MatchOption}
use Rattle.std.specs.Io.KnownBytes.{Appends}
use Rattle.rept_ports.specs.Causes.{Rose, OneFault}
use Rattle.rept_ports.specs.Port.{Port, PortMove, move}
use Rattle.rept_ports.specs.Shelves.{Files, Shelved}
use Rattle.rept_app.specs.Ends.{Stopped, Yields, FaultEnds, PortsEnd}
use Rattle.rept_app.specs.Examine.{FilesEnd}
use Rattle.rept_opening.specs.Lines.{status_of}
use Rattle.rept_opening.specs.Loading.{Loading, loading, FileFits, FitBefore, CoreFitBefore, IsOfCore, loads_to, core_loads_to}
use Rattle.rept_opening.specs.Loading.Loading.{Refused, Loaded, LoadedCore, MadeRun}
use Rattle.rept_opening.specs.Mapped.{mapped_crash}
use Rattle.rept_app.specs.Mapped.{NamesLoaded}
use Rattle.rept_app.specs.MappedEnds.{MappedEnd}
use Rattle.rept_app.specs.Told.{CallInput, CallTold}
use Rattle.rept_opening.specs.Words.Words.{CoreNames, Names, Meaning}
use Rattle.rept_opening.specs.Words.Words.Meaning.{Open, Maps, Made}
use Rattle.rept_opening.specs.declared.refusal.FileKind.{FileKind}
use Rattle.rept_opening.specs.declared.refusal.FileKind.TheVariants as file
use Rattle.rept_opening.specs.declared.status.ExitStatus.{ExitStatus}
use Rattle.rept_opening.specs.declared.status.ExitStatus.TheVariants as ends

-- the statuses of a file that is missing or too large
abbrev pub LacksFile : ExitStatus → Type 0
LacksFile status = (status ≡ ends.NoFile) ⊎ (status ≡ ends.TooLarge)

-- how a fault of the file store ends a call: a load failed; or, where the files aren't told, a file
-- is missing or too large
abbrev pub LoadEnds : Option Files → ExitStatus → Type 0
LoadEnds files status = (status ≡ ends.LoadFault) ⊎ MatchOption files (LacksFile status) (λ _. ⊥) ⊎ Stopped status

-- A status that tells a fault of a port comes only where that port counted one; where the files
-- aren't told, so do those of a file that is missing or too large. A fault of the input or the
-- output ends the call: no other is counted, and the status tells it, unless its line can't be
-- written. The files stay as they are.
pub record TopCauses (file_store : PortMove Shelved) (source sink : PortMove Port) (status : ExitStatus) : Type 0 where
  pub ports : PortsEnd source sink status
  pub load : status ≡ ends.LoadFault → Rose file_store.before.faults file_store.after.faults
  pub untold : MatchOption file_store.before.files (LacksFile status → OneFault file_store.before.faults file_store.after.faults) (λ _. Unit {0})
  pub later : file_store.before.faults ≤ file_store.after.faults
  pub files : file_store.after.files ≡ file_store.before.files

-- A fault of the file store ends the call: no other is counted, and the status tells it, unless its
-- line can't be written.
pub record FileStoreCauses (file_store : PortMove Shelved) (status : ExitStatus) : Type 0 where
  pub load : status ≡ ends.LoadFault → OneFault file_store.before.faults file_store.after.faults
  pub load_ends : FaultEnds file_store.before.faults file_store.after.faults (LoadEnds file_store.before.files status)

-- Which load of the three was the last: the files before it are there and within their limits. It
-- is that of the trace, unless the call ends with a load.
pub record LastLoad (names : Names) (file_store : PortMove Shelved) (status : ExitStatus) : Type 0 where
  pub last : FileKind
  pub before : IfSome file_store.before.files (λ files. FitBefore files names last)
  pub loads : file_store.after.loads ≡ loads_to last file_store.before.loads
  pub all : (last ≡ file.Trace) ⊎ (status ≡ ends.LoadFault) ⊎ LacksFile status ⊎ Stopped status

-- The load of the core file or that of the trace was the last, and ended the call: the core file is
-- there and within its limit, where it was loaded before.
pub record LastCoreLoad (names : CoreNames) (file_store : PortMove Shelved) (status : ExitStatus) : Type 0 where
  pub last : FileKind
  pub one : IsOfCore last
  pub before : IfSome file_store.before.files (λ files. CoreFitBefore files names last)
  pub loads : file_store.after.loads ≡ core_loads_to last file_store.before.loads
  pub ended : (status ≡ ends.LoadFault) ⊎ LacksFile status ⊎ Stopped status

-- Both were loaded, and then those files that the core file lists.
pub record MappedLoads (names : CoreNames) (file_store : PortMove Shelved) (status : ExitStatus) : Type 0 where
  pub core : List ℕ
  pub found : IfSome file_store.before.files (λ files. (files names.core ≡ Some core) × FileFits files file.Core names.core × FileFits files file.Trace names.trace)
  pub named : NamesLoaded core (move (core_loads_to file.Trace file_store.before.loads) file_store.after.loads) status

-- The loads of words that name files; there are none where memory ran out before.
abbrev pub LoadsOf : Option Meaning → PortMove Shelved → ExitStatus → Type 0
LoadsOf None file_store status = Unit {0}
LoadsOf (Some (Made seed steps)) file_store status = Unit {0}
LoadsOf (Some (Maps d names from)) file_store status = LastCoreLoad names file_store status ⊎ MappedLoads names file_store status ⊎ ((file_store.after ≡ file_store.before) × Stopped status)
LoadsOf (Some (Open d names from)) file_store status = LastLoad names file_store status ⊎ ((file_store.after ≡ file_store.before) × Stopped status)

-- a call that ends so, unless a file can't be loaded, the output fails, or memory runs out
abbrev pub EndsBy : ExitStatus → ExitStatus → Type 0
EndsBy expected status = (status ≡ expected) ⊎ (status ≡ ends.LoadFault) ⊎ Stopped status

-- How what was loaded ends the call: a refusal has its status; files that are there end it by what
-- they hold; a made run ends it well.
abbrev pub EndsAt : Files → Loading → ExitStatus → Type 0
EndsAt files (Refused r) status = EndsBy (status_of r) status
EndsAt files (Loaded bytes) status = FilesEnd bytes status ⊎ (status ≡ ends.LoadFault)
EndsAt files (LoadedCore bytes) status = MappedEnd (mapped_crash files bytes) status ⊎ (status ≡ ends.LoadFault)
EndsAt files (MadeRun seed steps) status = Yields ends.Ok status

-- each status comes where the words and the files say so
abbrev pub EndsByFiles : List (List ℕ) → Files → ExitStatus → Type 0
EndsByFiles words files status = EndsAt files (loading words files) status

-- no port counted a fault
pub record NoneFails (file_store : PortMove Shelved) (source sink : PortMove Port) : Type 0 where
  pub loaded : Rose file_store.before.faults file_store.after.faults → ⊥
  pub read : Rose source.before.faults source.after.faults → ⊥
  pub written : Rose sink.before.faults sink.after.faults → ⊥

-- all of the text is written, or memory ran out
abbrev pub Completes : CallInput → PortMove Port → ExitStatus → Type 0
Completes g sink status = (status ≡ ends.OutOfMemory) ⊎ ((text : List ℕ) × CallTold g text status × Appends sink.before.bytes sink.after.bytes text)

-- how words that ask for a made run end the call: well, whatever the ports are, unless the output
-- fails or memory runs out
abbrev pub AskedEnds : Option Meaning → ExitStatus → Type 0
AskedEnds None status = Unit {0}
AskedEnds (Some (Maps d names from)) status = Unit {0}
AskedEnds (Some (Open d names from)) status = Unit {0}
AskedEnds (Some (Made seed steps)) status = Yields ends.Ok status
