-- What the words and the files come to, before the files are read.
use Rattle.std.specs.Prelude.{◌≡◌, ◌⊎◌, ℕ, ◌+◌, ◌≤◌, List, [], length, Option, None, Some, MatchOption, IfSome, Result, OnOk, nat_lt, if◌then◌else◌}
use Rattle.rept_ports.specs.Causes.{Rose, next_count}
use Rattle.rept_ports.specs.Port.{PortMove}
use Rattle.rept_ports.specs.Shelves.{Files, Shelved, IsOver}
use Rattle.rept_dump.specs.Program.{Program}
use Rattle.rept_maps.specs.Mapped.Mapped.{Mapping}
use Rattle.rept_dump.specs.Program.Program.{OneFile, MappedFiles}
use Rattle.rept_opening.specs.Words.Words.{CoreNames, Names, Meaning, meaning_of}
use Rattle.rept_opening.specs.Words.Words.Meaning.{Open, Maps, Made}
use Rattle.rept_opening.specs.declared.words.request.Domain.{Domain}
use Rattle.rept_opening.specs.declared.words.request.Domain.TheVariants as domain
use Rattle.rept_opening.specs.declared.load.LoadedRequest.{LoadedRequest}
use Rattle.rept_opening.specs.declared.load.LoadedRequest.TheVariants as asked
use Rattle.rept_opening.specs.declared.load.OpenOptions.{OpenOptions}
use Rattle.rept_opening.specs.declared.refusal.FileKind.{FileKind}
use Rattle.rept_opening.specs.declared.refusal.FileKind.TheVariants as file
use Rattle.rept_opening.specs.declared.refusal.Refusal.{Refusal}
use Rattle.rept_opening.specs.declared.refusal.Refusal.TheVariants as refusal

-- the files of the program, the bytes of the core file and the trace; the number of the packet to
-- begin from, and the domain of values
pub record CrashBytes : Type 0 where
  pub program : Program
  pub core : List ℕ
  pub trace : List ℕ
  pub manner : OpenOptions

-- those of a program that is one executable
abbrev pub crash_bytes : List ℕ → List ℕ → List ℕ → OpenOptions → CrashBytes
crash_bytes exe core trace manner = record { program = OneFile exe; core = core; trace = trace; manner = manner }

-- the same without the files of the program, which the core file lists
pub record CoreBytes : Type 0 where
  pub core : List ℕ
  pub trace : List ℕ
  pub manner : OpenOptions

abbrev pub core_bytes : List ℕ → List ℕ → OpenOptions → CoreBytes
core_bytes core trace manner = record { core = core; trace = trace; manner = manner }

-- these with mapped files of the program
abbrev pub parts_bytes : List Mapping → CoreBytes → CrashBytes
parts_bytes ms c = record { program = MappedFiles ms; core = c.core; trace = c.trace; manner = c.manner }

-- a refusal; or the bytes of three files; or those of two, of which the core file lists others; or
-- the seed and the count of steps of a made run, for which nothing is loaded
pub data Loading : Type 0 where
  Refused : Refusal → Loading
  Loaded : CrashBytes → Loading
  LoadedCore : CoreBytes → Loading
  MadeRun : ℕ → ℕ → Loading

-- the most bytes of a file: 64 MiB, 256 MiB and 16 MiB
abbrev pub limit_of : FileKind → ℕ
limit_of file.Exe = 67108864
limit_of file.Core = 268435456
limit_of file.Trace = 16777216

-- one file: it must be there, and within its limit
abbrev pub fetched : FileKind → Option (List ℕ) → (List ℕ → Loading) → Loading
fetched kind None next = Refused (refusal.NoFile kind)
fetched kind (Some bytes) next = if nat_lt (limit_of kind) (length bytes) then Refused (refusal.TooLarge kind) else next bytes

-- the three files, one after the other
abbrev pub fetched_all : Files → Names → OpenOptions → Loading
fetched_all files names manner =
    fetched file.Exe (files names.exe) (λ exe. fetched file.Core (files names.core) (λ core. fetched file.Trace (files names.trace) (λ trace. Loaded (crash_bytes exe core trace manner))))

-- the core file and the trace, one after the other
abbrev pub fetched_core : Files → CoreNames → OpenOptions → Loading
fetched_core files names manner = fetched file.Core (files names.core) (λ core. fetched file.Trace (files names.trace) (λ trace. LoadedCore (core_bytes core trace manner)))

-- the packet to begin from: the first one, where the words name none
abbrev pub first_packet : Option ℕ → ℕ
first_packet None = 0
first_packet (Some from) = from

abbrev pub manner_of : Domain → Option ℕ → OpenOptions
manner_of d from = record { from = first_packet from; domain = d }

abbrev pub loading_by : Files → Option Meaning → Loading
loading_by files None = Refused refusal.Usage
loading_by files (Some (Made seed steps)) = MadeRun seed steps
loading_by files (Some (Maps d names from)) = fetched_core files names (manner_of d from)
loading_by files (Some (Open d names from)) = fetched_all files names (manner_of d from)

-- what words and files come to: no meaning, a made run, the first file that is missing or too
-- large, or all files
abbrev pub loading : List (List ℕ) → Files → Loading
loading words files = loading_by files (meaning_of words)

-- the file of that name is there and within the limit
abbrev pub FileFits : Files → FileKind → List ℕ → Type 0
FileFits files kind name = (bytes : List ℕ) × (files name ≡ Some bytes) × (length bytes ≤ limit_of kind)

-- the files that are loaded before this one are there and within their limits
abbrev pub FitBefore : Files → Names → FileKind → Type 0
FitBefore files names file.Exe = Unit {0}
FitBefore files names file.Core = FileFits files file.Exe names.exe
FitBefore files names file.Trace = FileFits files file.Exe names.exe × FileFits files file.Core names.core

-- the name of a file
abbrev pub name_of : Names → FileKind → List ℕ
name_of names file.Exe = names.exe
name_of names file.Core = names.core
name_of names file.Trace = names.trace

-- how many loads a file store was asked for when it was asked for this file, of the three in their
-- order
abbrev pub loads_to : FileKind → ℕ → ℕ
loads_to file.Exe loads = next_count loads
loads_to file.Core loads = next_count (next_count loads)
loads_to file.Trace loads = next_count (next_count (next_count loads))

-- the same of a core file and a trace, which are loaded without an executable
abbrev pub CoreFitBefore : Files → CoreNames → FileKind → Type 0
CoreFitBefore files names file.Exe = ⊥
CoreFitBefore files names file.Core = Unit {0}
CoreFitBefore files names file.Trace = FileFits files file.Core names.core

abbrev pub core_name_of : CoreNames → FileKind → List ℕ
core_name_of names file.Exe = []
core_name_of names file.Core = names.core
core_name_of names file.Trace = names.trace

abbrev pub core_loads_to : FileKind → ℕ → ℕ
core_loads_to file.Exe loads = loads
core_loads_to file.Core loads = next_count loads
core_loads_to file.Trace loads = next_count (next_count loads)

-- the file is one of these two
abbrev pub IsOfCore : FileKind → Type 0
IsOfCore file.Exe = ⊥
IsOfCore file.Core = Unit {0}
IsOfCore file.Trace = Unit {0}

-- the words name three files, of which those before this one are there and within their limits
abbrev pub ComesTo : List (List ℕ) → Files → FileKind → Type 0
ComesTo words files kind = (d : Domain) × (names : Names) × (from : Option ℕ) × (meaning_of words ≡ Some (Open d names from)) × FitBefore files names kind

-- the words name a core file and a trace, and what is loaded before this one is there and within
-- its limit
abbrev pub ComesToCore : List (List ℕ) → Files → FileKind → Type 0
ComesToCore words files kind = (d : Domain) × (names : CoreNames) × (from : Option ℕ) × (meaning_of words ≡ Some (Maps d names from)) × CoreFitBefore files names kind

-- Why this file isn't loaded: by the files where they are told, and otherwise by the count of the
-- file store's faults.
abbrev pub LoadRefuses : PortMove Shelved → List ℕ → FileKind → Refusal → Type 0
LoadRefuses file_store name kind (refusal.LoadFault k) = (k ≡ kind) × Rose file_store.before.faults file_store.after.faults
LoadRefuses file_store name kind (refusal.NoFile k) =
    (k ≡ kind) × MatchOption file_store.before.files (Rose file_store.before.faults file_store.after.faults) (λ files. (files name ≡ None) × (file_store.after.faults ≡ file_store.before.faults))
LoadRefuses file_store name kind (refusal.TooLarge k) =
    (k ≡ kind) × MatchOption file_store.before.files (Rose file_store.before.faults file_store.after.faults) (λ files. IsOver files name (limit_of kind) × (file_store.after.faults ≡ file_store.before.faults))
LoadRefuses file_store name kind refusal.OutOfMemory = Unit {0}
LoadRefuses file_store name kind other = ⊥

-- The last load was that of this file: those before it were loaded, and it is refused.
pub record IsLastLoad (file_store : PortMove Shelved) (names : Names) (kind : FileKind) (r : Refusal) : Type 0 where
  pub before : IfSome file_store.before.files (λ files. FitBefore files names kind)
  pub loads : file_store.after.loads ≡ loads_to kind file_store.before.loads
  pub why : LoadRefuses file_store (name_of names kind) kind r

-- the same of a core file and a trace
pub record CoreStopsAt (file_store : PortMove Shelved) (names : CoreNames) (kind : FileKind) (r : Refusal) : Type 0 where
  pub one : IsOfCore kind
  pub before : IfSome file_store.before.files (λ files. CoreFitBefore files names kind)
  pub loads : file_store.after.loads ≡ core_loads_to kind file_store.before.loads
  pub why : LoadRefuses file_store (core_name_of names kind) kind r

-- why the words or the files that they name don't come to files that are loaded: by the words, or
-- by the file whose load was the last
abbrev pub MeaningStops : Option Meaning → PortMove Shelved → Refusal → Type 0
MeaningStops None file_store r = (r ≡ refusal.Usage) × (file_store.after ≡ file_store.before)
MeaningStops (Some (Made seed steps)) file_store r = ⊥
MeaningStops (Some (Maps d names from)) file_store r = (kind : FileKind) × CoreStopsAt file_store names kind r
MeaningStops (Some (Open d names from)) file_store r = (kind : FileKind) × IsLastLoad file_store names kind r

-- why no files are loaded: there was no memory to read the words, or by these
abbrev pub LoadingStops : Option Meaning → PortMove Shelved → Refusal → Type 0
LoadingStops m file_store r = ((r ≡ refusal.OutOfMemory) × (file_store.after ≡ file_store.before)) ⊎ MeaningStops m file_store r

-- words that name no files, for which no load is made
abbrev pub NamesNone : Option Meaning → Type 0
NamesNone None = Unit {0}
NamesNone (Some (Made seed steps)) = Unit {0}
NamesNone (Some (Maps d names from)) = ⊥
NamesNone (Some (Open d names from)) = ⊥

-- what all loads do to a file store: its files stay, at most one fault is counted, and none where
-- all files are loaded
pub record FileStoreMoves {T E : Type 0} (file_store : PortMove Shelved) (result : Result T E) : Type 0 where
  pub files : file_store.after.files ≡ file_store.before.files
  pub later : file_store.before.faults ≤ file_store.after.faults
  pub once : file_store.after.faults ≤ file_store.before.faults + 1
  pub calm : OnOk result (file_store.after.faults ≡ file_store.before.faults)

-- all three files were loaded
pub record AllLoaded (names : Names) (file_store : PortMove Shelved) : Type 0 where
  pub before : IfSome file_store.before.files (λ files. FitBefore files names file.Trace)
  pub loads : file_store.after.loads ≡ loads_to file.Trace file_store.before.loads

-- the words name three files, and all of them were loaded
abbrev pub LoadsAll : Option Meaning → PortMove Shelved → Type 0
LoadsAll None file_store = ⊥
LoadsAll (Some (Made seed steps)) file_store = ⊥
LoadsAll (Some (Maps d names from)) file_store = ⊥
LoadsAll (Some (Open d names from)) file_store = AllLoaded names file_store

-- the core file, of these bytes, and the trace were loaded
pub record BothLoaded (names : CoreNames) (core : List ℕ) (file_store : PortMove Shelved) : Type 0 where
  pub found : IfSome file_store.before.files (λ files. (files names.core ≡ Some core) × FileFits files file.Core names.core × FileFits files file.Trace names.trace)
  pub loads : file_store.after.loads ≡ core_loads_to file.Trace file_store.before.loads

-- the words name a core file and a trace, and both were loaded
abbrev pub LoadsBoth : Option Meaning → List ℕ → PortMove Shelved → Type 0
LoadsBoth None core file_store = ⊥
LoadsBoth (Some (Made seed steps)) core file_store = ⊥
LoadsBoth (Some (Maps d names from)) core file_store = BothLoaded names core file_store
LoadsBoth (Some (Open d names from)) core file_store = ⊥

-- what was loaded, or is to be made
abbrev pub asked_for : LoadedRequest → Loading
asked_for (asked.Files l) = Loaded (crash_bytes l.exe.items l.core.items l.trace.items l.manner)
asked_for (asked.Maps l) = LoadedCore (core_bytes l.core.items l.trace.items l.manner)
asked_for (asked.Made seed steps) = MadeRun seed steps

-- All files that the words name were loaded, and the trace is within its limit; or the words ask
-- for a made run, and the file store is as it was.
abbrev pub IsAsked : LoadedRequest → Option Meaning → PortMove Shelved → Type 0
IsAsked (asked.Files l) m file_store = LoadsAll m file_store × (length l.trace.items ≤ limit_of file.Trace)
IsAsked (asked.Maps l) m file_store = LoadsBoth m l.core.items file_store × (length l.trace.items ≤ limit_of file.Trace)
IsAsked (asked.Made seed steps) m file_store = (m ≡ Some (Made seed steps)) × (file_store.after ≡ file_store.before)

-- Each load that counts a fault ends the call: so it is of all words but those that ask for mapped
-- files, and of these too where the file store tells its files. Else each mapped file that is
-- passed over may count one.
abbrev pub FaultsEnd : Option Meaning → Option Files → Type 0
FaultsEnd None files = Unit {0}
FaultsEnd (Some (Made seed steps)) files = Unit {0}
FaultsEnd (Some (Maps d names from)) files = MatchOption files ⊥ (λ _. Unit {0})
FaultsEnd (Some (Open d names from)) files = Unit {0}
