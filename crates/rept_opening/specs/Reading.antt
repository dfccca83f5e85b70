-- What an executable and a core file are read as, or the first reason why they aren't (ELF-32
-- Object File Format; Linux core notes of RISC-V).
use Rattle.std.specs.Prelude.{◌≡◌, ℕ, Bool, false, List, [], ◌∷◌, length, slice_get, Some, None, Result, Ok, Err, MatchBool, MatchOption}
use Rattle.rept_elf.specs.Segments.{ElfSegment, segments}
use Rattle.rept_dump.specs.Dump.{registers_of, threads_of, HasThreads}
use Rattle.rept_dump.specs.Program.Program.{OneFile}
use Rattle.rept_dump.specs.Registers.{SaysOfAll, SaysRegisters}
use Rattle.rept_dump.specs.declared.dump.Dump.{Dump}
use Rattle.rept_dump.specs.declared.fault.CoreFault.{CoreFault}
use Rattle.rept_streams.specs.Runs.Told.{AreNotesApart}
use Rattle.rept_found.specs.Crash.{crash_of}
use Rattle.rept_opening.specs.Forms.{executable_fault, program_fault, core_image_fault, crash_in}
use Rattle.rept_opening.specs.Loading.{CrashBytes}
use Rattle.rept_opening.specs.declared.refusal.Refusal.{Refusal}
use Rattle.rept_opening.specs.declared.refusal.Refusal.TheVariants as refusal

-- what the notes of a core file of so many bytes say where there is one thread: the descriptor of
-- the only register note, or why they don't give it
abbrev pub SaysOfOne : ℕ → List ElfSegment → Result (List (List ℕ)) CoreFault → Type 0
SaysOfOne size ss (Ok notes) = (note : List ℕ) × SaysRegisters size ss (Ok note) × (notes ≡ note ∷ [])
SaysOfOne size ss (Err fault) = SaysRegisters size ss (Err fault)

-- what the notes of a core file say where there may be many threads, and where there is one: the
-- descriptors of the register notes, one of each thread, or why they don't give them
abbrev pub NotesSay : Bool → List ℕ → Result (List (List ℕ)) CoreFault → Type 0
NotesSay many core said = MatchBool many (SaysOfAll (length core) (segments core) said) (SaysOfOne (length core) (segments core) said)

-- These are the register notes of a dump, one of each of its threads, no two of one process; its
-- own registers are those of the first.
pub record AreNotesOf (dump : Dump) (notes : List (List ℕ)) : Type 0 where
  pub threads : HasThreads dump notes
  pub count : threads_of dump ≡ length notes
  pub first : slice_get notes 0 ≡ Some (registers_of dump)
  pub apart : AreNotesApart notes

-- the dump has them; and where there may not be many threads there is one
pub record HasNotes (many : Bool) (dump : Dump) : Type 0 where
  pub notes : List (List ℕ)
  pub are : AreNotesOf dump notes
  pub one : many ≡ false → threads_of dump ≡ 1

-- both files are accepted, the dump has the notes, and they say nothing else
pub record IsDumpOf (many : Bool) (exe core : List ℕ) (dump : Dump) : Type 0 where
  pub exe_accepted : executable_fault exe ≡ None
  pub core_accepted : core_image_fault core ≡ None
  pub notes : List (List ℕ)
  pub are : AreNotesOf dump notes
  pub noted : NotesSay many core (Ok notes)
  pub only : (said : Result (List (List ℕ)) CoreFault) → NotesSay many core said → said ≡ Ok notes
  pub crash : crash_of dump notes ≡ crash_in (OneFile exe) core notes

-- the notes are refused, and say nothing else
abbrev pub NotesRefuse : Bool → List ℕ → Refusal → Type 0
NotesRefuse many core r =
    (fault : CoreFault) × NotesSay many core (Err fault)
    × ((said : Result (List (List ℕ)) CoreFault) → NotesSay many core said → said ≡ Err fault) × (r ≡ refusal.Core fault)

-- the executable is refused; or the core file as an image; or its notes
abbrev pub HasNoDump : Bool → List ℕ → List ℕ → Refusal → Type 0
HasNoDump many exe core r = MatchOption (executable_fault exe) (MatchOption (core_image_fault core) (NotesRefuse many core r) (λ fault. r ≡ refusal.CoreImage fault)) (λ fault. r ≡ refusal.Executable fault)

-- the same of a crash
abbrev pub HasNoCrash : Bool → CrashBytes → Refusal → Type 0
HasNoCrash many bytes r = MatchOption (program_fault bytes.program) (MatchOption (core_image_fault bytes.core) (NotesRefuse many bytes.core r) (λ fault. r ≡ refusal.CoreImage fault)) (λ fault. r ≡ refusal.Executable fault)
