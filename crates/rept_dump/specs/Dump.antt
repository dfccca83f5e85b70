-- What a dump borrows: the files of its program, the core file's segments, and the descriptor of
-- the register note.
use Rattle.std.specs.Prelude.{◌≡◌, ℕ, List, [], ◌∷◌, length, slice_get, Some, Result, Ok, Err, IfOk, IfErr}
use Rattle.rept_elf.specs.Segments.{ElfSegment}
use Rattle.rept_elf.specs.Image.{file_of, segments_of}
use Rattle.rept_dump.specs.Files.{program_of}
use Rattle.rept_dump.specs.Program.{Program}
use Rattle.rept_dump.specs.Registers.{HaveThreads, SaysOfAll, SaysRegisters}
use Rattle.rept_dump.specs.declared.fault.CoreFault.{CoreFault}
use Rattle.rept_dump.specs.declared.dump.Dump.{Dump}

-- the files of the program
abbrev pub exe_of : Dump → Program
exe_of dump = program_of dump.files

-- the segments of the core file
abbrev pub core_of : Dump → List ElfSegment
core_of dump = segments_of dump.core

-- the descriptor of the register note
abbrev pub registers_of : Dump → List ℕ
registers_of dump = dump.registers.now

-- how many threads it has
abbrev pub threads_of : Dump → ℕ
threads_of dump = dump.threads

-- the descriptors of all register notes of the core file, in their order
abbrev pub HasThreads : Dump → List (List ℕ) → Type 0
HasThreads dump descs = HaveThreads (length (file_of dump.core)) (segments_of dump.core) descs

-- it is of one thread, whose registers it has
pub record IsOfOne (dump : Dump) : Type 0 where
  pub threads : HasThreads dump (registers_of dump ∷ [])
  pub count : threads_of dump ≡ 1

-- what was said of the core file's notes
abbrev pub said_of : Result Dump CoreFault → Result (List ℕ) CoreFault
said_of (Ok dump) = Ok (registers_of dump)
said_of (Err fault) = Err fault

-- the dump, or the fault, is what the notes of a core file of so many bytes say, and they say
-- nothing else
pub record AreRead (size : ℕ) (ss : List ElfSegment) (result : Result Dump CoreFault) : Type 0 where
  pub said : SaysRegisters size ss (said_of result)
  pub only : (said : Result (List ℕ) CoreFault) → SaysRegisters size ss said → said ≡ said_of result
  pub one : IfOk result IsOfOne

-- the same of all threads
pub record AreReadOfAll (size : ℕ) (ss : List ElfSegment) (result : Result Dump CoreFault) : Type 0 where
  pub ok : IfOk result (λ dump. (descs : List (List ℕ)) × SaysOfAll size ss (Ok descs) × HasThreads dump descs × (slice_get descs 0 ≡ Some (registers_of dump)) × (threads_of dump ≡ length descs))
  pub err : IfErr result (λ fault. SaysOfAll size ss (Err fault))
  pub only_ok : (descs : List (List ℕ)) → SaysOfAll size ss (Ok descs) → IfErr result (λ _. ⊥)
  pub only_err : (fault : CoreFault) → SaysOfAll size ss (Err fault) → result ≡ Err fault
