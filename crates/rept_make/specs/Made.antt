-- What a made crash is: its files, and the run that they come from.
use Rattle.std.specs.Prelude.{◌≡◌, ℕ, ◌+◌, ◌^◌, ◌<◌, List, ◌++◌, length, slice_get, slice_index, Ok, None, false}
use Rattle.rept_isa.specs.declared.row.StepRow.{StepRow}
use Rattle.rept_steps.specs.Linked.{EndBefore}
use Rattle.rept_elf.specs.Segments.{segments, greatest_end}
use Rattle.rept_elf.specs.Checks.{checks, first_failure}
use Rattle.rept_elf.specs.declared.fault.Want.TheVariants.{Exec, Core}
use Rattle.rept_dump.specs.Memory.{crash_byte, of_executable}
use Rattle.rept_dump.specs.Registers.{SaysRegisters, saved_pc, saved_register}
use Rattle.rept_machine.specs.State.{State}
use Rattle.rept_machine.specs.Execution.{Execution}
use Rattle.rept_trace.specs.Stream.{header, plain}
use Rattle.rept_path.specs.Code.{words as words_of}
use Rattle.rept_path.specs.Traced.{IsTracedPath}
use Rattle.rept_make.specs.declared.made.Made.{Made}
use Rattle.rept_make.specs.Files.{bytes_of_words, executable, core_file}
use Rattle.rept_make.specs.Laid.{laid}
use Rattle.rept_make.specs.Run.{AreMadeStates}
use Rattle.rept_make.specs.Words.{IsCode}

-- The registers, from the program counter on, and the data, from 0x20000 on, are those of a state.
pub record AreSaved (registers data_bytes : List ℕ) (next : ℕ) (s : State) : Type 0 where
  pub count : length registers ≡ 32
  pub pc : slice_index registers 0 ≡ next
  pub saved : (r : ℕ) → 0 < r → r < 32 → slice_index registers r ≡ s.register r
  pub size : length data_bytes ≡ 1024
  pub bytes : (i : ℕ) → i < 1024 → slice_index data_bytes i ≡ s.memory (131072 + i)

-- The files are those of a seed's code, 1,024 bytes to read and to run, and of its run of so many
-- steps; the trace tells its rows, and none is skipped. The run, each of whose memories is laid
-- over the program's bytes, is an execution of the rebuilt path that ends in the dump.
pub record IsMade (seed steps : ℕ) (made : Made) : Type 0 where
  pub words : List ℕ
  pub code : IsCode seed words
  pub exe : made.exe ≡ executable 1024 5 words
  pub rows : List StepRow
  pub run : ℕ → State
  pub is_run : AreMadeStates seed rows run
  pub count : length rows ≡ steps
  pub pc : ℕ
  pub ends : EndBefore rows pc
  pub registers : List ℕ
  pub data_bytes : List ℕ
  pub saved : AreSaved registers data_bytes pc (run (length rows))
  pub core : made.core ≡ core_file registers data_bytes
  pub exe_read : first_failure (checks Exec made.exe) ≡ None
  pub core_read : first_failure (checks Core made.core) ≡ None
  pub status : List ℕ
  pub notes : SaysRegisters (length made.core) (segments made.core) (Ok status)
  pub last_pc : saved_pc status ≡ pc
  pub rest : List ℕ
  pub layout : made.trace ≡ header false ++ rest
  pub few : length made.trace < 2 ^ 32
  pub path : IsTracedPath (record { code = words_of (of_executable made.exe); stream = plain false rest; from = 0; pc = pc }) 0 rows
  pub execution : (last : List ℕ) → length last ≡ 32 → ((r : ℕ) → 0 < r → r < 32 → slice_index last r ≡ saved_register status r) → Execution (greatest_end (segments made.exe)) rows (slice_get last) (crash_byte (of_executable made.exe) (segments made.core)) (λ i. laid (bytes_of_words words) (run i))
