-- What is read of an executable and of a core file (ELF-32 Object File Format; Linux core notes of
-- RISC-V).
use Rattle.std.specs.Prelude.{ℕ, List, Option, None}
use Rattle.rept_dump.specs.Program.{Program}
use Rattle.rept_dump.specs.Program.Program.{OneFile, MappedFiles}
use Rattle.rept_elf.specs.Segments.{segments}
use Rattle.rept_elf.specs.Checks.{checks, first_failure}
use Rattle.rept_elf.specs.declared.fault.ElfFault.{ElfFault}
use Rattle.rept_elf.specs.declared.fault.Want.TheVariants as want
use Rattle.rept_found.specs.Crash.{Crash}

-- why an executable is refused, None where it is accepted
abbrev pub executable_fault : List ℕ → Option ElfFault
executable_fault exe = first_failure (checks want.Exec exe)

-- why the files of a program are refused: its executable. Mapped files are never, since those that
-- are refused are left out.
abbrev pub program_fault : Program → Option ElfFault
program_fault (OneFile exe) = executable_fault exe
program_fault (MappedFiles ms) = None

-- why a core file is refused as an image
abbrev pub core_image_fault : List ℕ → Option ElfFault
core_image_fault core = first_failure (checks want.Core core)

-- the crash that a program's files, a core file and the descriptors of its register notes tell
abbrev pub crash_in : Program → List ℕ → List (List ℕ) → Crash
crash_in program core notes = record { exe = program; core = segments core; notes = notes }
