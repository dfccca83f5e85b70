-- The notes of a core file that is accepted beside its executable, one of each thread (ELF-32
-- Object File Format; Linux core notes of RISC-V).
use Rattle.std.specs.Prelude.{◌≡◌, ℕ, List, length, Option, None, Ok}
use Rattle.rept_elf.specs.Segments.{segments}
use Rattle.rept_elf.specs.Checks.{checks, first_failure}
use Rattle.rept_elf.specs.declared.fault.ElfFault.{ElfFault}
use Rattle.rept_elf.specs.declared.fault.Want.TheVariants as want
use Rattle.rept_dump.specs.Registers.{SaysOfAll}

-- the bytes of the executable and the core file
pub record OneFileBytes : Type 0 where
  pub exe : List ℕ
  pub core : List ℕ

-- why the executable is refused, and why the core file is as an image; None where it is accepted
abbrev pub executable_fault : OneFileBytes → Option ElfFault
executable_fault b = first_failure (checks want.Exec b.exe)

abbrev pub core_image_fault : OneFileBytes → Option ElfFault
core_image_fault b = first_failure (checks want.Core b.core)

-- both are accepted, and the notes of the core file are these, one of each thread
pub record HasThreadNotes (b : OneFileBytes) (descs : List (List ℕ)) : Type 0 where
  pub executable : executable_fault b ≡ None
  pub core_image : core_image_fault b ≡ None
  pub said : SaysOfAll (length b.core) (segments b.core) (Ok descs)
