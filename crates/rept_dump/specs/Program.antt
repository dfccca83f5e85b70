-- The files of a program, and what they hold. This project's own.
use Rattle.std.specs.Prelude.{ℕ, List, true, Option, None}
use Rattle.rept_elf.specs.Symbols as elf
use Rattle.rept_maps.specs.Mapped.Mapped.{Mapping, mapped_word, mapped_half, mapped_byte, mapped_symbol}
use Rattle.rept_dump.specs.Memory.{Contents, of_executable}

-- the files of a program: the bytes of its executable, or the files that the process had mapped
pub data Program : Type 0 where
  OneFile : List ℕ → Program
  MappedFiles : List Mapping → Program

-- what mapped files hold; how far their images reach isn't known
abbrev pub of_mappings : List Mapping → Contents
of_mappings ms = record { word = mapped_word ms; half = mapped_half ms; kept = mapped_byte ms; symbol = mapped_symbol ms; end = 0; mapped = true }

-- what the files of a program hold
abbrev pub contents : Program → Contents
contents (OneFile file) = of_executable file
contents (MappedFiles ms) = of_mappings ms

-- the address that a program gives to a name: that of its executable; mapped files give none
abbrev pub address_named : Program → List ℕ → Option ℕ
address_named (OneFile file) name = elf.address_named file name
address_named (MappedFiles ms) name = None
