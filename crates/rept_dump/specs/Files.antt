-- The files of a program as the code has them.
use Rattle.rept_elf.specs.Image.{file_of}
use Rattle.rept_maps.specs.Mapped.Mappings.{mappings_of}
use Rattle.rept_dump.specs.Code.{code_of}
use Rattle.rept_dump.specs.Memory.{Contents}
use Rattle.rept_dump.specs.Program.{Program}
use Rattle.rept_dump.specs.Program.Program.{OneFile, MappedFiles}
use Rattle.rept_dump.specs.declared.executable.Executable.{Executable}
use Rattle.rept_dump.specs.declared.files.Files.{Files}
use Rattle.rept_dump.specs.declared.files.Files.TheVariants as files

-- what an executable holds
abbrev pub held_in : Executable → Contents
held_in e = code_of e.code

-- the executable as a program
abbrev pub program_in : Executable → Program
program_in e = OneFile (file_of e.code.exe)

abbrev pub program_of : Files → Program
program_of (files.Executable e) = program_in e
program_of (files.Mapped m) = MappedFiles (mappings_of m)
