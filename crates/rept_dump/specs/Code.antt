-- The executable whose code is looked up.
use Rattle.std.specs.Prelude.{List}
use Rattle.rept_elf.specs.Segments.{ElfSegment}
use Rattle.rept_elf.specs.Image.{file_of, segments_of}
use Rattle.rept_dump.specs.Memory.{Contents, of_executable}
use Rattle.rept_dump.specs.declared.code.Code.{Code}

-- its segments
abbrev pub parts_of : Code → List ElfSegment
parts_of code = segments_of code.exe

-- what it holds
abbrev pub code_of : Code → Contents
code_of code = of_executable (file_of code.exe)
