-- The code of a program as the walk has it.
use Rattle.rept_dump.specs.Dump.{exe_of}
use Rattle.rept_dump.specs.Program.{contents}
use Rattle.rept_path.specs.declared.program.Program.{Program}
use Rattle.rept_path.specs.Code.{Code}

abbrev pub code_of : Program → Code
code_of program = record { contents = contents (exe_of program.dump); halves = program.halves }
