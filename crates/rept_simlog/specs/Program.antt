-- The code of an executable as the walk has it, and whether it may be compressed: bit 0 of the
-- field `e_flags`, which stands at byte 36 of the file (System V ABI, the ELF header; RISC-V ELF
-- psABI, `EF_RISCV_RVC`).
use Rattle.std.specs.Prelude.{ℕ, ◌%◌, ◌==◌, List, Bool, slice_index}
use Rattle.rept_dump.specs.Code as dump
use Rattle.rept_dump.specs.Memory.{of_executable}
use Rattle.rept_isa.specs.declared.instr.Instr.{Instr}
use Rattle.rept_path.specs.Code.{Code, is_short}
use Rattle.rept_encode.specs.declared.step.Site.{Site}
use Rattle.rept_simlog.specs.declared.program.LoggedProgram.{LoggedProgram}

abbrev pub program_of : LoggedProgram → Code
program_of program = record { contents = dump.code_of program.code; halves = program.halves }

abbrev pub is_compressed : List ℕ → Bool
is_compressed exe = slice_index exe 36 % 2 == 1

-- the code of an executable
abbrev pub built : List ℕ → Code
built exe = record { contents = of_executable exe; halves = is_compressed exe }

-- an instruction at an address, with its length
abbrev pub site_of : Code → ℕ → Instr → Site
site_of code a instr = record { at = a; instr = instr; short = is_short code a }
