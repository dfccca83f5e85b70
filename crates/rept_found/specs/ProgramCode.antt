-- The code of a program, which a session tells at each moment: that it doesn't change is an
-- assumption. Its bytes are those of the executable segments of the files. They are told where the
-- program surely has code: where a step was executed, and in the functions that the files name.
-- This project's own.
use Rattle.std.specs.Prelude.{ℕ, ◌+◌, ◌-◌, ◌/◌, ◌%◌, ◌^◌, Bool, ◌||◌, ◌&&◌, ◌==◌, nat_le, nat_lt, Option, None, Some, is_some, if◌then◌else◌}
use Rattle.std.specs.List.{list_any}
use Rattle.rept_isa.specs.declared.row.StepRow.{StepRow}
use Rattle.rept_steps.specs.Course.{Course}
use Rattle.rept_dump.specs.Memory.{Contents}

-- how many bytes an executed instruction takes
abbrev pub size_of : StepRow → ℕ
size_of row = if row.short then 2 else 4

-- one of them has this address
abbrev pub takes : ℕ → StepRow → Bool
takes a row = nat_le row.at a && nat_lt a (row.at + size_of row)

-- a step of some thread was executed there
abbrev pub is_executed : Course → ℕ → Bool
is_executed C a = list_any (λ thread. list_any (takes a) thread.steps) C.threads

-- the program has code at this address
abbrev pub is_code : Course → Contents → ℕ → Bool
is_code C files a = is_some (files.symbol a) || is_executed C a

-- the byte at an address of the half of code that has it: it begins at an even address, with its
-- low byte
abbrev pub byte_of_half : ℕ → ℕ → ℕ
byte_of_half a half = if a % 2 == 0 then half % 2 ^ 8 else half / 2 ^ 8

abbrev pub code_of_half : Course → Contents → ℕ → Option ℕ → Option ℕ
code_of_half C files a None = None
code_of_half C files a (Some half) = if is_code C files a then Some (byte_of_half a half) else None

-- the byte of code at an address
abbrev pub code_byte : Course → Contents → ℕ → Option ℕ
code_byte C files a = code_of_half C files a (files.half (a - a % 2))
