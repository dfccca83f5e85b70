-- How many of a row's registers and bytes are known. This project's own.
use Rattle.std.specs.Prelude.{ℕ, ◌+◌, min, Option, Some, None, is_some}
use Rattle.rept_isa.specs.declared.row.StepRow.{StepRow}
use Rattle.rept_isa.specs.Numbers.{plus, beside}
use Rattle.rept_isa.specs.Operands.{written_by, first_read, second_read}
use Rattle.rept_reason.specs.declared.view.inferred.When.{When}
use Rattle.rept_reason.specs.declared.view.inferred.When.TheVariants.{Before, After}
use Rattle.rept_reason.specs.View.Seen.{Seen}
use Rattle.rept_reason.specs.View.Rules.{Rules, offset_of}
use Rattle.rept_facts.specs.Sums.{one_if, sum_to}

-- 1 where there is a register and it is known
abbrev pub operand_known : Seen → When → Option ℕ → ℕ
operand_known s w None = 0
operand_known s w (Some r) = one_if (is_some (s.register w r))

-- at how many of the two points the byte at an address is known
abbrev pub byte_known : Seen → ℕ → ℕ
byte_known s a = one_if (is_some (s.byte Before a)) + one_if (is_some (s.byte After a))

-- the value of the register in the place of rs1
abbrev pub base_known : Option ℕ → Seen → Option ℕ
base_known None s = None
base_known (Some r) s = s.register Before r

-- of so many bytes from an address on
abbrev pub bytes_from : Seen → ℕ → ℕ → ℕ
bytes_from s start n = sum_to (λ k. byte_known s (beside start k)) n

-- of the bytes that the row's rules look at, which there are where the base is known
abbrev pub bytes_known : Rules → StepRow → Seen → Option ℕ → ℕ
bytes_known rules row s None = 0
bytes_known rules row s (Some base) = bytes_from s (plus base (offset_of row.instr)) (min (rules.places row) 4)

-- of all the registers and bytes that they look at: at most eleven
abbrev pub cells_known : Rules → StepRow → Seen → ℕ
cells_known rules row s = operand_known s Before (first_read row.instr) + operand_known s Before (second_read row.instr) + operand_known s After (written_by row.instr) + bytes_known rules row s (base_known (first_read row.instr) s)
