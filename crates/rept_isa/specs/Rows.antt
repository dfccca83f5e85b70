-- The addresses of an executed step. An instruction takes four bytes, a compressed one two (RISC-V
-- unprivileged manual 20191213, chapters 1.5 and 16.1).
use Rattle.std.specs.Prelude.{ℕ, Bool, ◌+◌, ◌-◌, ◌%◌, ◌^◌, if◌then◌else◌}
use Rattle.rept_isa.specs.declared.row.StepRow.{StepRow}

-- the address of the instruction, the one four bytes before the instruction that follows it, and
-- that of the next step
pub record Addresses : Type 0 where
  pub at : ℕ
  pub from : ℕ
  pub next : ℕ

-- those of an instruction of four bytes
abbrev pub of_word : ℕ → ℕ → Addresses
of_word at next = record { at = at; from = at; next = next }

-- the second of them: the address itself, or two bytes before it where the instruction is short
abbrev pub from_at : ℕ → Bool → ℕ
from_at at short = if short then (at + (2 ^ 32 - 2)) % 2 ^ 32 else at

abbrev pub from_of : StepRow → ℕ
from_of row = from_at row.at row.short

abbrev pub addresses_of : StepRow → Addresses
addresses_of row = record { at = row.at; from = from_of row; next = row.next }
