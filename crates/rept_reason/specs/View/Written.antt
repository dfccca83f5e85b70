-- Which bytes a row writes, whatever they were before. This project's own.
use Rattle.std.specs.Prelude.{ℕ}
use Rattle.rept_isa.specs.declared.row.StepRow.{StepRow}
use Rattle.rept_machine.specs.State.{State}
pub use Rattle.rept_machine.specs.Writes.{WritesBy}

abbrev pub Writes : ℕ → StepRow → State → State → ℕ → Type 0
Writes image_end row before after a = WritesBy row.instr image_end before after a
