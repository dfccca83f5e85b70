-- The addresses of a step whose instruction takes four bytes.
use Rattle.std.specs.Prelude.{◌≡◌, false}
use Rattle.std.proofs.Common.{refl}
use Rattle.rept_isa.specs.declared.row.StepRow.{StepRow}
use Rattle.rept_isa.specs.Rows.{addresses_of, of_word}

pub of_long : (row : StepRow) → row.short ≡ false → addresses_of row ≡ of_word row.at row.next
of_long row long = rw long refl
