-- What the rows of a path carry.
use Rattle.std.specs.Prelude.{◌≡◌, List, Ok}
use Rattle.std.specs.List.{All}
use Rattle.rept_path.specs.Code.{Code}
use Rattle.rept_isa.specs.declared.row.StepRow.{StepRow}
use Rattle.rept_path.specs.Code.{look, is_short}

-- The row has the instruction that stands at its address, and says whether it is short.
pub record CarriesCode (code : Code) (row : StepRow) : Type 0 where
  pub instr : look code row.at ≡ Ok row.instr
  pub short : row.short ≡ is_short code row.at

-- Each row has the instruction that stands at its address.
abbrev pub CarryCode : Code → List StepRow → Type 0
CarryCode code rows = All (CarriesCode code) rows
