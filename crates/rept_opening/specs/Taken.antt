-- Which premises are taken of a run that is one path: those of `IsAdmitted` whose condition holds of
-- the files. This project's own.
use Rattle.std.specs.Prelude.{ℕ, Bool, true, List, Option, is_some}
use Rattle.std.specs.List.{list_any}
use Rattle.rept_isa.specs.declared.row.StepRow.{StepRow}
use Rattle.rept_isa.specs.Operands.{is_call}
use Rattle.rept_found.specs.Crash.{Crash}
use Rattle.rept_findings.specs.declared.findings.PremisesTaken.{PremisesTaken}
use Rattle.rept_opening.specs.Beyond.{begun_file, executable_of}

abbrev pub calls_kernel : StepRow → Bool
calls_kernel row = is_call row.instr

-- `read-only` is taken of each path; `answers` and `fresh-pages` where one of its steps is a call;
-- `first-memory` where it begins with the first instruction of an executable
abbrev pub taken_by : Option (List ℕ) → List StepRow → PremisesTaken
taken_by begun rows = record { read_only = true; answers = list_any calls_kernel rows; first_memory = is_some begun; fresh_pages = list_any calls_kernel rows }

-- those of a crash, by how many packets were left out and by the steps of its path
abbrev pub taken_of : Crash → ℕ → List StepRow → PremisesTaken
taken_of crash skipped rows = taken_by (begun_file (executable_of crash.exe) skipped rows) rows
