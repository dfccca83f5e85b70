-- The branch bit of a row: 0 for a branch that was taken (Efficient Trace for RISC-V 2.0, the field
-- branch_map).
use Rattle.std.specs.Prelude.{ℕ, ◌==◌, Bool, true, false, not, List, [], ◌∷◌, if◌then◌else◌}
use Rattle.rept_isa.specs.declared.row.StepRow.{StepRow}
use Rattle.rept_isa.specs.Numbers.{plus}
use Rattle.rept_path.specs.declared.flow.Flow.{Flow}
use Rattle.rept_path.specs.declared.flow.Flow.TheVariants.{Branch}
use Rattle.rept_path.specs.Code.{flow_of, branches}

-- whether a branch went on to the instruction after it
abbrev pub passed_by : Flow → ℕ → ℕ → Bool
passed_by (Branch imm) at next = not (next == plus at imm)
passed_by _ at next = false

abbrev pub passed : StepRow → Bool
passed row = passed_by (flow_of row.instr) row.at row.next

abbrev pub branch_row : StepRow → Bool
branch_row row = branches (flow_of row.instr)

-- 1 for a branch
abbrev pub count : StepRow → ℕ
count row = if branch_row row then 1 else 0

-- the bit, if the row is that of a branch
abbrev pub bit_list : StepRow → List Bool
bit_list row = if branch_row row then passed row ∷ [] else []

-- the bit of a start packet at the row: 0 only where a branch stands there that was taken
abbrev pub start_bit : StepRow → Bool
start_bit row = if branch_row row then passed row else true
