-- The values of a path's registers, numbered: those at the first point from 0 to 31, and then one
-- for each row, that of the register which the row writes. A register at a point is one of them.
use Rattle.std.specs.Prelude.{◌≡◌, ℕ, zero, suc, ◌+◌, ◌-◌, ◌==◌, ◌<◌, ◌≤◌, nat_lt, if◌then◌else◌, Bool, false, List, length, Option, Some, None, slice_get}
use Rattle.rept_isa.specs.declared.row.StepRow.{StepRow}
use Rattle.rept_isa.specs.Operands.{written_by, first_read, second_read}
use Rattle.rept_machine.specs.State.{State, IsState}
use Rattle.rept_machine.specs.Step.{IsStep}
use Rattle.rept_relate.specs.declared.numbering.OperandNodes.{OperandNodes}

-- the register that a row writes
abbrev pub register_of : Option StepRow → Option ℕ
register_of (Some row) = written_by row.instr
register_of None = None

abbrev pub is_number : Option ℕ → ℕ → Bool
is_number (Some s) r = s == r
is_number None r = false

-- the node that has the value of a register at a point: that of the last row before it which writes
-- the register
abbrev pub node_at : List StepRow → ℕ → ℕ → ℕ
node_at rows zero r = r
node_at rows (suc i) r = if is_number (register_of (slice_get rows i)) r then 32 + i else node_at rows i r

abbrev pub value_after : Option ℕ → State → ℕ
value_after (Some r) after = after.register r
value_after None after = 0

-- the word of each node in an execution
abbrev pub value_in : List StepRow → (ℕ → State) → ℕ → ℕ
value_in rows run x = if nat_lt x 32 then (run 0).register x else value_after (register_of (slice_get rows (x - 32))) (run (x - 32 + 1))

-- states and steps of an execution of the rows
pub record IsWalk (image_end : ℕ) (rows : List StepRow) (run : ℕ → State) : Type 0 where
  pub states : (p : ℕ) → p ≤ length rows → IsState (run p)
  pub steps : (i : ℕ) (row : StepRow) → slice_get rows i ≡ Some row → IsStep image_end row (run i) (run (i + 1))

-- nodes of a row's operands
pub record IsNumbered (rows : List StepRow) (i : ℕ) (row : StepRow) (nodes : OperandNodes) : Type 0 where
  pub first : (r : ℕ) → first_read row.instr ≡ Some r → nodes.first ≡ node_at rows i r
  pub second : (r : ℕ) → second_read row.instr ≡ Some r → nodes.second ≡ node_at rows i r
  pub first_named : (r : ℕ) → first_read row.instr ≡ Some r → r < 32
  pub second_named : (r : ℕ) → second_read row.instr ≡ Some r → r < 32
  pub first_below : nodes.first < 32 + i
  pub second_below : nodes.second < 32 + i

abbrev pub AreNumbered : List StepRow → List OperandNodes → Type 0
AreNumbered rows operands = (i : ℕ) (row : StepRow) (nodes : OperandNodes) → slice_get rows i ≡ Some row → slice_get operands i ≡ Some nodes → IsNumbered rows i row nodes
