-- What rows tell of the values of their operands and results.
use Rattle.std.specs.Prelude.{◌≡◌, ℕ, ◌<◌, Bool, true, false, List, Some, slice_get}
use Rattle.rept_isa.specs.declared.instr.BranchOp.{BranchOp}
use Rattle.rept_isa.specs.declared.instr.BranchOp.TheVariants.{Beq, Bne}
use Rattle.rept_isa.specs.declared.instr.RegOp.{RegOp}
use Rattle.rept_isa.specs.declared.instr.RegOp.TheVariants.{Add, Sub, Sll, Slt, Sltu, Xor, Srl, Sra, Or, And, Mul, Mulh, Mulhsu, Mulhu, Div, Divu, Rem, Remu}
use Rattle.rept_isa.specs.declared.row.StepRow.{StepRow}
use Rattle.rept_isa.specs.declared.class.Turn.{Turn}
use Rattle.rept_isa.specs.declared.class.Turn.TheVariants.{Taken, NotTaken}
use Rattle.rept_isa.specs.Operands.{written_by, first_read, second_read}
use Rattle.rept_machine.specs.Arithmetic.{computed}
use Rattle.rept_machine.specs.State.{State, IsState}
use Rattle.rept_machine.specs.Step.{IsStep}
use Rattle.rept_relate.specs.declared.classes.node.ClassNode.{ClassNode}
use Rattle.rept_relate.specs.Classes.Valuations.{word_of, IsValued}
use Rattle.rept_relate.specs.declared.numbering.OperandNodes.{OperandNodes}
use Rattle.rept_relate.specs.declared.operations.Operation.{Operation}

-- a step of the row, whose operands and result are the words of these nodes
pub record IsRowOf (row : StepRow) (node : ℕ) (nodes : OperandNodes) (value : ℕ → ℕ) (image_end : ℕ) (s t : State) : Type 0 where
  pub zero : value 0 ≡ 0
  pub before : IsState s
  pub after : IsState t
  pub step : IsStep image_end row s t
  pub first : (r : ℕ) → first_read row.instr ≡ Some r → value nodes.first ≡ s.register r
  pub second : (r : ℕ) → second_read row.instr ≡ Some r → value nodes.second ≡ s.register r
  pub result : (r : ℕ) → written_by row.instr ≡ Some r → value node ≡ t.register r

-- words with which there is such a step
abbrev pub IsOfRow : StepRow → ℕ → OperandNodes → (ℕ → ℕ) → Type 0
IsOfRow row node nodes value = (image_end : ℕ) × (s : State) × (t : State) × IsRowOf row node nodes value image_end s t

-- what holds of the words keeps them, or leaves none
abbrev pub KeepsIf : ((ℕ → ℕ) → Type 0) → List ClassNode → List ClassNode → Type 0
KeepsIf holds old new = (value : ℕ → ℕ) → holds value → IsValued old value → IsValued new value

abbrev pub RefusesIf : ((ℕ → ℕ) → Type 0) → List ClassNode → Type 0
RefusesIf holds old = (value : ℕ → ℕ) → holds value → IsValued old value → ⊥

-- a branch that went this way had equal operands
abbrev pub equates : BranchOp → Turn → Bool
equates Beq Taken = true
equates Bne NotTaken = true
equates _ _ = false

-- an operation on the words of two nodes
pub record IsComputed (op : RegOp) (node first second : ℕ) (value : ℕ → ℕ) : Type 0 where
  pub zero : value 0 ≡ 0
  pub small_first : value first < 4294967296
  pub small_second : value second < 4294967296
  pub result : value node ≡ computed op (value first) (value second)

-- the same with a constant as the second operand
pub record IsComputedOf (op : RegOp) (node base constant : ℕ) (value : ℕ → ℕ) : Type 0 where
  pub zero : value 0 ≡ 0
  pub small : value base < 4294967296
  pub result : value node ≡ computed op (value base) constant

-- what was computed of terms
abbrev pub IsResult : (ℕ → ℕ) → Operation → Type 0
IsResult value operation = value operation.node ≡ computed operation.op (word_of value operation.first) (word_of value operation.second)

abbrev pub AreResults : List Operation → (ℕ → ℕ) → Type 0
AreResults operations value = (k : ℕ) (operation : Operation) → slice_get operations k ≡ Some operation → IsResult value operation

-- numbers of the operations, for comparing them
abbrev pub code_of : RegOp → ℕ
code_of Add = 0
code_of Sub = 1
code_of Sll = 2
code_of Slt = 3
code_of Sltu = 4
code_of Xor = 5
code_of Srl = 6
code_of Sra = 7
code_of Or = 8
code_of And = 9
code_of Mul = 10
code_of Mulh = 11
code_of Mulhsu = 12
code_of Mulhu = 13
code_of Div = 14
code_of Divu = 15
code_of Rem = 16
code_of Remu = 17

-- the nodes of results are below a number
abbrev pub AreBelow : List Operation → ℕ → Type 0
AreBelow operations limit = (k : ℕ) (operation : Operation) → slice_get operations k ≡ Some operation → operation.node < limit

-- what holds of the words keeps them in the classes and in the list of operations
abbrev pub KeepsBoth : ((ℕ → ℕ) → Type 0) → List ClassNode → List Operation → List ClassNode → List Operation → Type 0
KeepsBoth holds old done new more = (value : ℕ → ℕ) → holds value → IsValued old value → AreResults done value → (IsValued new value) × AreResults more value
