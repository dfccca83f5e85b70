-- What a row of a path lets one conclude of the values before and after it, from what is known of
-- others. What the row's step does is told by the RISC-V unprivileged manual (20191213, chapters
-- 2.4 to 2.6 and 7); which conclusions are inferred, and their numbers, are this project's own.
-- Rules 1 to 6 and 17 are those of whole paths.
use Rattle.std.specs.Prelude.{◌≡◌, ℕ, ◌<◌, ℤ, Bool, true, false, Option, Some, None}
use Rattle.rept_isa.specs.declared.instr.Instr.{Instr}
use Rattle.rept_isa.specs.declared.instr.Instr.TheVariants.{Branch, Load, Store, Imm, Op}
use Rattle.rept_isa.specs.declared.instr.BranchOp.{BranchOp}
use Rattle.rept_isa.specs.declared.instr.BranchOp.TheVariants.{Beq, Bne}
use Rattle.rept_isa.specs.declared.instr.LoadOp.{LoadOp}
use Rattle.rept_isa.specs.declared.instr.LoadOp.TheVariants.{Lb, Lh, Lw, Lbu, Lhu}
use Rattle.rept_isa.specs.declared.instr.StoreOp.{StoreOp}
use Rattle.rept_isa.specs.declared.instr.StoreOp.TheVariants.{Sw}
use Rattle.rept_isa.specs.declared.instr.RegOp.{RegOp}
use Rattle.rept_isa.specs.declared.instr.RegOp.TheVariants.{Add, Sub, Xor, Mul}
use Rattle.rept_isa.specs.declared.class.Turn.{Turn}
use Rattle.rept_isa.specs.declared.class.Turn.TheVariants.{Taken, NotTaken}
use Rattle.rept_isa.specs.declared.row.StepRow.{StepRow}
use Rattle.rept_isa.specs.Numbers.{plus, beside}
use Rattle.rept_isa.specs.Operands.{written_by, first_read, second_read, turn_of}
use Rattle.rept_isa.specs.Rows.{from_of}
use Rattle.rept_partial.specs.declared.flat.Flat.{Flat}
use Rattle.rept_partial.specs.declared.flat.Flat.TheVariants.{Unknown, Known}
use Rattle.rept_machine.specs.Arithmetic.{loaded, word_at, byte_of, store_width, register_form}
use Rattle.rept_reason.specs.declared.fact.Cell.TheVariants.{Register, Byte}
use Rattle.rept_reason.specs.Facts.{flat}
use Rattle.rept_reason.specs.declared.view.inferred.When.{When}
use Rattle.rept_reason.specs.declared.view.inferred.When.TheVariants.{Before, After}
use Rattle.rept_reason.specs.declared.view.inferred.Conclusion.{Conclusion}
use Rattle.rept_reason.specs.View.Seen.{Seen}
use Rattle.rept_rules.specs.declared.operand.Side.{Side}
use Rattle.rept_rules.specs.Results.{forward_of}
use Rattle.rept_rules.specs.Operands.{solve_of, copied, operand_of, opposite}

-- a register is known
abbrev pub IsKnown : Seen → When → ℕ → ℕ → Type 0
IsKnown s when r v = s.register when r ≡ Some v

-- so many bytes from an address on are known, as those of a memory
abbrev pub AreKnown : Seen → When → ℕ → ℕ → (ℕ → ℕ) → Type 0
AreKnown s when base width memory = (k : ℕ) → k < width → s.byte when (beside base k) ≡ Some (memory (beside base k))

-- what is known before the row of the register in an operand's place
abbrev pub seen_operand : Seen → Option ℕ → Flat
seen_operand s None = Unknown
seen_operand s (Some r) = flat (s.register Before r)

-- a conclusion on a register, and one on byte k of those from a base on, which is byte k of a value
abbrev pub on_register : ℕ → When → ℕ → ℕ → Conclusion
on_register rule when r v = record { rule = rule; when = when; cell = Register r; value = v; slot = 0 }

abbrev pub on_byte : ℕ → When → ℕ → ℕ → ℕ → Conclusion
on_byte rule when base v k = record { rule = rule; when = when; cell = Byte (beside base k); value = byte_of v k; slot = k }

-- only registers x1 to x31 are concluded on
pub record IsOnRegister (d : Conclusion) (rule : ℕ) (when : When) (r v : ℕ) : Type 0 where
  pub named : 0 < r
  pub in_file : r < 32
  pub is : d ≡ on_register rule when r v

-- how many bytes a load reads
abbrev pub load_width : LoadOp → ℕ
load_width Lb = 1
load_width Lh = 2
load_width Lw = 4
load_width Lbu = 1
load_width Lhu = 2

-- the number of the rule by which an operand follows from the result: 10 for ADD and ADDI, 11 for
-- SUB, 12 for XOR and XORI, 13 for MUL
abbrev pub operation_rule : RegOp → Option ℕ
operation_rule Add = Some 10
operation_rule Sub = Some 11
operation_rule Xor = Some 12
operation_rule Mul = Some 13
operation_rule _ = None

abbrev pub solving_rule : Instr → Option ℕ
solving_rule (Imm op rd rs1 imm) = operation_rule (register_form op)
solving_rule (Op op rd rs1 rs2) = operation_rule op
solving_rule _ = None

-- whether a branch that went this way had equal operands
abbrev pub equates : BranchOp → Turn → Bool
equates Beq Taken = true
equates Bne NotTaken = true
equates _ turn = false

pub data ConcludesByRow (row : StepRow) (s : Seen) (d : Conclusion) : Type 0 where
  -- 7: the destination has the result that follows from what is known of the operands
  result : (rd v : ℕ) → written_by row.instr ≡ Some rd → forward_of row.instr (from_of row) (seen_operand s (first_read row.instr)) (seen_operand s (second_read row.instr)) ≡ Known v → IsOnRegister d 7 After rd v → ConcludesByRow row s d
  -- 8: a load of known bytes at a known base
  load : (op : LoadOp) (rd rs1 : ℕ) (imm : ℤ) (b : ℕ) (memory : ℕ → ℕ) → row.instr ≡ Load op rd rs1 imm → IsKnown s Before rs1 b → AreKnown s Before (plus b imm) (load_width op) memory → IsOnRegister d 8 After rd (loaded op memory (plus b imm)) → ConcludesByRow row s d
  -- 9: a store of a known value at a known base gives each of its bytes
  store : (op : StoreOp) (rs1 rs2 : ℕ) (imm : ℤ) (b v k : ℕ) → row.instr ≡ Store op rs1 rs2 imm → IsKnown s Before rs1 b → IsKnown s Before rs2 v → k < store_width op → d ≡ on_byte 9 After (plus b imm) v k → ConcludesByRow row s d
  -- 10 to 13: an operand, from the known result and what is known of the other operand
  solved : (rule rd r v w : ℕ) (side : Side) → solving_rule row.instr ≡ Some rule → written_by row.instr ≡ Some rd → operand_of row.instr side ≡ Some r → IsKnown s After rd v → solve_of row.instr side v (seen_operand s (operand_of row.instr (opposite side))) ≡ Known w → IsOnRegister d rule Before r w → ConcludesByRow row s d
  -- 14: a branch whose operands were equal, and one of them is known
  equal_second : (op : _) (rs1 rs2 : ℕ) (imm : ℤ) (v : ℕ) → row.instr ≡ Branch op rs1 rs2 imm → equates op (turn_of row) ≡ true → IsKnown s Before rs1 v → IsOnRegister d 14 Before rs2 v → ConcludesByRow row s d
  equal_first : (op : _) (rs1 rs2 : ℕ) (imm : ℤ) (v : ℕ) → row.instr ≡ Branch op rs1 rs2 imm → equates op (turn_of row) ≡ true → IsKnown s Before rs2 v → IsOnRegister d 14 Before rs1 v → ConcludesByRow row s d
  -- 15: the bytes that a load read at a known base, as the low ones of the value that it loaded
  load_back : (op : LoadOp) (rd rs1 : ℕ) (imm : ℤ) (b v k : ℕ) → row.instr ≡ Load op rd rs1 imm → written_by row.instr ≡ Some rd → IsKnown s Before rs1 b → IsKnown s After rd v → k < load_width op → d ≡ on_byte 15 Before (plus b imm) v k → ConcludesByRow row s d
  -- 16: the source of a store of a word at a known base, from its four bytes
  store_back : (rs1 rs2 : ℕ) (imm : ℤ) (b : ℕ) (memory : ℕ → ℕ) → row.instr ≡ Store Sw rs1 rs2 imm → IsKnown s Before rs1 b → AreKnown s After (plus b imm) 4 memory → IsOnRegister d 16 Before rs2 (word_at memory (plus b imm)) → ConcludesByRow row s d
  -- 18: of a copy and its source, the one from the other
  copy : (rd source v : ℕ) → written_by row.instr ≡ Some rd → copied row.instr ≡ Some source → IsKnown s Before source v → IsOnRegister d 18 After rd v → ConcludesByRow row s d
  copy_back : (rd source v : ℕ) → written_by row.instr ≡ Some rd → copied row.instr ≡ Some source → IsKnown s After rd v → IsOnRegister d 18 Before source v → ConcludesByRow row s d
