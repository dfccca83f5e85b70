-- The result of an instruction, from what is known of its operands. The operations are those of the
-- RISC-V unprivileged manual (20191213, chapters 2.4 to 2.6 and 7); that some results are known
-- from one operand alone is this project's own table.
use Rattle.std.specs.Prelude.{ℕ, ◌-◌, ◌^◌, ◌==◌, if◌then◌else◌, Bool, false, ⊤, ◌≡◌, Option, Some, None}
use Rattle.rept_isa.specs.declared.instr.Instr.{Instr}
use Rattle.rept_isa.specs.declared.instr.Instr.TheVariants.{Lui, Auipc, Jal, Jalr, Branch, Load, Store, Imm, Op, Amo, Fence, Ecall, Ebreak, Counter}
use Rattle.rept_isa.specs.declared.instr.RegOp.{RegOp}
use Rattle.rept_isa.specs.declared.instr.RegOp.TheVariants.{And, Or, Mul, Sub, Xor}
use Rattle.rept_isa.specs.Numbers.{word, following, beside}
use Rattle.rept_partial.specs.declared.flat.Flat.{Flat}
use Rattle.rept_partial.specs.declared.flat.Flat.TheVariants.{Unknown, Known}
use Rattle.rept_machine.specs.Arithmetic.{computed, register_form}
use Rattle.rept_machine.specs.State.{State}

-- what is known of the register in an operand's place: x0 is 0
abbrev pub operand : ℕ → Flat → Flat
operand r given = if r == 0 then Known 0 else given

-- the operand that decides the result whatever the other one is: 0 for AND and MUL, all ones for OR
abbrev pub absorbs : RegOp → ℕ → Bool
absorbs And a = a == 0
absorbs Or a = a == 2 ^ 32 - 1
absorbs Mul a = a == 0
absorbs _ a = false

-- SUB and XOR of one register with itself give 0
abbrev pub cancels : RegOp → ℕ → ℕ → Bool
cancels Sub rs1 rs2 = rs1 == rs2
cancels Xor rs1 rs2 = rs1 == rs2
cancels _ rs1 rs2 = false

-- from one operand alone
abbrev pub absorbed : RegOp → ℕ → Flat
absorbed op a = if absorbs op a then Known a else Unknown

-- an operation on two operands
abbrev pub result_of : RegOp → Flat → Flat → Flat
result_of op (Known a) (Known b) = Known (computed op a b)
result_of op (Known a) Unknown = absorbed op a
result_of op Unknown (Known b) = absorbed op b
result_of op Unknown Unknown = Unknown

-- an operation on two registers
abbrev pub registers_result : RegOp → ℕ → ℕ → Flat → Flat → Flat
registers_result op rs1 rs2 a b = if cancels op rs1 rs2 then Known 0 else result_of op (operand rs1 a) (operand rs2 b)

-- what the instruction that is followed four bytes from an address puts into its destination, from
-- what is known of the registers in the places of rs1 and rs2; LUI, AUIPC, JAL and JALR always give
-- theirs
abbrev pub forward_of : Instr → ℕ → Flat → Flat → Flat
forward_of (Lui rd imm) from a b = Known imm
forward_of (Auipc rd imm) from a b = Known (beside from imm)
forward_of (Jal rd imm) from a b = Known (following from)
forward_of (Jalr rd rs1 imm) from a b = Known (following from)
forward_of (Imm op rd rs1 imm) from a b = result_of (register_form op) (operand rs1 a) (Known (word imm))
forward_of (Op op rd rs1 rs2) from a b = registers_result op rs1 rs2 a b
forward_of (Branch op rs1 rs2 imm) from a b = Unknown
forward_of (Load op rd rs1 imm) from a b = Unknown
forward_of (Store op rs1 rs2 imm) from a b = Unknown
forward_of (Amo op rd rs1 rs2) from a b = Unknown
forward_of Fence from a b = Unknown
forward_of Ecall from a b = Unknown
forward_of Ebreak from a b = Unknown
forward_of (Counter rd csr) from a b = Unknown

-- a value that may be the known one
abbrev pub Admits : Flat → ℕ → Type 0
Admits Unknown v = ⊤
Admits (Known w) v = v ≡ w

-- what is known of the register in an operand's place holds in a state
abbrev pub HoldsIn : State → Option ℕ → Flat → Type 0
HoldsIn s None given = ⊤
HoldsIn s (Some r) given = Admits given (s.register r)
