-- An operand, from the result of an instruction and the other operand. This project's own table:
-- where the operation on words has one operand for each result.
use Rattle.std.specs.Prelude.{ℕ, ◌+◌, ◌-◌, ◌*◌, ◌%◌, ◌^◌, ◌==◌, if◌then◌else◌, ℤ, Option, Some, None, bit_xor, Bool, false}
use Rattle.rept_isa.specs.declared.instr.Instr.{Instr}
use Rattle.rept_isa.specs.declared.instr.Instr.TheVariants.{Lui, Auipc, Jal, Jalr, Branch, Load, Store, Imm, Op, Amo, Fence, Ecall, Ebreak, Counter}
use Rattle.rept_isa.specs.declared.instr.ImmOp.{ImmOp}
use Rattle.rept_isa.specs.declared.instr.ImmOp.TheVariants.{Ori, Andi, Slli, Srli, Srai}
use Rattle.rept_isa.specs.declared.instr.RegOp.{RegOp}
use Rattle.rept_isa.specs.declared.instr.RegOp.TheVariants.{Add, Sub, Xor, Or, And, Mul}
use Rattle.rept_isa.specs.Numbers.{word}
use Rattle.rept_isa.specs.Operands.{first_read, second_read}
use Rattle.rept_machine.specs.Arithmetic.{register_form}
use Rattle.rept_partial.specs.declared.flat.Flat.{Flat}
use Rattle.rept_partial.specs.declared.flat.Flat.TheVariants.{Unknown, Known}
use Rattle.rept_rules.specs.declared.operand.Side.{Side}
use Rattle.rept_rules.specs.declared.operand.Side.TheVariants.{First, Second}
use Rattle.rept_rules.specs.Inverse.{inverse}
use Rattle.rept_rules.specs.Results.{operand}

-- a word less another, modulo 2 ^ 32
abbrev pub less : ℕ → ℕ → ℕ
less v o = (v + (2 ^ 32 - o)) % 2 ^ 32

-- ADD, SUB, XOR and MUL, where the other operand o is known; for MUL it is odd
abbrev pub solved : RegOp → Side → ℕ → ℕ → Flat
solved Add First v o = Known (less v o)
solved Add Second v o = Known (less v o)
solved Sub First v o = Known ((v + o) % 2 ^ 32)
solved Sub Second v o = Known (less o v)
solved Xor First v o = Known (bit_xor v o)
solved Xor Second v o = Known (bit_xor v o)
solved Mul First v o = if o % 2 == 1 then Known (v * inverse o % 2 ^ 32) else Unknown
solved Mul Second v o = if o % 2 == 1 then Known (v * inverse o % 2 ^ 32) else Unknown
solved _ side v o = Unknown

abbrev pub solved_by : RegOp → Side → ℕ → Flat → Flat
solved_by op side v Unknown = Unknown
solved_by op side v (Known o) = solved op side v o

-- whether the operation with this immediate leaves its operand as it is: a shift by 0, AND with all
-- ones, OR with 0
abbrev pub is_neutral : ImmOp → ℤ → Bool
is_neutral Slli imm = word imm == 0
is_neutral Srli imm = word imm == 0
is_neutral Srai imm = word imm == 0
is_neutral Andi imm = word imm == 2 ^ 32 - 1
is_neutral Ori imm = word imm == 0
is_neutral _ imm = false

-- the register of which OR or AND of two registers is a copy
abbrev pub copied_register : RegOp → ℕ → ℕ → Option ℕ
copied_register Or rs1 rs2 = if rs1 == rs2 then Some rs1 else if rs1 == 0 then Some rs2 else if rs2 == 0 then Some rs1 else None
copied_register And rs1 rs2 = if rs1 == rs2 then Some rs1 else None
copied_register _ rs1 rs2 = None

-- the register of which the instruction's result is a copy
abbrev pub copied : Instr → Option ℕ
copied (Imm op rd rs1 imm) = if is_neutral op imm then Some rs1 else None
copied (Op op rd rs1 rs2) = copied_register op rs1 rs2
copied _ = None

-- the register on one side of an operation
abbrev pub on : Side → ℕ → ℕ → ℕ
on First rs1 rs2 = rs1
on Second rs1 rs2 = rs2

abbrev pub opposite : Side → Side
opposite First = Second
opposite Second = First

-- the value is the operand's, where that is the register which is copied
abbrev pub if_copied : Option ℕ → ℕ → ℕ → Flat
if_copied None r v = Unknown
if_copied (Some source) r v = if source == r then Known v else Unknown

abbrev pub first_known : Flat → Flat → Flat
first_known Unknown y = y
first_known (Known v) y = Known v

-- The operand from the result of a copy, too. No rule asks for it: the operations that copy have no
-- rule of `solving_rule`, and rule 18, which goes by `copied`, tells of copies.
abbrev pub immediate_solved : ImmOp → ℤ → ℕ → Flat
immediate_solved op imm v = if is_neutral op imm then Known v else solved (register_form op) First v (word imm)

abbrev pub registers_solved : RegOp → Side → ℕ → ℕ → ℕ → Flat → Flat
registers_solved op side rs1 rs2 v other = first_known (if_copied (copied_register op rs1 rs2) (on side rs1 rs2) v) (solved_by op side v (operand (on (opposite side) rs1 rs2) other))

-- the operand on that side of the instruction, where its result is v
abbrev pub solve_of : Instr → Side → ℕ → Flat → Flat
solve_of (Imm op rd rs1 imm) First v other = immediate_solved op imm v
solve_of (Imm op rd rs1 imm) Second v other = Unknown
solve_of (Op op rd rs1 rs2) side v other = registers_solved op side rs1 rs2 v other
solve_of (Lui rd imm) side v other = Unknown
solve_of (Auipc rd imm) side v other = Unknown
solve_of (Jal rd imm) side v other = Unknown
solve_of (Jalr rd rs1 imm) side v other = Unknown
solve_of (Branch op rs1 rs2 imm) side v other = Unknown
solve_of (Load op rd rs1 imm) side v other = Unknown
solve_of (Store op rs1 rs2 imm) side v other = Unknown
solve_of (Amo op rd rs1 rs2) side v other = Unknown
solve_of Fence side v other = Unknown
solve_of Ecall side v other = Unknown
solve_of Ebreak side v other = Unknown
solve_of (Counter rd csr) side v other = Unknown

-- the register on that side, if the instruction's form has one there
abbrev pub operand_of : Instr → Side → Option ℕ
operand_of instr First = first_read instr
operand_of instr Second = second_read instr
