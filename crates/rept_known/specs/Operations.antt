-- What each instruction makes of the known bits of its operands, as a table. A sum is the
-- known-bits addition of compilers (LLVM's KnownBits, tnum_add and tnum_sub of the Linux kernel);
-- the other rows are this project's own. What the instructions do is in the RISC-V unprivileged
-- manual 20191213, chapters 2.4 to 2.6 and 7.
use Rattle.std.specs.Prelude.{ℕ, ◌+◌, ◌-◌, ◌*◌, ◌/◌, ◌%◌, ◌^◌, Bool, true, false, ◌==◌, bit_and, bit_or, bit_xor, if◌then◌else◌, Option, Some, None}
use Rattle.rept_isa.specs.declared.instr.Instr.{Instr}
use Rattle.rept_isa.specs.declared.instr.Instr.TheVariants.{Lui, Auipc, Jal, Jalr, Branch, Load, Store, Imm, Op, Amo, Fence, Ecall, Ebreak, Counter}
use Rattle.rept_isa.specs.declared.instr.RegOp.{RegOp}
use Rattle.rept_isa.specs.declared.instr.RegOp.TheVariants.{Add, Sub, Sll, Slt, Sltu, Xor, Srl, Sra, Or, And, Mul, Mulh, Mulhsu, Mulhu, Div, Divu, Rem, Remu}
use Rattle.rept_isa.specs.declared.instr.LoadOp.{LoadOp}
use Rattle.rept_isa.specs.declared.instr.LoadOp.TheVariants.{Lb, Lh, Lw, Lbu, Lhu}
use Rattle.rept_isa.specs.declared.instr.BranchOp.{BranchOp}
use Rattle.rept_isa.specs.declared.instr.BranchOp.TheVariants.{Beq, Bne}
use Rattle.rept_isa.specs.declared.row.StepRow.{StepRow}
use Rattle.rept_isa.specs.declared.class.Turn.{Turn}
use Rattle.rept_isa.specs.declared.class.Turn.TheVariants.{Taken, NotTaken}
use Rattle.rept_isa.specs.Operands.{turn_of}
use Rattle.rept_isa.specs.Numbers.{following, beside}
use Rattle.rept_isa.specs.Numbers as numbers
use Rattle.rept_machine.specs.Arithmetic.{computed, register_form}
use Rattle.rept_known.specs.declared.bits.Bits.{Bits}
use Rattle.rept_known.specs.Masks.{but}
use Rattle.rept_partial.specs.Ranges.{word}
use Rattle.rept_known.specs.Bits.{outside, bits_meet}

abbrev pub all_open : Bits
all_open = outside 0 4294967295

abbrev pub all_known : ℕ → Bits
all_known v = outside v 0

-- so many low bits are open, and the others are 0
abbrev pub low_open : ℕ → Bits
low_open k = outside 0 (2 ^ k - 1)

-- A sum: that of the values where no open bit is set, and another one where all are. A bit is open
-- where either operand's is, or where the two sums differ, as the carry into it is then open.
abbrev pub sum_bits : Bits → Bits → Bits
sum_bits a b = outside (word (a.value + b.value)) (bit_or (bit_xor (word (a.value + b.value + a.loose + b.loose)) (word (a.value + b.value))) (bit_or a.loose b.loose))

-- a difference: the greatest one has the open bits of the first operand set, and the least one
-- those of the second
abbrev pub difference_bits : Bits → Bits → Bits
difference_bits a b =
    outside (word (a.value + (2 ^ 32 - b.value)))
    (bit_or (bit_xor (word (a.value + (2 ^ 32 - b.value) + a.loose)) (word (a.value + (2 ^ 32 - b.value) + (2 ^ 32 - b.loose)))) (bit_or a.loose b.loose))

-- a bit of a conjunction is known where both operands' are 1, or either's is 0
abbrev pub and_bits : Bits → Bits → Bits
and_bits a b = outside (bit_and a.value b.value) (but (bit_and (bit_or a.value a.loose) (bit_or b.value b.loose)) (bit_and a.value b.value))

-- one of a disjunction where both are 0, or either is 1
abbrev pub or_bits : Bits → Bits → Bits
or_bits a b = outside (bit_or a.value b.value) (but (bit_or a.loose b.loose) (bit_or a.value b.value))

-- and one of an exclusive disjunction where both are known
abbrev pub xor_bits : Bits → Bits → Bits
xor_bits a b = outside (bit_xor a.value b.value) (bit_or a.loose b.loose)

-- the amount of a shift, where its operand has one value: the low five bits count
abbrev pub amount : Bits → Option ℕ
amount b = if b.loose == 0 then Some (b.value % 32) else None

-- the bits are shifted, known or open, and new ones are 0
abbrev pub shifted_left : Bits → Option ℕ → Bits
shifted_left a (Some n) = outside (word (a.value * 2 ^ n)) (word (a.loose * 2 ^ n))
shifted_left a None = all_open

abbrev pub shifted_right : Bits → Option ℕ → Bits
shifted_right a (Some n) = outside (a.value / 2 ^ n) (a.loose / 2 ^ n)
shifted_right a None = all_open

-- new bits are copies of bit 31, known or open
abbrev pub shifted_with_sign : Bits → Option ℕ → Bits
shifted_with_sign a (Some n) = outside (computed Sra a.value n) (computed Sra a.loose n)
shifted_with_sign a None = all_open

-- the table of operations on two registers
abbrev pub operation_bits : RegOp → Bits → Bits → Bits
operation_bits Add a b = sum_bits a b
operation_bits Sub a b = difference_bits a b
operation_bits And a b = and_bits a b
operation_bits Or a b = or_bits a b
operation_bits Xor a b = xor_bits a b
operation_bits Sll a b = shifted_left a (amount b)
operation_bits Srl a b = shifted_right a (amount b)
operation_bits Sra a b = shifted_with_sign a (amount b)
operation_bits Slt a b = low_open 1
operation_bits Sltu a b = low_open 1
operation_bits Mul a b = all_open
operation_bits Mulh a b = all_open
operation_bits Mulhsu a b = all_open
operation_bits Mulhu a b = all_open
operation_bits Div a b = all_open
operation_bits Divu a b = all_open
operation_bits Rem a b = all_open
operation_bits Remu a b = all_open

abbrev pub loaded_bits : LoadOp → Bits
loaded_bits Lbu = low_open 8
loaded_bits Lhu = low_open 16
loaded_bits Lb = all_open
loaded_bits Lh = all_open
loaded_bits Lw = all_open

-- The table: the known bits of what the instruction that is followed four bytes from an address
-- puts into its register, from those of rs1 and rs2. An immediate is an operand that is known. An
-- instruction without one, a call and a counter leave all bits open.
abbrev pub applied_bits : Instr → ℕ → Bits → Bits → Bits
applied_bits (Lui rd imm) from a b = all_known imm
applied_bits (Auipc rd imm) from a b = all_known (beside from imm)
applied_bits (Jal rd imm) from a b = all_known (following from)
applied_bits (Jalr rd rs1 imm) from a b = all_known (following from)
applied_bits (Load op rd rs1 imm) from a b = loaded_bits op
applied_bits (Imm op rd rs1 imm) from a b = operation_bits (register_form op) a (all_known (numbers.word imm))
applied_bits (Op op rd rs1 rs2) from a b = operation_bits op a b
applied_bits (Branch op rs1 rs2 imm) from a b = all_open
applied_bits (Store op rs1 rs2 imm) from a b = all_open
applied_bits (Amo op rd rs1 rs2) from a b = all_open
applied_bits Fence from a b = all_open
applied_bits Ecall from a b = all_open
applied_bits Ebreak from a b = all_open
applied_bits (Counter rd csr) from a b = all_open

-- whether the way of a branch tells that its operands are equal
abbrev pub tells_equal : BranchOp → Turn → Bool
tells_equal Beq Taken = true
tells_equal Bne NotTaken = true
tells_equal op turn = false

abbrev pub with_both : Option Bits → Option (Bits × Bits)
with_both None = None
with_both (Some common) = Some (common, common)

-- what an instruction and its way leave of the bits of rs1 and rs2: of equal ones the common words
abbrev pub left_bits : Instr → Turn → Bits → Bits → Option (Bits × Bits)
left_bits (Branch op rs1 rs2 imm) turn a b = if tells_equal op turn then with_both (bits_meet a b) else Some (a, b)
left_bits _ turn a b = Some (a, b)

abbrev pub narrowed_bits : StepRow → Bits → Bits → Option (Bits × Bits)
narrowed_bits row a b = left_bits row.instr (turn_of row) a b
