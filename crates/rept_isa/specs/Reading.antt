-- How a word is read, a device of the proofs: the operation that a function field names, and the
-- instruction of each opcode. What a word means is told by `Words`.
use Rattle.std.specs.Prelude.{ℕ, ◌==◌, nat_lt, Bool, ◌||◌, ◌&&◌, Option, Some, None, option_map, if◌then◌else◌, pos}
use Rattle.rept_isa.specs.declared.instr.Instr.{Instr}
use Rattle.rept_isa.specs.declared.instr.Instr.TheVariants.{Lui, Auipc, Jal, Jalr, Branch, Load, Store, Imm, Op, Amo, Fence, Ecall, Ebreak, Counter}
use Rattle.rept_isa.specs.declared.instr.AmoOp.{AmoOp}
use Rattle.rept_isa.specs.declared.instr.AmoOp.TheVariants as atomic
use Rattle.rept_isa.specs.declared.instr.BranchOp.{BranchOp}
use Rattle.rept_isa.specs.declared.instr.BranchOp.TheVariants.{Beq, Bne, Blt, Bge, Bltu, Bgeu}
use Rattle.rept_isa.specs.declared.instr.LoadOp.{LoadOp}
use Rattle.rept_isa.specs.declared.instr.LoadOp.TheVariants.{Lb, Lh, Lw, Lbu, Lhu}
use Rattle.rept_isa.specs.declared.instr.StoreOp.{StoreOp}
use Rattle.rept_isa.specs.declared.instr.StoreOp.TheVariants.{Sb, Sh, Sw}
use Rattle.rept_isa.specs.declared.instr.ImmOp.{ImmOp}
use Rattle.rept_isa.specs.declared.instr.ImmOp.TheVariants.{Addi, Slti, Sltiu, Xori, Ori, Andi, Slli, Srli, Srai}
use Rattle.rept_isa.specs.declared.instr.RegOp.{RegOp}
use Rattle.rept_isa.specs.declared.instr.RegOp.TheVariants.{Add, Sub, Sll, Slt, Sltu, Xor, Srl, Sra, Or, And, Mul, Mulh, Mulhsu, Mulhu, Div, Divu, Rem, Remu}
use Rattle.rept_isa.specs.Words.{field, rd_field, funct3, rs1_field, rs2_field, funct5, funct7, i_immediate, s_immediate, b_immediate, u_immediate, j_immediate}

abbrev pub branch_named : ℕ → Option BranchOp
branch_named n = if n == 0 then Some Beq else if n == 1 then Some Bne else if n == 4 then Some Blt else if n == 5 then Some Bge else if n == 6 then Some Bltu else if n == 7 then Some Bgeu else None

abbrev pub load_named : ℕ → Option LoadOp
load_named n = if n == 0 then Some Lb else if n == 1 then Some Lh else if n == 2 then Some Lw else if n == 4 then Some Lbu else if n == 5 then Some Lhu else None

abbrev pub store_named : ℕ → Option StoreOp
store_named n = if n == 0 then Some Sb else if n == 1 then Some Sh else if n == 2 then Some Sw else None

abbrev pub base_named : ℕ → Option RegOp
base_named n = if n == 0 then Some Add else if n == 1 then Some Sll else if n == 2 then Some Slt else if n == 3 then Some Sltu else if n == 4 then Some Xor else if n == 5 then Some Srl else if n == 6 then Some Or else if n == 7 then Some And else None

abbrev pub other_named : ℕ → Option RegOp
other_named n = if n == 0 then Some Sub else if n == 5 then Some Sra else None

abbrev pub multiply_named : ℕ → Option RegOp
multiply_named n = if n == 0 then Some Mul else if n == 1 then Some Mulh else if n == 2 then Some Mulhsu else if n == 3 then Some Mulhu else if n == 4 then Some Div else if n == 5 then Some Divu else if n == 6 then Some Rem else if n == 7 then Some Remu else None

abbrev pub register_named : ℕ → ℕ → Option RegOp
register_named seven n = if seven == 0 then base_named n else if seven == 32 then other_named n else if seven == 1 then multiply_named n else None

-- the operations whose immediate has 12 bits
abbrev pub wide_named : ℕ → Option ImmOp
wide_named n = if n == 0 then Some Addi else if n == 2 then Some Slti else if n == 3 then Some Sltiu else if n == 4 then Some Xori else if n == 6 then Some Ori else if n == 7 then Some Andi else None

-- the shifts
abbrev pub shift_named : ℕ → ℕ → Option ImmOp
shift_named seven n = if n == 1 then (if seven == 0 then Some Slli else None) else if n == 5 then (if seven == 0 then Some Srli else if seven == 32 then Some Srai else None) else None

-- the operation of bits 27 to 31; the second number is in the place of rs2
abbrev pub amo_named : ℕ → ℕ → Option AmoOp
amo_named five second = if five == 0 then Some atomic.Add else if five == 1 then Some atomic.Swap else if five == 2 then (if second == 0 then Some atomic.Lr else None) else if five == 3 then Some atomic.Sc else if five == 4 then Some atomic.Xor else if five == 8 then Some atomic.Or else if five == 12 then Some atomic.And else if five == 16 then Some atomic.Min else if five == 20 then Some atomic.Max else if five == 24 then Some atomic.Minu else if five == 28 then Some atomic.Maxu else None

abbrev pub read_jalr : ℕ → Option Instr
read_jalr word = if funct3 word == 0 then Some (Jalr (rd_field word) (rs1_field word) (i_immediate word)) else None

abbrev pub read_branch : ℕ → Option Instr
read_branch word = option_map (λ op. Branch op (rs1_field word) (rs2_field word) (b_immediate word)) (branch_named (funct3 word))

abbrev pub read_load : ℕ → Option Instr
read_load word = option_map (λ op. Load op (rd_field word) (rs1_field word) (i_immediate word)) (load_named (funct3 word))

abbrev pub read_store : ℕ → Option Instr
read_store word = option_map (λ op. Store op (rs1_field word) (rs2_field word) (s_immediate word)) (store_named (funct3 word))

abbrev pub read_shift : ℕ → Option Instr
read_shift word = option_map (λ op. Imm op (rd_field word) (rs1_field word) (pos (rs2_field word))) (shift_named (funct7 word) (funct3 word))

abbrev pub read_wide : ℕ → Option Instr
read_wide word = option_map (λ op. Imm op (rd_field word) (rs1_field word) (i_immediate word)) (wide_named (funct3 word))

abbrev pub read_immediate : ℕ → Option Instr
read_immediate word = if funct3 word == 1 || funct3 word == 5 then read_shift word else read_wide word

abbrev pub read_register : ℕ → Option Instr
read_register word = option_map (λ op. Op op (rd_field word) (rs1_field word) (rs2_field word)) (register_named (funct7 word) (funct3 word))

abbrev pub read_amo : ℕ → Option Instr
read_amo word = if funct3 word == 2 then option_map (λ op. Amo op (rd_field word) (rs1_field word) (rs2_field word)) (amo_named (funct5 word) (rs2_field word)) else None

abbrev pub read_fence : ℕ → Option Instr
read_fence word = if nat_lt (funct3 word) 2 then Some Fence else None

abbrev pub is_counter : ℕ → Bool
is_counter csr = csr == 3072 || csr == 3073 || csr == 3074 || csr == 3200 || csr == 3201 || csr == 3202

abbrev pub read_counter : ℕ → Option Instr
read_counter word = if funct3 word == 2 && rs1_field word == 0 && is_counter (field word 20 12) then Some (Counter (rd_field word) (field word 20 12)) else None

abbrev pub read_system : ℕ → Option Instr
read_system word = if word == 115 then Some Ecall else if word == 1048691 then Some Ebreak else read_counter word

-- the instruction of a word with this opcode
abbrev pub read_by : ℕ → ℕ → Option Instr
read_by code word = if code == 55 then Some (Lui (rd_field word) (u_immediate word)) else if code == 23 then Some (Auipc (rd_field word) (u_immediate word)) else if code == 111 then Some (Jal (rd_field word) (j_immediate word)) else if code == 103 then read_jalr word else if code == 99 then read_branch word else if code == 3 then read_load word else if code == 35 then read_store word else if code == 19 then read_immediate word else if code == 51 then read_register word else if code == 47 then read_amo word else if code == 15 then read_fence word else if code == 115 then read_system word else None
