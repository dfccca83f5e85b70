-- Which instruction a word spells: RV32I, M, A, Zifencei and the counters of Zicsr (RISC-V
-- unprivileged manual 20191213, chapters 2.2 and 2.3 for the formats, 8 for A, 24 for the listing).
-- Bit 0 is the least significant.
use Rattle.std.specs.Prelude.{◌≡◌, ℕ, suc, ◌+◌, ◌-◌, ◌*◌, ◌/◌, ◌%◌, ◌^◌, ◌<◌, nat_lt, ◌⊎◌, if◌then◌else◌, ℤ, pos, negsuc}
use Rattle.rept_isa.specs.declared.instr.Instr.{Instr}
use Rattle.rept_isa.specs.declared.instr.Instr.TheVariants.{Lui, Auipc, Jal, Jalr, Branch, Load, Store, Imm, Op, Amo, Fence, Ecall, Ebreak, Counter}
use Rattle.rept_isa.specs.declared.instr.AmoOp.{AmoOp}
use Rattle.rept_isa.specs.declared.instr.AmoOp.TheVariants as atomic
use Rattle.rept_isa.specs.declared.instr.BranchOp.{BranchOp}
use Rattle.rept_isa.specs.declared.instr.BranchOp.TheVariants.{Beq, Bne, Blt, Bge, Bltu, Bgeu}
use Rattle.rept_isa.specs.declared.instr.LoadOp.{LoadOp}
use Rattle.rept_isa.specs.declared.instr.LoadOp.TheVariants.{Lb, Lh, Lw, Lbu, Lhu}
use Rattle.rept_isa.specs.declared.instr.StoreOp.{StoreOp}
use Rattle.rept_isa.specs.declared.instr.StoreOp.TheVariants.{Sb, Sh, Sw}
use Rattle.rept_isa.specs.declared.instr.ImmOp.{ImmOp}
use Rattle.rept_isa.specs.declared.instr.ImmOp.TheVariants.{Addi, Slti, Sltiu, Xori, Ori, Andi, Slli, Srli, Srai}
use Rattle.rept_isa.specs.declared.instr.RegOp.{RegOp}
use Rattle.rept_isa.specs.declared.instr.RegOp.TheVariants.{Add, Sub, Sll, Slt, Sltu, Xor, Srl, Sra, Or, And, Mul, Mulh, Mulhsu, Mulhu, Div, Divu, Rem, Remu}

-- the number in so many bits of the word, from bit low on
abbrev pub field : ℕ → ℕ → ℕ → ℕ
field word low width = word / 2 ^ low % 2 ^ width

abbrev pub opcode : ℕ → ℕ
opcode word = field word 0 7

abbrev pub rd_field : ℕ → ℕ
rd_field word = field word 7 5

abbrev pub funct3 : ℕ → ℕ
funct3 word = field word 12 3

abbrev pub rs1_field : ℕ → ℕ
rs1_field word = field word 15 5

abbrev pub rs2_field : ℕ → ℕ
rs2_field word = field word 20 5

abbrev pub funct7 : ℕ → ℕ
funct7 word = field word 25 7

-- the signed number that so many bits are in two's complement
abbrev pub signed : ℕ → ℕ → ℤ
signed width n = if nat_lt n (2 ^ (width - 1)) then pos n else negsuc (2 ^ width - suc n)

abbrev pub i_immediate : ℕ → ℤ
i_immediate word = signed 12 (field word 20 12)

abbrev pub s_immediate : ℕ → ℤ
s_immediate word = signed 12 (field word 7 5 + 2 ^ 5 * field word 25 7)

abbrev pub b_immediate : ℕ → ℤ
b_immediate word = signed 13 (2 ^ 1 * field word 8 4 + 2 ^ 5 * field word 25 6 + 2 ^ 11 * field word 7 1 + 2 ^ 12 * field word 31 1)

abbrev pub u_immediate : ℕ → ℕ
u_immediate word = 2 ^ 12 * field word 12 20

abbrev pub j_immediate : ℕ → ℤ
j_immediate word = signed 21 (2 ^ 1 * field word 21 10 + 2 ^ 11 * field word 20 1 + 2 ^ 12 * field word 12 8 + 2 ^ 20 * field word 31 1)

abbrev pub branch_funct3 : BranchOp → ℕ
branch_funct3 Beq = 0
branch_funct3 Bne = 1
branch_funct3 Blt = 4
branch_funct3 Bge = 5
branch_funct3 Bltu = 6
branch_funct3 Bgeu = 7

abbrev pub load_funct3 : LoadOp → ℕ
load_funct3 Lb = 0
load_funct3 Lh = 1
load_funct3 Lw = 2
load_funct3 Lbu = 4
load_funct3 Lhu = 5

abbrev pub store_funct3 : StoreOp → ℕ
store_funct3 Sb = 0
store_funct3 Sh = 1
store_funct3 Sw = 2

abbrev pub op_funct3 : RegOp → ℕ
op_funct3 Add = 0
op_funct3 Sub = 0
op_funct3 Sll = 1
op_funct3 Slt = 2
op_funct3 Sltu = 3
op_funct3 Xor = 4
op_funct3 Srl = 5
op_funct3 Sra = 5
op_funct3 Or = 6
op_funct3 And = 7
op_funct3 Mul = 0
op_funct3 Mulh = 1
op_funct3 Mulhsu = 2
op_funct3 Mulhu = 3
op_funct3 Div = 4
op_funct3 Divu = 5
op_funct3 Rem = 6
op_funct3 Remu = 7

abbrev pub op_funct7 : RegOp → ℕ
op_funct7 Add = 0
op_funct7 Sub = 32
op_funct7 Sll = 0
op_funct7 Slt = 0
op_funct7 Sltu = 0
op_funct7 Xor = 0
op_funct7 Srl = 0
op_funct7 Sra = 32
op_funct7 Or = 0
op_funct7 And = 0
op_funct7 Mul = 1
op_funct7 Mulh = 1
op_funct7 Mulhsu = 1
op_funct7 Mulhu = 1
op_funct7 Div = 1
op_funct7 Divu = 1
op_funct7 Rem = 1
op_funct7 Remu = 1

-- bits 27 to 31 of an atomic instruction
abbrev pub funct5 : ℕ → ℕ
funct5 word = field word 27 5

abbrev pub amo_funct5 : AmoOp → ℕ
amo_funct5 atomic.Lr = 2
amo_funct5 atomic.Sc = 3
amo_funct5 atomic.Swap = 1
amo_funct5 atomic.Add = 0
amo_funct5 atomic.Xor = 4
amo_funct5 atomic.And = 12
amo_funct5 atomic.Or = 8
amo_funct5 atomic.Min = 16
amo_funct5 atomic.Max = 20
amo_funct5 atomic.Minu = 24
amo_funct5 atomic.Maxu = 28

-- LR has no source: 0 is in the place of rs2
abbrev pub HasSource : AmoOp → ℕ → Type 0
HasSource atomic.Lr rs2 = rs2 ≡ 0
HasSource atomic.Sc rs2 = Unit {0}
HasSource atomic.Swap rs2 = Unit {0}
HasSource atomic.Add rs2 = Unit {0}
HasSource atomic.Xor rs2 = Unit {0}
HasSource atomic.And rs2 = Unit {0}
HasSource atomic.Or rs2 = Unit {0}
HasSource atomic.Min rs2 = Unit {0}
HasSource atomic.Max rs2 = Unit {0}
HasSource atomic.Minu rs2 = Unit {0}
HasSource atomic.Maxu rs2 = Unit {0}

-- LUI (opcode 0x37) and AUIPC (0x17)
pub record IsUpper (code : ℕ) (word rd imm : ℕ) : Type 0 where
  pub form : opcode word ≡ code
  pub target : rd ≡ rd_field word
  pub number : imm ≡ u_immediate word

-- opcode 0x6f
pub record IsJal (word rd : ℕ) (imm : ℤ) : Type 0 where
  pub form : opcode word ≡ 111
  pub target : rd ≡ rd_field word
  pub number : imm ≡ j_immediate word

-- JALR (opcode 0x67) and the loads (0x03)
pub record IsIForm (code function : ℕ) (word rd rs1 : ℕ) (imm : ℤ) : Type 0 where
  pub form : opcode word ≡ code
  pub operation : funct3 word ≡ function
  pub target : rd ≡ rd_field word
  pub source : rs1 ≡ rs1_field word
  pub number : imm ≡ i_immediate word

-- opcode 0x63
pub record IsBranch (function : ℕ) (word rs1 rs2 : ℕ) (imm : ℤ) : Type 0 where
  pub form : opcode word ≡ 99
  pub operation : funct3 word ≡ function
  pub first : rs1 ≡ rs1_field word
  pub second : rs2 ≡ rs2_field word
  pub number : imm ≡ b_immediate word

-- opcode 0x23
pub record IsStore (function : ℕ) (word rs1 rs2 : ℕ) (imm : ℤ) : Type 0 where
  pub form : opcode word ≡ 35
  pub operation : funct3 word ≡ function
  pub base : rs1 ≡ rs1_field word
  pub source : rs2 ≡ rs2_field word
  pub number : imm ≡ s_immediate word

-- the shifts by an immediate (opcode 0x13): the amount is in the place of rs2
pub record IsShift (function seven : ℕ) (word rd rs1 : ℕ) (imm : ℤ) : Type 0 where
  pub form : opcode word ≡ 19
  pub operation : funct3 word ≡ function
  pub high : funct7 word ≡ seven
  pub target : rd ≡ rd_field word
  pub source : rs1 ≡ rs1_field word
  pub amount : imm ≡ pos (rs2_field word)

-- opcode 0x33
pub record IsRegister (function seven : ℕ) (word rd rs1 rs2 : ℕ) : Type 0 where
  pub form : opcode word ≡ 51
  pub operation : funct3 word ≡ function
  pub high : funct7 word ≡ seven
  pub target : rd ≡ rd_field word
  pub first : rs1 ≡ rs1_field word
  pub second : rs2 ≡ rs2_field word

-- opcode 0x2f, and funct3 2 for words of 32 bits. Bits 25 and 26 tell an order of memory accesses,
-- and may be anything.
pub record IsAmo (op : AmoOp) (word rd rs1 rs2 : ℕ) : Type 0 where
  pub form : opcode word ≡ 47
  pub operation : funct3 word ≡ 2
  pub high : funct5 word ≡ amo_funct5 op
  pub target : rd ≡ rd_field word
  pub first : rs1 ≡ rs1_field word
  pub second : rs2 ≡ rs2_field word
  pub source : HasSource op rs2

-- The word asks for no order of memory accesses. So do the words that the encoder writes; a word
-- that is read may ask for any.
abbrev pub IsUnordered : ℕ → Type 0
IsUnordered word = field word 25 2 ≡ 0

-- FENCE and FENCE.I (opcode 0x0f): the other bits tell an order of memory accesses, or are reserved
-- and ignored
pub record IsFence (word : ℕ) : Type 0 where
  pub form : opcode word ≡ 15
  pub operation : funct3 word < 2

-- 0x0ff0000f, the word of `fence iorw, iorw` (chapter 2.7): the one that the encoder writes for a
-- fence
abbrev pub full_fence : ℕ
full_fence = 267386895

-- CYCLE, TIME, INSTRET, CYCLEH, TIMEH and INSTRETH (0xc00 to 0xc02, 0xc80 to 0xc82)
abbrev pub IsCounter : ℕ → Type 0
IsCounter csr = (csr ≡ 3072) ⊎ (csr ≡ 3073) ⊎ (csr ≡ 3074) ⊎ (csr ≡ 3200) ⊎ (csr ≡ 3201) ⊎ (csr ≡ 3202)

-- CSRRS from a counter with x0 (opcode 0x73, funct3 2)
pub record IsCounterRead (word rd csr : ℕ) : Type 0 where
  pub form : opcode word ≡ 115
  pub operation : funct3 word ≡ 2
  pub target : rd ≡ rd_field word
  pub source : rs1_field word ≡ 0
  pub register : csr ≡ field word 20 12
  pub counter : IsCounter csr

-- opcode 0x13
abbrev pub IsImmediate : ImmOp → ℕ → ℕ → ℕ → ℤ → Type 0
IsImmediate Slli word rd rs1 imm = IsShift 1 0 word rd rs1 imm
IsImmediate Srli word rd rs1 imm = IsShift 5 0 word rd rs1 imm
IsImmediate Srai word rd rs1 imm = IsShift 5 32 word rd rs1 imm
IsImmediate Addi word rd rs1 imm = IsIForm 19 0 word rd rs1 imm
IsImmediate Slti word rd rs1 imm = IsIForm 19 2 word rd rs1 imm
IsImmediate Sltiu word rd rs1 imm = IsIForm 19 3 word rd rs1 imm
IsImmediate Xori word rd rs1 imm = IsIForm 19 4 word rd rs1 imm
IsImmediate Ori word rd rs1 imm = IsIForm 19 6 word rd rs1 imm
IsImmediate Andi word rd rs1 imm = IsIForm 19 7 word rd rs1 imm

-- the word spells the instruction
abbrev pub IsWord : ℕ → Instr → Type 0
IsWord word (Lui rd imm) = IsUpper 55 word rd imm
IsWord word (Auipc rd imm) = IsUpper 23 word rd imm
IsWord word (Jal rd imm) = IsJal word rd imm
IsWord word (Jalr rd rs1 imm) = IsIForm 103 0 word rd rs1 imm
IsWord word (Branch op rs1 rs2 imm) = IsBranch (branch_funct3 op) word rs1 rs2 imm
IsWord word (Load op rd rs1 imm) = IsIForm 3 (load_funct3 op) word rd rs1 imm
IsWord word (Store op rs1 rs2 imm) = IsStore (store_funct3 op) word rs1 rs2 imm
IsWord word (Imm op rd rs1 imm) = IsImmediate op word rd rs1 imm
IsWord word (Op op rd rs1 rs2) = IsRegister (op_funct3 op) (op_funct7 op) word rd rs1 rs2
IsWord word (Amo op rd rs1 rs2) = IsAmo op word rd rs1 rs2
IsWord word Fence = IsFence word
IsWord word Ecall = word ≡ 115
IsWord word Ebreak = word ≡ 1048691
IsWord word (Counter rd csr) = IsCounterRead word rd csr
