-- How an instruction is written (RISC-V assembly programmer's manual): registers by number,
-- immediates in signed decimal, the target of a jump or branch as its address.
use Rattle.std.specs.Prelude.{ℕ, ◌+◌, ◌/◌, ◌%◌, ◌^◌, List, [], ◌∷◌, ◌++◌, map, nat_lt, if◌then◌else◌, codes, ℤ, pos}
use Rattle.std.specs.Fmt.{decimal, signed_decimal, digits}
use Rattle.std.specs.Prelude.{false}
use Rattle.rept_isa.specs.declared.instr.Instr.{Instr}
use Rattle.rept_isa.specs.declared.instr.Instr.TheVariants.{Lui, Auipc, Jal, Jalr, Branch, Load, Store, Imm, Op, Amo, Fence, Ecall, Ebreak, Counter}
use Rattle.rept_isa.specs.declared.instr.AmoOp.{AmoOp}
use Rattle.rept_isa.specs.declared.instr.AmoOp.TheVariants as atomic
use Rattle.rept_isa.specs.declared.instr.BranchOp.{BranchOp}
use Rattle.rept_isa.specs.declared.instr.BranchOp.TheVariants.{Beq, Bne, Blt, Bge, Bltu, Bgeu}
use Rattle.rept_isa.specs.declared.instr.LoadOp.{LoadOp}
use Rattle.rept_isa.specs.declared.instr.LoadOp.TheVariants.{Lb, Lh, Lw, Lbu, Lhu}
use Rattle.rept_isa.specs.declared.instr.StoreOp.{StoreOp}
use Rattle.rept_isa.specs.declared.instr.StoreOp.TheVariants.{Sb, Sh, Sw}
use Rattle.rept_isa.specs.declared.instr.ImmOp.{ImmOp}
use Rattle.rept_isa.specs.declared.instr.ImmOp.TheVariants.{Addi, Slti, Sltiu, Xori, Ori, Andi, Slli, Srli, Srai}
use Rattle.rept_isa.specs.declared.instr.RegOp.{RegOp}
use Rattle.rept_isa.specs.declared.instr.RegOp.TheVariants.{Add, Sub, Sll, Slt, Sltu, Xor, Srl, Sra, Or, And, Mul, Mulh, Mulhsu, Mulhu, Div, Divu, Rem, Remu}
use Rattle.rept_isa.specs.Numbers.{plus}

abbrev pub register_text : ℕ → List ℕ
register_text n = codes "x" ++ decimal n

abbrev pub hex_digit : ℕ → ℕ
hex_digit digit = if nat_lt digit 10 then 48 + digit else 87 + digit

-- 0x and eight digits, the highest first
unfoldable pub address_text : ℕ → List ℕ
address_text n = codes "0x" ++ map (λ bit. hex_digit (n / 2 ^ bit % 16)) (28 ∷ 24 ∷ 20 ∷ 16 ∷ 12 ∷ 8 ∷ 4 ∷ 0 ∷ [])

-- 0x and the digits without leading zeros
abbrev pub hex_text : ℕ → List ℕ
hex_text n = codes "0x" ++ digits 16 false n

abbrev pub branch_name : BranchOp → List ℕ
branch_name Beq = codes "beq"
branch_name Bne = codes "bne"
branch_name Blt = codes "blt"
branch_name Bge = codes "bge"
branch_name Bltu = codes "bltu"
branch_name Bgeu = codes "bgeu"

abbrev pub load_name : LoadOp → List ℕ
load_name Lb = codes "lb"
load_name Lh = codes "lh"
load_name Lw = codes "lw"
load_name Lbu = codes "lbu"
load_name Lhu = codes "lhu"

abbrev pub store_name : StoreOp → List ℕ
store_name Sb = codes "sb"
store_name Sh = codes "sh"
store_name Sw = codes "sw"

abbrev pub imm_name : ImmOp → List ℕ
imm_name Addi = codes "addi"
imm_name Slti = codes "slti"
imm_name Sltiu = codes "sltiu"
imm_name Xori = codes "xori"
imm_name Ori = codes "ori"
imm_name Andi = codes "andi"
imm_name Slli = codes "slli"
imm_name Srli = codes "srli"
imm_name Srai = codes "srai"

abbrev pub op_name : RegOp → List ℕ
op_name Add = codes "add"
op_name Sub = codes "sub"
op_name Sll = codes "sll"
op_name Slt = codes "slt"
op_name Sltu = codes "sltu"
op_name Xor = codes "xor"
op_name Srl = codes "srl"
op_name Sra = codes "sra"
op_name Or = codes "or"
op_name And = codes "and"
op_name Mul = codes "mul"
op_name Mulh = codes "mulh"
op_name Mulhsu = codes "mulhsu"
op_name Mulhu = codes "mulhu"
op_name Div = codes "div"
op_name Divu = codes "divu"
op_name Rem = codes "rem"
op_name Remu = codes "remu"

abbrev pub amo_name : AmoOp → List ℕ
amo_name atomic.Lr = codes "lr.w"
amo_name atomic.Sc = codes "sc.w"
amo_name atomic.Swap = codes "amoswap.w"
amo_name atomic.Add = codes "amoadd.w"
amo_name atomic.Xor = codes "amoxor.w"
amo_name atomic.And = codes "amoand.w"
amo_name atomic.Or = codes "amoor.w"
amo_name atomic.Min = codes "amomin.w"
amo_name atomic.Max = codes "amomax.w"
amo_name atomic.Minu = codes "amominu.w"
amo_name atomic.Maxu = codes "amomaxu.w"

-- the name of an atomic instruction, its result, its source and its address
abbrev pub with_source : List ℕ → ℕ → ℕ → ℕ → List ℕ
with_source name rd rs1 rs2 = name ++ codes " " ++ register_text rd ++ codes "," ++ register_text rs2 ++ codes ",(" ++ register_text rs1 ++ codes ")"

-- LR has no source
abbrev pub amo_text : AmoOp → ℕ → ℕ → ℕ → List ℕ
amo_text atomic.Lr rd rs1 rs2 = amo_name atomic.Lr ++ codes " " ++ register_text rd ++ codes ",(" ++ register_text rs1 ++ codes ")"
amo_text atomic.Sc rd rs1 rs2 = with_source (amo_name atomic.Sc) rd rs1 rs2
amo_text atomic.Swap rd rs1 rs2 = with_source (amo_name atomic.Swap) rd rs1 rs2
amo_text atomic.Add rd rs1 rs2 = with_source (amo_name atomic.Add) rd rs1 rs2
amo_text atomic.Xor rd rs1 rs2 = with_source (amo_name atomic.Xor) rd rs1 rs2
amo_text atomic.And rd rs1 rs2 = with_source (amo_name atomic.And) rd rs1 rs2
amo_text atomic.Or rd rs1 rs2 = with_source (amo_name atomic.Or) rd rs1 rs2
amo_text atomic.Min rd rs1 rs2 = with_source (amo_name atomic.Min) rd rs1 rs2
amo_text atomic.Max rd rs1 rs2 = with_source (amo_name atomic.Max) rd rs1 rs2
amo_text atomic.Minu rd rs1 rs2 = with_source (amo_name atomic.Minu) rd rs1 rs2
amo_text atomic.Maxu rd rs1 rs2 = with_source (amo_name atomic.Maxu) rd rs1 rs2

-- an address that a register and an immediate give
abbrev pub place_text : ℤ → ℕ → List ℕ
place_text imm rs1 = signed_decimal imm ++ codes "(" ++ register_text rs1 ++ codes ")"

-- how far a direct jump or a branch leads
abbrev pub offset_of : Instr → ℤ
offset_of (Jal rd imm) = imm
offset_of (Branch op rs1 rs2 imm) = imm
offset_of _ = pos 0

-- the instruction at this address
abbrev pub instruction_text : ℕ → Instr → List ℕ
instruction_text address (Lui rd imm) = codes "lui " ++ register_text rd ++ codes "," ++ hex_text (imm / 2 ^ 12)
instruction_text address (Auipc rd imm) = codes "auipc " ++ register_text rd ++ codes "," ++ hex_text (imm / 2 ^ 12)
instruction_text address (Jal rd imm) = codes "jal " ++ register_text rd ++ codes "," ++ address_text (plus address imm)
instruction_text address (Jalr rd rs1 imm) = codes "jalr " ++ register_text rd ++ codes "," ++ place_text imm rs1
instruction_text address (Branch op rs1 rs2 imm) = branch_name op ++ codes " " ++ register_text rs1 ++ codes "," ++ register_text rs2 ++ codes "," ++ address_text (plus address imm)
instruction_text address (Load op rd rs1 imm) = load_name op ++ codes " " ++ register_text rd ++ codes "," ++ place_text imm rs1
instruction_text address (Store op rs1 rs2 imm) = store_name op ++ codes " " ++ register_text rs2 ++ codes "," ++ place_text imm rs1
instruction_text address (Imm op rd rs1 imm) = imm_name op ++ codes " " ++ register_text rd ++ codes "," ++ register_text rs1 ++ codes "," ++ signed_decimal imm
instruction_text address (Op op rd rs1 rs2) = op_name op ++ codes " " ++ register_text rd ++ codes "," ++ register_text rs1 ++ codes "," ++ register_text rs2
instruction_text address (Amo op rd rs1 rs2) = amo_text op rd rs1 rs2
instruction_text address Fence = codes "fence"
instruction_text address Ecall = codes "ecall"
instruction_text address Ebreak = codes "ebreak"
instruction_text address (Counter rd csr) = codes "csrrs " ++ register_text rd ++ codes "," ++ hex_text csr ++ codes ",x0"
