-- Which instructions have a word: each immediate is one that its format can hold (RISC-V
-- unprivileged manual 20191213, chapters 2.2 to 2.6; chapter 8 for the source of LR, 10 for the
-- counters).
use Rattle.std.specs.Prelude.{◌≡◌, ℕ, ◌-◌, ◌%◌, ◌^◌, ◌<◌, ℤ, pos, negsuc}
use Rattle.rept_isa.specs.declared.instr.Instr.{Instr}
use Rattle.rept_isa.specs.declared.instr.Instr.TheVariants.{Lui, Auipc, Jal, Jalr, Branch, Load, Store, Imm, Op, Amo, Fence, Ecall, Ebreak, Counter}
use Rattle.rept_isa.specs.declared.instr.ImmOp.{ImmOp}
use Rattle.rept_isa.specs.declared.instr.ImmOp.TheVariants.{Addi, Slti, Sltiu, Xori, Ori, Andi, Slli, Srli, Srai}
use Rattle.rept_isa.specs.Words.{IsCounter, HasSource}

-- a signed number of so many bits in two's complement; negsuc n is -(n + 1)
abbrev pub InBits : ℕ → ℤ → Type 0
InBits width (pos n) = n < 2 ^ (width - 1)
InBits width (negsuc n) = n < 2 ^ (width - 1)

abbrev pub IsEven : ℤ → Type 0
IsEven (pos n) = n % 2 ≡ 0
IsEven (negsuc n) = n % 2 ≡ 1

-- 0 to 31
abbrev pub IsAmount : ℤ → Type 0
IsAmount (pos n) = n < 32
IsAmount (negsuc n) = ⊥

-- the upper 20 bits of a word
abbrev pub IsUpperPart : ℕ → Type 0
IsUpperPart imm = (imm < 2 ^ 32) × (imm % 2 ^ 12 ≡ 0)

abbrev pub HoldsImmediate : ImmOp → ℤ → Type 0
HoldsImmediate Addi imm = InBits 12 imm
HoldsImmediate Slti imm = InBits 12 imm
HoldsImmediate Sltiu imm = InBits 12 imm
HoldsImmediate Xori imm = InBits 12 imm
HoldsImmediate Ori imm = InBits 12 imm
HoldsImmediate Andi imm = InBits 12 imm
HoldsImmediate Slli imm = IsAmount imm
HoldsImmediate Srli imm = IsAmount imm
HoldsImmediate Srai imm = IsAmount imm

abbrev pub InRange : Instr → Type 0
InRange (Lui rd imm) = IsUpperPart imm
InRange (Auipc rd imm) = IsUpperPart imm
InRange (Jal rd imm) = InBits 21 imm × IsEven imm
InRange (Jalr rd rs1 imm) = InBits 12 imm
InRange (Branch op rs1 rs2 imm) = InBits 13 imm × IsEven imm
InRange (Load op rd rs1 imm) = InBits 12 imm
InRange (Store op rs1 rs2 imm) = InBits 12 imm
InRange (Imm op rd rs1 imm) = HoldsImmediate op imm
InRange (Op op rd rs1 rs2) = Unit {0}
InRange (Amo op rd rs1 rs2) = HasSource op rs2
InRange Fence = Unit {0}
InRange Ecall = Unit {0}
InRange Ebreak = Unit {0}
InRange (Counter rd csr) = IsCounter csr
