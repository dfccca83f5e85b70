-- The word that the encoder writes for an instruction. This project's own.
use Rattle.std.specs.Prelude.{◌≡◌, ℕ}
use Rattle.rept_isa.specs.declared.instr.Instr.{Instr}
use Rattle.rept_isa.specs.declared.instr.Instr.TheVariants.{Lui, Auipc, Jal, Jalr, Branch, Load, Store, Imm, Op, Amo, Fence, Ecall, Ebreak, Counter}
use Rattle.rept_isa.specs.Words.{IsWord, IsAmo, IsUnordered, full_fence}

-- it spells the instruction; an atomic one asks for no order of memory accesses, and a fence is the
-- full one
abbrev pub IsWritten : ℕ → Instr → Type 0
IsWritten word (Lui rd imm) = IsWord word (Lui rd imm)
IsWritten word (Auipc rd imm) = IsWord word (Auipc rd imm)
IsWritten word (Jal rd imm) = IsWord word (Jal rd imm)
IsWritten word (Jalr rd rs1 imm) = IsWord word (Jalr rd rs1 imm)
IsWritten word (Branch op rs1 rs2 imm) = IsWord word (Branch op rs1 rs2 imm)
IsWritten word (Load op rd rs1 imm) = IsWord word (Load op rd rs1 imm)
IsWritten word (Store op rs1 rs2 imm) = IsWord word (Store op rs1 rs2 imm)
IsWritten word (Imm op rd rs1 imm) = IsWord word (Imm op rd rs1 imm)
IsWritten word (Op op rd rs1 rs2) = IsWord word (Op op rd rs1 rs2)
IsWritten word (Amo op rd rs1 rs2) = IsAmo op word rd rs1 rs2 × IsUnordered word
IsWritten word Fence = word ≡ full_fence
IsWritten word Ecall = IsWord word Ecall
IsWritten word Ebreak = IsWord word Ebreak
IsWritten word (Counter rd csr) = IsWord word (Counter rd csr)
