-- What a word that the encoder writes is.
use Rattle.std.specs.Prelude.{◌≡◌, ℕ}
use Rattle.std.proofs.Common.{arith, refl, subst, sym}
use Rattle.rept_isa.specs.declared.instr.Instr.{Instr}
use Rattle.rept_isa.specs.declared.instr.Instr.TheVariants.{Lui, Auipc, Jal, Jalr, Branch, Load, Store, Imm, Op, Amo, Fence, Ecall, Ebreak, Counter}
use Rattle.rept_isa.specs.declared.instr.AmoOp.{AmoOp}
use Rattle.rept_isa.specs.Words.{IsWord, IsFence, IsUnordered, full_fence}
use Rattle.rept_isa.specs.Written.{IsWritten}

full_is : IsFence full_fence
full_is = record {
  form = refl;
  operation = omega arith;
}

pub written_spells : (word : ℕ) (i : Instr) → IsWritten word i → IsWord word i
written_spells word (Lui rd imm) h = h
written_spells word (Auipc rd imm) h = h
written_spells word (Jal rd imm) h = h
written_spells word (Jalr rd rs1 imm) h = h
written_spells word (Branch op rs1 rs2 imm) h = h
written_spells word (Load op rd rs1 imm) h = h
written_spells word (Store op rs1 rs2 imm) h = h
written_spells word (Imm op rd rs1 imm) h = h
written_spells word (Op op rd rs1 rs2) h = h
written_spells word (Amo op rd rs1 rs2) h = h.0
written_spells word Fence h = subst IsFence (sym h) full_is
written_spells word Ecall h = h
written_spells word Ebreak h = h
written_spells word (Counter rd csr) h = h

pub written_unordered : (word : ℕ) (i : Instr) → IsWritten word i → (op : AmoOp) (rd rs1 rs2 : ℕ) → i ≡ Amo op rd rs1 rs2 → IsUnordered word
written_unordered word i h op rd rs1 rs2 e = (subst (λ i. IsWritten word i) e h).1

pub written_fence : (word : ℕ) (i : Instr) → IsWritten word i → i ≡ Fence → word ≡ full_fence
written_fence word i h e = subst (λ i. IsWritten word i) e h
