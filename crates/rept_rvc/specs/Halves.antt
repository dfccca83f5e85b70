-- Which instruction a half spells: the C extension on RV32 without floating point (RISC-V
-- unprivileged manual 20191213, chapter 16: 16.2 for the formats, 16.3 to 16.5 for what each
-- instruction expands to, tables 16.5 to 16.7 for the listing). Bit 0 is the least significant. A
-- half that the listing calls reserved, or leaves to custom use or to floating point, spells none;
-- hints are their expansions.
use Rattle.std.specs.Prelude.{◌≡◌, ℕ, ◌+◌, ◌*◌, ◌^◌, ℤ, pos}
use Rattle.rept_isa.specs.declared.instr.Instr.{Instr}
use Rattle.rept_isa.specs.declared.instr.Instr.TheVariants.{Lui, Jal, Jalr, Branch, Load, Store, Imm, Op, Ebreak}
use Rattle.rept_isa.specs.declared.instr.BranchOp.TheVariants.{Beq, Bne}
use Rattle.rept_isa.specs.declared.instr.LoadOp.TheVariants.{Lw}
use Rattle.rept_isa.specs.declared.instr.StoreOp.TheVariants.{Sw}
use Rattle.rept_isa.specs.declared.instr.ImmOp.TheVariants.{Addi, Andi, Slli, Srli, Srai}
use Rattle.rept_isa.specs.declared.instr.RegOp.TheVariants.{Add, Sub, Xor, Or, And}
use Rattle.rept_isa.specs.Numbers.{word}
use Rattle.rept_isa.specs.Words.{field, signed}

-- bits 0 and 1, and bits 13 to 15
abbrev pub quadrant : ℕ → ℕ
quadrant half = field half 0 2

abbrev pub function : ℕ → ℕ
function half = field half 13 3

-- the registers in the places of rd (or rs1) and rs2
abbrev pub rd_field : ℕ → ℕ
rd_field half = field half 7 5

abbrev pub rs2_field : ℕ → ℕ
rs2_field half = field half 2 5

-- the popular registers, x8 to x15, in the places of rs1' (or rd') and rs2' (or rd'): table 16.2
abbrev pub rs1_popular : ℕ → ℕ
rs1_popular half = 8 + field half 7 3

abbrev pub rs2_popular : ℕ → ℕ
rs2_popular half = 8 + field half 2 3

-- the immediates and offsets, each by the bits of the half that it is made of

abbrev pub addi4spn_immediate : ℕ → ℕ
addi4spn_immediate half = 2 ^ 2 * field half 6 1 + 2 ^ 3 * field half 5 1 + 2 ^ 4 * field half 11 2 + 2 ^ 6 * field half 7 4

-- of C.LW and C.SW
abbrev pub word_offset : ℕ → ℕ
word_offset half = 2 ^ 2 * field half 6 1 + 2 ^ 3 * field half 10 3 + 2 ^ 6 * field half 5 1

abbrev pub lwsp_offset : ℕ → ℕ
lwsp_offset half = 2 ^ 2 * field half 4 3 + 2 ^ 5 * field half 12 1 + 2 ^ 6 * field half 2 2

abbrev pub swsp_offset : ℕ → ℕ
swsp_offset half = 2 ^ 2 * field half 9 4 + 2 ^ 6 * field half 7 2

-- of C.ADDI, C.LI and C.ANDI
abbrev pub six_bit_immediate : ℕ → ℤ
six_bit_immediate half = signed 6 (field half 2 5 + 2 ^ 5 * field half 12 1)

abbrev pub addi16sp_immediate : ℕ → ℤ
addi16sp_immediate half = signed 10 (2 ^ 4 * field half 6 1 + 2 ^ 5 * field half 2 1 + 2 ^ 6 * field half 5 1 + 2 ^ 7 * field half 3 2 + 2 ^ 9 * field half 12 1)

-- bits 12 to 17, with the sign above them
abbrev pub lui_immediate : ℕ → ℕ
lui_immediate half = word (signed 18 (2 ^ 12 * field half 2 5 + 2 ^ 17 * field half 12 1))

-- of C.J and C.JAL
abbrev pub jump_offset : ℕ → ℤ
jump_offset half = signed 12 (2 ^ 1 * field half 3 3 + 2 ^ 4 * field half 11 1 + 2 ^ 5 * field half 2 1 + 2 ^ 6 * field half 7 1 + 2 ^ 7 * field half 6 1 + 2 ^ 8 * field half 9 2 + 2 ^ 10 * field half 8 1 + 2 ^ 11 * field half 12 1)

-- of C.BEQZ and C.BNEZ
abbrev pub branch_offset : ℕ → ℤ
branch_offset half = signed 9 (2 ^ 1 * field half 3 2 + 2 ^ 3 * field half 10 2 + 2 ^ 5 * field half 2 1 + 2 ^ 6 * field half 5 2 + 2 ^ 8 * field half 12 1)

-- where the listing has a half: its quadrant and bits 13 to 15
abbrev pub StandsAt : ℕ → ℕ → ℕ → Type 0
StandsAt half q f = (quadrant half ≡ q) × (function half ≡ f)

-- shifts and the operations beside them: bits 10 and 11 tell them apart
abbrev pub IsShift : ℕ → ℕ → Type 0
IsShift half kind = (StandsAt half 1 4) × (field half 10 2 ≡ kind)

-- operations on two popular registers: bit 12, then bits 5 and 6
abbrev pub IsRegister : ℕ → ℕ → Type 0
IsRegister half kind = (IsShift half 3) × (field half 12 1 ≡ 0) × (field half 5 2 ≡ kind)

-- jumps by a register, moves and sums: bit 12 tells them apart
abbrev pub IsMoveHalf : ℕ → ℕ → Type 0
IsMoveHalf half link = (StandsAt half 2 4) × (field half 12 1 ≡ link)

-- the half spells the instruction
pub data IsHalf (half : ℕ) (i : Instr) : Type 0 where
  c_addi4spn : StandsAt half 0 0 → ¬ (addi4spn_immediate half ≡ 0) → i ≡ Imm Addi (rs2_popular half) 2 (pos (addi4spn_immediate half)) → IsHalf half i
  c_lw : StandsAt half 0 2 → i ≡ Load Lw (rs2_popular half) (rs1_popular half) (pos (word_offset half)) → IsHalf half i
  c_sw : StandsAt half 0 6 → i ≡ Store Sw (rs1_popular half) (rs2_popular half) (pos (word_offset half)) → IsHalf half i
  -- with x0, C.NOP
  c_addi : StandsAt half 1 0 → i ≡ Imm Addi (rd_field half) (rd_field half) (six_bit_immediate half) → IsHalf half i
  c_jal : StandsAt half 1 1 → i ≡ Jal 1 (jump_offset half) → IsHalf half i
  c_li : StandsAt half 1 2 → i ≡ Imm Addi (rd_field half) 0 (six_bit_immediate half) → IsHalf half i
  c_addi16sp : StandsAt half 1 3 → rd_field half ≡ 2 → ¬ (addi16sp_immediate half ≡ pos 0) → i ≡ Imm Addi 2 2 (addi16sp_immediate half) → IsHalf half i
  c_lui : StandsAt half 1 3 → ¬ (rd_field half ≡ 2) → ¬ (lui_immediate half ≡ 0) → i ≡ Lui (rd_field half) (lui_immediate half) → IsHalf half i
  c_srli : IsShift half 0 → field half 12 1 ≡ 0 → i ≡ Imm Srli (rs1_popular half) (rs1_popular half) (pos (field half 2 5)) → IsHalf half i
  c_srai : IsShift half 1 → field half 12 1 ≡ 0 → i ≡ Imm Srai (rs1_popular half) (rs1_popular half) (pos (field half 2 5)) → IsHalf half i
  c_andi : IsShift half 2 → i ≡ Imm Andi (rs1_popular half) (rs1_popular half) (six_bit_immediate half) → IsHalf half i
  c_sub : IsRegister half 0 → i ≡ Op Sub (rs1_popular half) (rs1_popular half) (rs2_popular half) → IsHalf half i
  c_xor : IsRegister half 1 → i ≡ Op Xor (rs1_popular half) (rs1_popular half) (rs2_popular half) → IsHalf half i
  c_or : IsRegister half 2 → i ≡ Op Or (rs1_popular half) (rs1_popular half) (rs2_popular half) → IsHalf half i
  c_and : IsRegister half 3 → i ≡ Op And (rs1_popular half) (rs1_popular half) (rs2_popular half) → IsHalf half i
  c_j : StandsAt half 1 5 → i ≡ Jal 0 (jump_offset half) → IsHalf half i
  c_beqz : StandsAt half 1 6 → i ≡ Branch Beq (rs1_popular half) 0 (branch_offset half) → IsHalf half i
  c_bnez : StandsAt half 1 7 → i ≡ Branch Bne (rs1_popular half) 0 (branch_offset half) → IsHalf half i
  c_slli : StandsAt half 2 0 → field half 12 1 ≡ 0 → i ≡ Imm Slli (rd_field half) (rd_field half) (pos (field half 2 5)) → IsHalf half i
  c_lwsp : StandsAt half 2 2 → ¬ (rd_field half ≡ 0) → i ≡ Load Lw (rd_field half) 2 (pos (lwsp_offset half)) → IsHalf half i
  c_jr : IsMoveHalf half 0 → ¬ (rd_field half ≡ 0) → rs2_field half ≡ 0 → i ≡ Jalr 0 (rd_field half) (pos 0) → IsHalf half i
  c_mv : IsMoveHalf half 0 → ¬ (rs2_field half ≡ 0) → i ≡ Op Add (rd_field half) 0 (rs2_field half) → IsHalf half i
  c_ebreak : IsMoveHalf half 1 → rd_field half ≡ 0 → rs2_field half ≡ 0 → i ≡ Ebreak → IsHalf half i
  c_jalr : IsMoveHalf half 1 → ¬ (rd_field half ≡ 0) → rs2_field half ≡ 0 → i ≡ Jalr 1 (rd_field half) (pos 0) → IsHalf half i
  c_add : IsMoveHalf half 1 → ¬ (rs2_field half ≡ 0) → i ≡ Op Add (rd_field half) (rd_field half) (rs2_field half) → IsHalf half i
  c_swsp : StandsAt half 2 6 → i ≡ Store Sw 2 (rs2_field half) (pos (swsp_offset half)) → IsHalf half i
