-- How a half is read, a device of the proofs. What a half means is told by `Halves`.
use Rattle.std.specs.Prelude.{ℕ, ◌+◌, ◌*◌, ◌^◌, ◌==◌, Option, Some, None, if◌then◌else◌, pos}
use Rattle.rept_isa.specs.declared.instr.Instr.{Instr}
use Rattle.rept_isa.specs.declared.instr.Instr.TheVariants.{Lui, Jal, Jalr, Branch, Load, Store, Imm, Op, Ebreak}
use Rattle.rept_isa.specs.declared.instr.BranchOp.TheVariants.{Beq, Bne}
use Rattle.rept_isa.specs.declared.instr.LoadOp.TheVariants.{Lw}
use Rattle.rept_isa.specs.declared.instr.StoreOp.TheVariants.{Sw}
use Rattle.rept_isa.specs.declared.instr.ImmOp.{ImmOp}
use Rattle.rept_isa.specs.declared.instr.ImmOp.TheVariants.{Addi, Andi, Slli, Srli, Srai}
use Rattle.rept_isa.specs.declared.instr.RegOp.{RegOp}
use Rattle.rept_isa.specs.declared.instr.RegOp.TheVariants.{Add, Sub, Xor, Or, And}
use Rattle.rept_isa.specs.Words.{field}
use Rattle.rept_rvc.specs.Halves.{rd_field, rs2_field, rs1_popular, rs2_popular, addi4spn_immediate, word_offset, lwsp_offset, swsp_offset, six_bit_immediate, addi16sp_immediate, lui_immediate, jump_offset, branch_offset}

abbrev pub six_bits : ℕ → ℕ
six_bits half = field half 2 5 + 2 ^ 5 * field half 12 1

abbrev pub read_addi4spn : ℕ → Option Instr
read_addi4spn half = if addi4spn_immediate half == 0 then None else Some (Imm Addi (rs2_popular half) 2 (pos (addi4spn_immediate half)))

abbrev pub read_zero : ℕ → ℕ → Option Instr
read_zero f half = if f == 0 then read_addi4spn half else if f == 2 then Some (Load Lw (rs2_popular half) (rs1_popular half) (pos (word_offset half))) else if f == 6 then Some (Store Sw (rs1_popular half) (rs2_popular half) (pos (word_offset half))) else None

abbrev pub read_upper : ℕ → Option Instr
read_upper half = if six_bits half == 0 then None else if rd_field half == 2 then Some (Imm Addi (rd_field half) (rd_field half) (addi16sp_immediate half)) else Some (Lui (rd_field half) (lui_immediate half))

abbrev pub read_shift : ImmOp → ℕ → Option Instr
read_shift op half = if field half 12 1 == 0 then Some (Imm op (rs1_popular half) (rs1_popular half) (pos (field half 2 5))) else None

abbrev pub operation_named : ℕ → RegOp
operation_named n = if n == 0 then Sub else if n == 1 then Xor else if n == 2 then Or else And

abbrev pub read_register : ℕ → Option Instr
read_register half = if field half 12 1 == 0 then Some (Op (operation_named (field half 5 2)) (rs1_popular half) (rs1_popular half) (rs2_popular half)) else None

abbrev pub read_kind : ℕ → ℕ → Option Instr
read_kind kind half = if kind == 0 then read_shift Srli half else if kind == 1 then read_shift Srai half else if kind == 2 then Some (Imm Andi (rs1_popular half) (rs1_popular half) (six_bit_immediate half)) else read_register half

abbrev pub read_operation : ℕ → Option Instr
read_operation half = read_kind (field half 10 2) half

abbrev pub read_one : ℕ → ℕ → Option Instr
read_one f half = if f == 0 then Some (Imm Addi (rd_field half) (rd_field half) (six_bit_immediate half)) else if f == 1 then Some (Jal 1 (jump_offset half)) else if f == 2 then Some (Imm Addi (rd_field half) 0 (six_bit_immediate half)) else if f == 3 then read_upper half else if f == 4 then read_operation half else if f == 5 then Some (Jal 0 (jump_offset half)) else if f == 6 then Some (Branch Beq (rs1_popular half) 0 (branch_offset half)) else if f == 7 then Some (Branch Bne (rs1_popular half) 0 (branch_offset half)) else None

abbrev pub read_slli : ℕ → Option Instr
read_slli half = if field half 12 1 == 0 then Some (Imm Slli (rd_field half) (rd_field half) (pos (field half 2 5))) else None

abbrev pub read_lwsp : ℕ → Option Instr
read_lwsp half = if rd_field half == 0 then None else Some (Load Lw (rd_field half) 2 (pos (lwsp_offset half)))

abbrev pub read_jump : ℕ → ℕ → Option Instr
read_jump link half = if rd_field half == 0 then (if link == 0 then None else Some Ebreak) else Some (Jalr link (rd_field half) (pos 0))

abbrev pub read_linked : ℕ → ℕ → Option Instr
read_linked link half = if rs2_field half == 0 then read_jump link half else Some (Op Add (rd_field half) (if link == 0 then 0 else rd_field half) (rs2_field half))

abbrev pub read_move : ℕ → Option Instr
read_move half = read_linked (field half 12 1) half

abbrev pub read_two : ℕ → ℕ → Option Instr
read_two f half = if f == 0 then read_slli half else if f == 2 then read_lwsp half else if f == 4 then read_move half else if f == 6 then Some (Store Sw 2 (rs2_field half) (pos (swsp_offset half))) else None

-- the instruction of a half with these bits 0 and 1, and 13 to 15
abbrev pub read_by : ℕ → ℕ → ℕ → Option Instr
read_by q f half = if q == 0 then read_zero f half else if q == 1 then read_one f half else if q == 2 then read_two f half else None
