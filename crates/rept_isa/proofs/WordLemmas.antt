-- A word that spells an instruction is read as that instruction.
use Rattle.std.specs.Prelude.{◌≡◌, ℕ, ◌<◌, true, false, Some, ◌||◌, ◌==◌, ℤ}
use Rattle.std.proofs.Common.{arith, refl, sym, ◌∙◌, subst, inl, inr}
use Rattle.std.proofs.lemmas.Bool.Decides.{nat_tests}
use Rattle.rept_isa.specs.declared.instr.Instr.{Instr}
use Rattle.rept_isa.specs.declared.instr.Instr.TheVariants.{Lui, Auipc, Jal, Jalr, Branch, Load, Store, Imm, Op, Amo, Fence, Ecall, Ebreak, Counter}
use Rattle.rept_isa.specs.declared.instr.AmoOp.{AmoOp}
use Rattle.rept_isa.specs.declared.instr.AmoOp.TheVariants as atomic
use Rattle.rept_isa.specs.declared.instr.BranchOp.{BranchOp}
use Rattle.rept_isa.specs.declared.instr.BranchOp.TheVariants.{Beq, Bne, Blt, Bge, Bltu, Bgeu}
use Rattle.rept_isa.specs.declared.instr.LoadOp.{LoadOp}
use Rattle.rept_isa.specs.declared.instr.LoadOp.TheVariants.{Lb, Lh, Lw, Lbu, Lhu}
use Rattle.rept_isa.specs.declared.instr.StoreOp.{StoreOp}
use Rattle.rept_isa.specs.declared.instr.StoreOp.TheVariants.{Sb, Sh, Sw}
use Rattle.rept_isa.specs.declared.instr.ImmOp.{ImmOp}
use Rattle.rept_isa.specs.declared.instr.ImmOp.TheVariants.{Addi, Slti, Sltiu, Xori, Ori, Andi, Slli, Srli, Srai}
use Rattle.rept_isa.specs.declared.instr.RegOp.{RegOp}
use Rattle.rept_isa.specs.declared.instr.RegOp.TheVariants.{Add, Sub, Sll, Slt, Sltu, Xor, Srl, Sra, Or, And, Mul, Mulh, Mulhsu, Mulhu, Div, Divu, Rem, Remu}
use Rattle.rept_isa.specs.Words.{IsWord, IsCounter, IsUpper, IsJal, IsIForm, IsBranch, IsStore, IsShift, IsRegister, IsAmo, HasSource, IsFence, IsCounterRead, opcode, field, funct3, branch_funct3, load_funct3, store_funct3, op_funct3, op_funct7, amo_funct5}
use Rattle.rept_isa.specs.Reading.{branch_named, load_named, store_named, register_named, amo_named, wide_named, shift_named, is_counter, read_by}

branch_named-funct3 : (op : BranchOp) → branch_named (branch_funct3 op) ≡ Some op
branch_named-funct3 Beq = refl
branch_named-funct3 Bne = refl
branch_named-funct3 Blt = refl
branch_named-funct3 Bge = refl
branch_named-funct3 Bltu = refl
branch_named-funct3 Bgeu = refl

load_named-funct3 : (op : LoadOp) → load_named (load_funct3 op) ≡ Some op
load_named-funct3 Lb = refl
load_named-funct3 Lh = refl
load_named-funct3 Lw = refl
load_named-funct3 Lbu = refl
load_named-funct3 Lhu = refl

store_named-funct3 : (op : StoreOp) → store_named (store_funct3 op) ≡ Some op
store_named-funct3 Sb = refl
store_named-funct3 Sh = refl
store_named-funct3 Sw = refl

register_named-functs : (op : RegOp) → register_named (op_funct7 op) (op_funct3 op) ≡ Some op
register_named-functs Add = refl
register_named-functs Sub = refl
register_named-functs Sll = refl
register_named-functs Slt = refl
register_named-functs Sltu = refl
register_named-functs Xor = refl
register_named-functs Srl = refl
register_named-functs Sra = refl
register_named-functs Or = refl
register_named-functs And = refl
register_named-functs Mul = refl
register_named-functs Mulh = refl
register_named-functs Mulhsu = refl
register_named-functs Mulhu = refl
register_named-functs Div = refl
register_named-functs Divu = refl
register_named-functs Rem = refl
register_named-functs Remu = refl

amo_named-funct5 : (op : AmoOp) (second : ℕ) → HasSource op second → amo_named (amo_funct5 op) second ≡ Some op
amo_named-funct5 atomic.Lr second h = rw h refl
amo_named-funct5 atomic.Sc second h = refl
amo_named-funct5 atomic.Swap second h = refl
amo_named-funct5 atomic.Add second h = refl
amo_named-funct5 atomic.Xor second h = refl
amo_named-funct5 atomic.And second h = refl
amo_named-funct5 atomic.Or second h = refl
amo_named-funct5 atomic.Min second h = refl
amo_named-funct5 atomic.Max second h = refl
amo_named-funct5 atomic.Minu second h = refl
amo_named-funct5 atomic.Maxu second h = refl

-- what is read at a known opcode
at_opcode : (word code : ℕ) (i : Instr) → opcode word ≡ code → read_by code word ≡ Some i → read_by (opcode word) word ≡ Some i
at_opcode word code i e h = rw e h

upper_lui : (word rd imm : ℕ) → IsUpper 55 word rd imm → read_by 55 word ≡ Some (Lui rd imm)
upper_lui word rd imm h = rw (h.target, h.number) refl

upper_auipc : (word rd imm : ℕ) → IsUpper 23 word rd imm → read_by 23 word ≡ Some (Auipc rd imm)
upper_auipc word rd imm h = rw (h.target, h.number) refl

jal : (word rd : ℕ) (imm : ℤ) → IsJal word rd imm → read_by 111 word ≡ Some (Jal rd imm)
jal word rd imm h = rw (h.target, h.number) refl

jalr : (word rd rs1 : ℕ) (imm : ℤ) → IsIForm 103 0 word rd rs1 imm → read_by 103 word ≡ Some (Jalr rd rs1 imm)
jalr word rd rs1 imm h = rw (h.target, h.source, h.number, h.operation) refl

branch : (op : BranchOp) (word rs1 rs2 : ℕ) (imm : ℤ) → IsBranch (branch_funct3 op) word rs1 rs2 imm → read_by 99 word ≡ Some (Branch op rs1 rs2 imm)
branch op word rs1 rs2 imm h = rw (h.first, h.second, h.number, h.operation, branch_named-funct3) refl

load : (op : LoadOp) (word rd rs1 : ℕ) (imm : ℤ) → IsIForm 3 (load_funct3 op) word rd rs1 imm → read_by 3 word ≡ Some (Load op rd rs1 imm)
load op word rd rs1 imm h = rw (h.target, h.source, h.number, h.operation, load_named-funct3) refl

store : (op : StoreOp) (word rs1 rs2 : ℕ) (imm : ℤ) → IsStore (store_funct3 op) word rs1 rs2 imm → read_by 35 word ≡ Some (Store op rs1 rs2 imm)
store op word rs1 rs2 imm h = rw (h.base, h.source, h.number, h.operation, store_named-funct3) refl

register : (op : RegOp) (word rd rs1 rs2 : ℕ) → IsRegister (op_funct3 op) (op_funct7 op) word rd rs1 rs2 → read_by 51 word ≡ Some (Op op rd rs1 rs2)
register op word rd rs1 rs2 h = rw (h.target, h.first, h.second, h.operation, h.high, register_named-functs) refl

wide : (op : ImmOp) (function : ℕ) (word rd rs1 : ℕ) (imm : ℤ) → IsIForm 19 function word rd rs1 imm → wide_named function ≡ Some op → (function == 1 || function == 5) ≡ false → read_by 19 word ≡ Some (Imm op rd rs1 imm)
wide op function word rd rs1 imm h named other = rw (h.target, h.source, h.number, h.operation, other, named) refl

shift : (op : ImmOp) (function seven : ℕ) (word rd rs1 : ℕ) (imm : ℤ) → IsShift function seven word rd rs1 imm → shift_named seven function ≡ Some op → (function == 1 || function == 5) ≡ true → read_by 19 word ≡ Some (Imm op rd rs1 imm)
shift op function seven word rd rs1 imm h named one = rw (h.target, h.source, h.amount, h.operation, one, h.high, named) refl

amo : (op : AmoOp) (word rd rs1 rs2 : ℕ) → IsAmo op word rd rs1 rs2 → read_by 47 word ≡ Some (Amo op rd rs1 rs2)
amo op word rd rs1 rs2 h = rw (h.operation, h.high, ← h.second, ← h.target, ← h.first, amo_named-funct5 op rs2 h.source) refl

fence : (word : ℕ) → IsFence word → read_by 15 word ≡ Some Fence
fence word h = let lt : funct3 word < 2 = h.operation in grind (arith, nat_tests)

counter_is : (csr : ℕ) → IsCounter csr → is_counter csr ≡ true
counter_is csr (inl e) = rw e refl
counter_is csr (inr (inl e)) = rw e refl
counter_is csr (inr (inr (inl e))) = rw e refl
counter_is csr (inr (inr (inr (inl e)))) = rw e refl
counter_is csr (inr (inr (inr (inr (inl e))))) = rw e refl
counter_is csr (inr (inr (inr (inr (inr e))))) = rw e refl

other_word : (word n : ℕ) → (word ≡ n → ⊥) → (word == n) ≡ false
other_word word n h = grind (arith, nat_tests)

-- ECALL and EBREAK have 0 in the place of funct3
counter : (word rd csr : ℕ) → IsCounterRead word rd csr → read_by 115 word ≡ Some (Counter rd csr)
counter word rd csr h =
    let c : is_counter (field word 20 12) ≡ true = subst (λ n. is_counter n ≡ true) h.register (counter_is csr h.counter) in
    let f : (word == 115) ≡ false = other_word word 115 (λ e. let k : funct3 115 ≡ 2 = subst (λ n. funct3 n ≡ 2) e h.operation in absurd (omega (arith, k))) in
    let g : (word == 1048691) ≡ false = other_word word 1048691 (λ e. let k : funct3 1048691 ≡ 2 = subst (λ n. funct3 n ≡ 2) e h.operation in absurd (omega (arith, k))) in
    rw (f, g, h.operation, h.source, c, h.target, h.register) refl

-- The word of an instruction is read as that instruction.
pub reads : (word : ℕ) (i : Instr) → IsWord word i → read_by (opcode word) word ≡ Some i
reads word (Lui rd imm) h = at_opcode word 55 _ h.form (upper_lui word rd imm h)
reads word (Auipc rd imm) h = at_opcode word 23 _ h.form (upper_auipc word rd imm h)
reads word (Jal rd imm) h = at_opcode word 111 _ h.form (jal word rd imm h)
reads word (Jalr rd rs1 imm) h = at_opcode word 103 _ h.form (jalr word rd rs1 imm h)
reads word (Branch op rs1 rs2 imm) h = at_opcode word 99 _ h.form (branch op word rs1 rs2 imm h)
reads word (Load op rd rs1 imm) h = at_opcode word 3 _ h.form (load op word rd rs1 imm h)
reads word (Store op rs1 rs2 imm) h = at_opcode word 35 _ h.form (store op word rs1 rs2 imm h)
reads word (Imm Addi rd rs1 imm) h = at_opcode word 19 _ h.form (wide Addi 0 word rd rs1 imm h refl refl)
reads word (Imm Slti rd rs1 imm) h = at_opcode word 19 _ h.form (wide Slti 2 word rd rs1 imm h refl refl)
reads word (Imm Sltiu rd rs1 imm) h = at_opcode word 19 _ h.form (wide Sltiu 3 word rd rs1 imm h refl refl)
reads word (Imm Xori rd rs1 imm) h = at_opcode word 19 _ h.form (wide Xori 4 word rd rs1 imm h refl refl)
reads word (Imm Ori rd rs1 imm) h = at_opcode word 19 _ h.form (wide Ori 6 word rd rs1 imm h refl refl)
reads word (Imm Andi rd rs1 imm) h = at_opcode word 19 _ h.form (wide Andi 7 word rd rs1 imm h refl refl)
reads word (Imm Slli rd rs1 imm) h = at_opcode word 19 _ h.form (shift Slli 1 0 word rd rs1 imm h refl refl)
reads word (Imm Srli rd rs1 imm) h = at_opcode word 19 _ h.form (shift Srli 5 0 word rd rs1 imm h refl refl)
reads word (Imm Srai rd rs1 imm) h = at_opcode word 19 _ h.form (shift Srai 5 32 word rd rs1 imm h refl refl)
reads word (Op op rd rs1 rs2) h = at_opcode word 51 _ h.form (register op word rd rs1 rs2 h)
reads word (Amo op rd rs1 rs2) h = at_opcode word 47 _ h.form (amo op word rd rs1 rs2 h)
reads word Fence h = at_opcode word 15 _ h.form (fence word h)
reads word Ecall h = rw h refl
reads word Ebreak h = rw h refl
reads word (Counter rd csr) h = at_opcode word 115 _ h.form (counter word rd csr h)

-- So a word spells one instruction.
pub one_instruction : (word : ℕ) (i j : Instr) → IsWord word i → IsWord word j → i ≡ j
one_instruction word i j h k = let e : Some i ≡ Some j = sym (reads word i h) ∙ reads word j k in cc
