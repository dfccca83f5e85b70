-- What a step does to the registers and the memory.
use Rattle.std.specs.Prelude.{◌≡◌, ◌≢◌, ℕ, ◌+◌, ◌%◌, ◌^◌, Some, ℤ}
use Rattle.std.proofs.Common.{zero, suc, arith, refl, sym, ◌∙◌, ap, subst, inl, inr}
use Rattle.std.proofs.lemmas.Bool.{cases_order}
use Rattle.std.proofs.lemmas.Bool.Decides.{nat_tests}
use Rattle.rept_isa.specs.declared.instr.Instr.{Instr}
use Rattle.rept_isa.specs.declared.instr.Instr.TheVariants.{Lui, Auipc, Jal, Jalr, Branch, Load, Store, Imm, Op, Amo, Fence, Ecall, Ebreak, Counter}
use Rattle.rept_isa.specs.declared.instr.AmoOp.{AmoOp}
use Rattle.rept_isa.specs.declared.instr.AmoOp.TheVariants as atomic
use Rattle.rept_isa.specs.declared.instr.ImmOp.TheVariants.{Addi}
use Rattle.rept_isa.specs.declared.instr.RegOp.TheVariants.{Add}
use Rattle.rept_isa.specs.declared.row.StepRow.{StepRow}
use Rattle.rept_isa.specs.Numbers.{plus}
use Rattle.rept_isa.specs.Rows.{Addresses, addresses_of}
use Rattle.rept_isa.specs.Operands.{written_by, unless_zero}
use Rattle.rept_machine.specs.State.{State}
use Rattle.rept_machine.specs.Writes.{WritesBy, WritesAtomic}
use Rattle.rept_machine.specs.Step.{IsStep, HasEffect, SetsRegister, Tries}

unless_zero-suc : (n : ℕ) → unless_zero (suc n) ≡ Some (suc n)
unless_zero-suc n = grind (arith, nat_tests)

-- a register other than the one that is set
kept_by_sets : (rd value : ℕ) (s t : State) → SetsRegister rd value s t → (r : ℕ) → unless_zero rd ≢ Some r → t.register r ≡ s.register r
kept_by_sets zero value s t h r other = elim (cases_order r 0) [
  | inl e ↦ rw e (h.lost refl)
  | inr (inl l) ↦ h.others r (omega arith)
  | inr (inr l) ↦ h.others r (omega arith)
]
kept_by_sets (suc rd) value s t h r other = elim (cases_order r (suc rd)) [
  | inl e ↦ absurd (other (unless_zero-suc rd ∙ ap Some (sym e)))
  | inr (inl l) ↦ h.others r (omega arith)
  | inr (inr l) ↦ h.others r (omega arith)
]

-- an SC that succeeds sets its register to 0, and one that fails to the value that it then has
kept_by_try : (rd : ℕ) (s t : State) (a : Addresses) (value base : ℕ) → Tries rd value base a s t → (r : ℕ) → unless_zero rd ≢ Some r → t.register r ≡ s.register r
kept_by_try rd s t a value base (inl h) r other = kept_by_sets rd 0 s t h.result r other
kept_by_try rd s t a value base (inr h) r other = kept_by_sets rd (t.register rd) s t (record { written = λ _. refl; lost = h.lost; others = h.others }) r other

kept : (instr : Instr) (image_end : ℕ) (a : Addresses) (s t : State) → HasEffect instr image_end a s t → (r : ℕ) → written_by instr ≢ Some r → t.register r ≡ s.register r
kept (Lui rd imm) image_end a s t h r other = kept_by_sets rd _ s t h.result r other
kept (Auipc rd imm) image_end a s t h r other = kept_by_sets rd _ s t h.result r other
kept (Jal rd imm) image_end a s t h r other = kept_by_sets rd _ s t h.link r other
kept (Jalr rd rs1 imm) image_end a s t h r other = kept_by_sets rd _ s t h.link r other
kept (Branch op rs1 rs2 imm) image_end a s t h r other = h.registers r
kept (Load op rd rs1 imm) image_end a s t h r other = kept_by_sets rd _ s t h.result r other
kept (Store op rs1 rs2 imm) image_end a s t h r other = h.registers r
kept (Imm op rd rs1 imm) image_end a s t h r other = kept_by_sets rd _ s t h.result r other
kept (Op op rd rs1 rs2) image_end a s t h r other = kept_by_sets rd _ s t h.result r other
kept (Amo atomic.Lr rd rs1 rs2) image_end a s t h r other = kept_by_sets rd _ s t h.result r other
kept (Amo atomic.Sc rd rs1 rs2) image_end a s t h r other = kept_by_try rd s t a _ _ h r other
kept (Amo atomic.Swap rd rs1 rs2) image_end a s t h r other = kept_by_sets rd _ s t h.result r other
kept (Amo atomic.Add rd rs1 rs2) image_end a s t h r other = kept_by_sets rd _ s t h.result r other
kept (Amo atomic.Xor rd rs1 rs2) image_end a s t h r other = kept_by_sets rd _ s t h.result r other
kept (Amo atomic.And rd rs1 rs2) image_end a s t h r other = kept_by_sets rd _ s t h.result r other
kept (Amo atomic.Or rd rs1 rs2) image_end a s t h r other = kept_by_sets rd _ s t h.result r other
kept (Amo atomic.Min rd rs1 rs2) image_end a s t h r other = kept_by_sets rd _ s t h.result r other
kept (Amo atomic.Max rd rs1 rs2) image_end a s t h r other = kept_by_sets rd _ s t h.result r other
kept (Amo atomic.Minu rd rs1 rs2) image_end a s t h r other = kept_by_sets rd _ s t h.result r other
kept (Amo atomic.Maxu rd rs1 rs2) image_end a s t h r other = kept_by_sets rd _ s t h.result r other
kept Fence image_end a s t h r other = h.registers r
kept Ecall image_end a s t h r other = h.others r (λ e. other (ap Some (sym e)))
kept Ebreak image_end a s t h r other = absurd h
kept (Counter rd csr) image_end a s t h r other = kept_by_sets rd (t.register rd) s t (record { written = λ _. refl; lost = h.lost; others = h.others }) r other

-- A step leaves every register as it was but the one that its instruction writes.
pub step-keeps : (image_end : ℕ) (row : StepRow) (s t : State) → IsStep image_end row s t → (r : ℕ) → written_by row.instr ≢ Some r → t.register r ≡ s.register r
step-keeps image_end row s t h r other = kept row.instr image_end (addresses_of row) s t h r other

-- an SC that succeeds writes its word
byte_kept_by_try : (rd : ℕ) (s t : State) (place : Addresses) (value base a : ℕ) → Tries rd value base place s t → (WritesAtomic atomic.Sc rd base t.register a → ⊥) → t.memory a ≡ s.memory a
byte_kept_by_try rd s t place value base a (inl h) out = h.memory.others a (λ k below e. out (h.result.written, (k, below, e)))
byte_kept_by_try rd s t place value base a (inr h) out = h.memory a

byte_kept : (instr : Instr) (image_end : ℕ) (place : Addresses) (s t : State) (a : ℕ) → HasEffect instr image_end place s t → (WritesBy instr image_end s t a → ⊥) → t.memory a ≡ s.memory a
byte_kept (Lui rd imm) image_end place s t a h out = h.memory a
byte_kept (Auipc rd imm) image_end place s t a h out = h.memory a
byte_kept (Jal rd imm) image_end place s t a h out = h.memory a
byte_kept (Jalr rd rs1 imm) image_end place s t a h out = h.memory a
byte_kept (Branch op rs1 rs2 imm) image_end place s t a h out = h.memory a
byte_kept (Load op rd rs1 imm) image_end place s t a h out = h.memory a
byte_kept (Store op rs1 rs2 imm) image_end place s t a h out = h.others a (λ k below e. out (k, below, e))
byte_kept (Imm op rd rs1 imm) image_end place s t a h out = h.memory a
byte_kept (Op op rd rs1 rs2) image_end place s t a h out = h.memory a
byte_kept (Amo atomic.Lr rd rs1 rs2) image_end place s t a h out = h.memory a
byte_kept (Amo atomic.Sc rd rs1 rs2) image_end place s t a h out = byte_kept_by_try rd s t place (s.register rs2) (s.register rs1) a h out
byte_kept (Amo atomic.Swap rd rs1 rs2) image_end place s t a h out = h.memory.others a (λ k below e. out (k, below, e))
byte_kept (Amo atomic.Add rd rs1 rs2) image_end place s t a h out = h.memory.others a (λ k below e. out (k, below, e))
byte_kept (Amo atomic.Xor rd rs1 rs2) image_end place s t a h out = h.memory.others a (λ k below e. out (k, below, e))
byte_kept (Amo atomic.And rd rs1 rs2) image_end place s t a h out = h.memory.others a (λ k below e. out (k, below, e))
byte_kept (Amo atomic.Or rd rs1 rs2) image_end place s t a h out = h.memory.others a (λ k below e. out (k, below, e))
byte_kept (Amo atomic.Min rd rs1 rs2) image_end place s t a h out = h.memory.others a (λ k below e. out (k, below, e))
byte_kept (Amo atomic.Max rd rs1 rs2) image_end place s t a h out = h.memory.others a (λ k below e. out (k, below, e))
byte_kept (Amo atomic.Minu rd rs1 rs2) image_end place s t a h out = h.memory.others a (λ k below e. out (k, below, e))
byte_kept (Amo atomic.Maxu rd rs1 rs2) image_end place s t a h out = h.memory.others a (λ k below e. out (k, below, e))
byte_kept Fence image_end place s t a h out = h.memory a
byte_kept Ecall image_end place s t a h out = h.memory a out
byte_kept Ebreak image_end place s t a h out = absurd h
byte_kept (Counter rd csr) image_end place s t a h out = h.memory a

-- A step leaves each byte as it was that it doesn't write.
pub effect_keeps_byte : (instr : Instr) (image_end : ℕ) (place : Addresses) (s t : State) (a : ℕ) → HasEffect instr image_end place s t → (WritesBy instr image_end s t a → ⊥) → t.memory a ≡ s.memory a
effect_keeps_byte instr image_end place s t a h out = byte_kept instr image_end place s t a h out

-- What is written is told by the registers.
pub written_by_registers : (instr : Instr) (image_end : ℕ) (s t u v : State) (a : ℕ) → s.register ≡ u.register → t.register ≡ v.register → WritesBy instr image_end s t a → WritesBy instr image_end u v a
written_by_registers (Store op rs1 rs2 imm) image_end s t u v a one other w = subst (λ (f : ℕ → ℕ). WritesBy (Store op rs1 rs2 imm) image_end (record { register = f; memory = u.memory }) v a) one w
written_by_registers (Amo op rd rs1 rs2) image_end s t u v a one other w = subst (λ (f : ℕ → ℕ). WritesAtomic op rd (f rs1) v.register a) one (subst (λ (f : ℕ → ℕ). WritesAtomic op rd (s.register rs1) f a) other w)
written_by_registers Ecall image_end s t u v a one other w = subst (λ (f : ℕ → ℕ). WritesBy Ecall image_end (record { register = f; memory = u.memory }) v a) one (subst (λ (f : ℕ → ℕ). WritesBy Ecall image_end s (record { register = f; memory = v.memory }) a) other w)
written_by_registers _ image_end s t u v a one other w = absurd w

-- the value that LUI, ADDI and ADD put into a register other than x0
pub step-lui : (image_end : ℕ) (row : StepRow) (s t : State) (rd imm : ℕ) → IsStep image_end row s t → row.instr ≡ Lui rd imm → rd ≢ 0 → t.register rd ≡ imm
step-lui image_end row s t rd imm h is named =
    let P : Instr → Type 0 = λ i. HasEffect i image_end (addresses_of row) s t in
    let e : HasEffect (Lui rd imm) image_end (addresses_of row) s t = subst P is h in
    e.result.written named

pub step-addi : (image_end : ℕ) (row : StepRow) (s t : State) (rd rs1 : ℕ) (imm : ℤ) → IsStep image_end row s t → row.instr ≡ Imm Addi rd rs1 imm → rd ≢ 0 → t.register rd ≡ plus (s.register rs1) imm
step-addi image_end row s t rd rs1 imm h is named =
    let P : Instr → Type 0 = λ i. HasEffect i image_end (addresses_of row) s t in
    let e : HasEffect (Imm Addi rd rs1 imm) image_end (addresses_of row) s t = subst P is h in
    e.result.written named

pub step-add : (image_end : ℕ) (row : StepRow) (s t : State) (rd rs1 rs2 : ℕ) → IsStep image_end row s t → row.instr ≡ Op Add rd rs1 rs2 → rd ≢ 0 → t.register rd ≡ (s.register rs1 + s.register rs2) % 2 ^ 32
step-add image_end row s t rd rs1 rs2 h is named =
    let P : Instr → Type 0 = λ i. HasEffect i image_end (addresses_of row) s t in
    let e : HasEffect (Op Add rd rs1 rs2) image_end (addresses_of row) s t = subst P is h in
    e.result.written named
