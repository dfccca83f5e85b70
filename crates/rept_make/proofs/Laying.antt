-- A step near the data is one on memories laid over the program's bytes, too.
use Rattle.std.proofs.Common.{◌≡◌, ℕ, ◌≤◌, List, nat_lt, ℤ, pos, negsuc, false, refl, sym, ◌∙◌, ap, subst, arith, inl, inr}
use Rattle.std.proofs.Math.Bool.{and-false}
use Rattle.std.proofs.lemmas.Bool.Decides.{nat_tests}
use Rattle.rept_isa.specs.declared.instr.Instr.{Instr}
use Rattle.rept_isa.specs.declared.instr.Instr.TheVariants.{Lui, Auipc, Jal, Jalr, Branch, Load, Store, Imm, Op, Amo, Fence, Ecall, Ebreak, Counter}
use Rattle.rept_isa.specs.declared.instr.LoadOp.TheVariants.{Lw}
use Rattle.rept_isa.specs.declared.instr.StoreOp.{StoreOp}
use Rattle.rept_isa.specs.declared.instr.ImmOp.TheVariants.{Addi}
use Rattle.std.proofs.lemmas.Bool.{cases_eq}
use Rattle.rept_isa.specs.Numbers.{word, plus, beside}
use Rattle.rept_isa.specs.Rows.{Addresses}
use Rattle.rept_machine.specs.State.{State}
use Rattle.rept_machine.specs.Arithmetic.{loaded, store_width}
use Rattle.rept_machine.specs.Step.{SameMemory, HasEffect}
use Rattle.rept_machine.specs.Choices.{Picks}
use Rattle.rept_make.specs.Code.{IsTame, IsPlaced}
use Rattle.rept_make.specs.Near.{Near}
use Rattle.rept_make.specs.Laid.{laid_byte, laid}

not_below : (a : ℕ) → 66560 ≤ a → nat_lt a 66560 ≡ false
not_below a h = grind (arith, nat_tests)

pub off_code : (body : List ℕ) (a byte : ℕ) → 66560 ≤ a → laid_byte body a byte ≡ byte
off_code body a byte h =
    let e : nat_lt a 66560 ≡ false = not_below a h in
    rw (e, and-false) refl

same_laid : (body : List ℕ) (s t : State) → SameMemory s t → SameMemory (laid body s) (laid body t)
same_laid body s t m = λ a. ap (laid_byte body a) (m a)

-- the data is reached after the code
near_data : (s : State) (imm k : ℕ) → Near s → imm ≤ 3 → k ≤ 3 → 66560 ≤ beside (plus (s.register 22) (pos imm)) k
unfolding word
near_data s imm k n small few =
    let r = n.reached in
    let f = n.few in
    omega arith

loads : (body : List ℕ) (s : State) → Near s → loaded Lw (laid body s).memory (plus (s.register 22) (pos 0)) ≡ loaded Lw s.memory (plus (s.register 22) (pos 0))
loads body s n =
    let b : ℕ = plus (s.register 22) (pos 0) in
    let m : (k : ℕ) → k ≤ 3 → (laid body s).memory (beside (plus (s.register 22) (pos 0)) k) ≡ s.memory (beside (plus (s.register 22) (pos 0)) k) = λ k le. off_code body (beside (plus (s.register 22) (pos 0)) k) (s.memory (beside (plus (s.register 22) (pos 0)) k)) (near_data s 0 k n (omega arith) le) in
    let m0 = m 0 (omega arith) in
    let m1 = m 1 (omega arith) in
    let m2 = m 2 (omega arith) in
    let m3 = m 3 (omega arith) in
    rw (m0, m1, m2, m3) refl

module _ (body : List ℕ) (place : Addresses) (s t : State) (n : Near s) where
  stores : (op : StoreOp) (rs1 rs2 j : ℕ) (imm : ℤ) (image_end : ℕ) → plus (s.register rs1) imm ≡ plus (s.register 22) (pos j) → j ≤ 3 → store_width op ≤ 4 → HasEffect (Store op rs1 rs2 imm) image_end place s t → HasEffect (Store op rs1 rs2 imm) image_end place (laid body s) (laid body t)
  stores op rs1 rs2 j imm e base small narrow h = record {
    registers = h.registers;
    written = λ k lt. off_code body (beside (plus (s.register rs1) imm) k) _ (subst (λ (b : ℕ). 66560 ≤ beside b k) (sym base) (near_data s j k n small (omega arith))) ∙ h.written k lt;
    others = λ a away. ap (laid_byte body a) (h.others a away);
    onward = h.onward;
  }

  pub laid_effect : (instr : Instr) (image_end : ℕ) → IsTame instr → HasEffect instr image_end place s t → HasEffect instr image_end place (laid body s) (laid body t)
  laid_effect (Imm op rd rs1 imm) e f h = record { result = record { written = h.result.written; lost = h.result.lost; others = h.result.others }; memory = same_laid body s t h.memory; onward = h.onward }
  laid_effect (Op op rd rs1 rs2) e f h = record { result = record { written = h.result.written; lost = h.result.lost; others = h.result.others }; memory = same_laid body s t h.memory; onward = h.onward }
  laid_effect (Load op rd rs1 imm) e f h =
      let v : loaded op s.memory (plus (s.register rs1) imm) ≡ loaded op (laid body s).memory (plus (s.register rs1) imm) = rw (f.1, f.2, f.3) (sym (loads body s n)) in
      record { result = record { written = λ some. h.result.written some ∙ v; lost = h.result.lost; others = h.result.others }; memory = same_laid body s t h.memory; onward = h.onward }
  laid_effect (Store op rs1 rs2 imm) e f h = elim f.1 [
    | inl g ↦ stores op rs1 rs2 0 imm e (rw (f.0, g.1) refl) (omega arith) (rw g.0 (omega arith)) h
    | inr g ↦ stores op rs1 rs2 3 imm e (rw (f.0, g.1) refl) (omega arith) (rw g.0 (omega arith)) h
  ]
  laid_effect (Branch op rs1 rs2 imm) e f h = record { registers = h.registers; memory = same_laid body s t h.memory; onward = h.onward }
  laid_effect (Lui rd imm) e f h = absurd f
  laid_effect (Auipc rd imm) e f h = absurd f
  laid_effect (Jal rd imm) e f h = absurd f
  laid_effect (Jalr rd rs1 imm) e f h = absurd f
  laid_effect (Amo op rd rs1 rs2) e f h = absurd f
  laid_effect Fence e f h = absurd f
  laid_effect Ecall e f h = absurd f
  laid_effect Ebreak e f h = absurd f
  laid_effect (Counter rd csr) e f h = absurd f

  laid_jump : (rd imm : ℕ) (image_end : ℕ) → HasEffect (Jalr rd 23 (pos imm)) image_end place s t → HasEffect (Jalr rd 23 (pos imm)) image_end place (laid body s) (laid body t)
  laid_jump rd imm e h = record { link = record { written = h.link.written; lost = h.link.lost; others = h.link.others }; memory = same_laid body s t h.memory; onward = h.onward }

  laid_back : (rd : ℕ) (imm : ℤ) (image_end : ℕ) → HasEffect (Jal rd imm) image_end place s t → HasEffect (Jal rd imm) image_end place (laid body s) (laid body t)
  laid_back rd imm e h = record { link = record { written = h.link.written; lost = h.link.lost; others = h.link.others }; memory = same_laid body s t h.memory; onward = h.onward }

  laid_number : (image_end : ℕ) → HasEffect (Imm Addi 17 0 (pos 172)) image_end place s t → HasEffect (Imm Addi 17 0 (pos 172)) image_end place (laid body s) (laid body t)
  laid_number e h = record { result = record { written = h.result.written; lost = h.result.lost; others = h.result.others }; memory = same_laid body s t h.memory; onward = h.onward }

  laid_call : (image_end : ℕ) → Picks Ecall s t → HasEffect Ecall image_end place s t → HasEffect Ecall image_end place (laid body s) (laid body t)
  laid_call e p h = record { others = h.others; memory = λ a no_change. ap (laid_byte body a) (p.1 a); onward = h.onward }

  pub laid_step : (slot : ℕ) (instr : Instr) (image_end : ℕ) → IsPlaced slot instr → Picks instr s t → HasEffect instr image_end place s t → HasEffect instr image_end place (laid body s) (laid body t)
  laid_step slot instr e p picks h = elim (cases_eq slot 64) [
    | inl x ↦ let i = p.jump x in subst (λ (y : Instr). HasEffect y e place (laid body s) (laid body t)) (sym i) (laid_jump 1 0 e (subst (λ (y : Instr). HasEffect y e place s t) i h))
    | inr a ↦ elim (cases_eq slot 191) [
      | inl x ↦ let i = p.number x in subst (λ (y : Instr). HasEffect y e place (laid body s) (laid body t)) (sym i) (laid_number e (subst (λ (y : Instr). HasEffect y e place s t) i h))
      | inr b ↦ elim (cases_eq slot 192) [
        | inl x ↦ let i = p.call x in subst (λ (y : Instr). HasEffect y e place (laid body s) (laid body t)) (sym i) (laid_call e (subst (λ (y : Instr). Picks y s t) i picks) (subst (λ (y : Instr). HasEffect y e place s t) i h))
        | inr c ↦ elim (cases_eq slot 255) [
          | inl x ↦ let i = p.back x in subst (λ (y : Instr). HasEffect y e place (laid body s) (laid body t)) (sym i) (laid_back 0 (negsuc 1019) e (subst (λ (y : Instr). HasEffect y e place s t) i h))
          | inr d ↦ laid_effect instr e (p.tame a b c d) h
        ]
      ]
    ]
  ]
