-- Each instruction of a made program keeps the data registers near their place, and goes to a slot
-- of the code.
use Rattle.std.proofs.Common.{◌≡◌, ◌≢◌, ℕ, ◌+◌, ◌*◌, ◌%◌, ◌^◌, ◌<◌, ◌≤◌, ℤ, pos, negsuc, Bool, true, false, cond, refl, sym, ◌∙◌, subst, arith, inl, inr}
use Rattle.std.proofs.lemmas.Bool.{cases_eq}
use Rattle.std.proofs.lemmas.Nat.{and_le_r}
use Rattle.rept_isa.specs.declared.instr.Instr.{Instr}
use Rattle.rept_isa.specs.declared.instr.Instr.TheVariants.{Lui, Auipc, Jal, Jalr, Branch, Load, Store, Imm, Op, Amo, Fence, Ecall, Ebreak, Counter}
use Rattle.rept_isa.specs.declared.instr.ImmOp.{ImmOp}
use Rattle.rept_isa.specs.declared.instr.ImmOp.TheVariants.{Addi, Andi}
use Rattle.rept_isa.specs.Numbers.{word, plus, following}
use Rattle.rept_isa.specs.Rows.{of_word}
use Rattle.rept_machine.specs.State.{State}
use Rattle.rept_machine.specs.Arithmetic.{computed, computed_imm, branch_holds}
use Rattle.rept_machine.specs.Step.{SetsRegister, HasEffect}
use Rattle.rept_make.specs.Code.{IsTame, IsStraight, IsPlaced}
use Rattle.rept_make.specs.Near.{Near}

-- a slot of the code
abbrev pub InCode : ℕ → Type 0
InCode next = (j : ℕ) × (j < 256) × (next ≡ 65536 + 4 * j)

near_same : (s t : State) → Near s → t.register 17 ≡ s.register 17 → t.register 20 ≡ s.register 20 → t.register 21 ≡ s.register 21 → t.register 22 ≡ s.register 22 → t.register 23 ≡ s.register 23 → Near t
near_same s t n a b c d e = record { number = a ∙ n.number; place = b ∙ n.place; offset = (let o = n.offset in omega arith); far = n.far; reached = d ∙ n.reached; few = n.few; target = e ∙ n.target }

near_sets : (rd value : ℕ) (s t : State) → Near s → SetsRegister rd value s t → 17 ≢ rd → 20 ≢ rd → 21 ≢ rd → 22 ≢ rd → 23 ≢ rd → Near t
near_sets rd value s t n w a b c d e = near_same s t n (w.others 17 a) (w.others 20 b) (w.others 21 c) (w.others 22 d) (w.others 23 e)

near_free : (rd value : ℕ) (s t : State) → Near s → SetsRegister rd value s t → rd ≤ 15 → Near t
near_free rd value s t n w le = near_sets rd value s t n w (λ e. omega arith) (λ e. omega arith) (λ e. omega arith) (λ e. omega arith) (λ e. omega arith)

follows : (at slot : ℕ) → at ≡ 65536 + 4 * slot → slot < 255 → InCode (following at)
follows at slot e lt = (slot + 1, omega arith, omega arith)

masked : (value : ℕ) (s t : State) → Near s → SetsRegister 21 value s t → value ≤ 1020 → Near t
masked value s t n w le =
    let v : t.register 21 ≡ value = w.written (λ e. omega arith) in
    record {
      number = w.others 17 (λ e. omega arith) ∙ n.number;
      place = w.others 20 (λ e. omega arith) ∙ n.place;
      offset = omega arith;
      far = n.far;
      reached = w.others 22 (λ e. omega arith) ∙ n.reached;
      few = n.few;
      target = w.others 23 (λ e. omega arith) ∙ n.target;
    }

added : (value : ℕ) (s t : State) → Near s → SetsRegister 22 value s t → value ≡ (s.register 20 + s.register 21) % 2 ^ 32 → Near t
added value s t n w is =
    let v : t.register 22 ≡ value = w.written (λ e. omega arith) in
    let p = n.place in
    let o = n.offset in
    record {
      number = w.others 17 (λ e. omega arith) ∙ n.number;
      place = w.others 20 (λ e. omega arith) ∙ n.place;
      offset = (let c : t.register 21 ≡ s.register 21 = w.others 21 (λ e. omega arith) in omega arith);
      far = s.register 21;
      reached = omega arith;
      few = o;
      target = w.others 23 (λ e. omega arith) ∙ n.target;
    }

mask_small : (a : ℕ) → computed_imm Andi a (pos 1020) ≤ 1020
unfolding word
mask_small a = and_le_r a 1020

skip : (at slot : ℕ) → at ≡ 65536 + 4 * slot → slot < 254 → InCode (plus at (pos 8))
unfolding word
skip at slot e lt = (slot + 2, omega arith, omega arith)

either : (b : Bool) (x y : ℕ) → InCode x → InCode y → InCode (cond b x y)
either true x y a c = a
either false x y a c = c

abbrev pub Next : State → ℕ → Type 0
Next t next = Near t × InCode next

module _ (at slot next : ℕ) (s t : State) (here : at ≡ 65536 + 4 * slot) (n : Near s) where
  onward : next ≡ following at → slot < 255 → InCode next
  onward e lt = subst InCode (sym e) (follows at slot here lt)

  tame : (instr : Instr) (image_end : ℕ) → IsTame instr → slot < 255 → (slot ≡ 254 → IsStraight instr) → HasEffect instr image_end (of_word at next) s t → Next t next
  tame (Imm op rd rs1 imm) e free lt straight h = elim free [
    | inl f ↦ (near_free rd _ s t n h.result f.1, onward h.onward lt)
    | inr f ↦ (let w : SetsRegister 21 (computed_imm Andi (s.register rs1) (pos 1020)) s t = subst (λ (r : ℕ). SetsRegister r (computed_imm Andi (s.register rs1) (pos 1020)) s t) f.1 (subst (λ (z : ℤ). SetsRegister rd (computed_imm Andi (s.register rs1) z) s t) f.2 (subst (λ (o : ImmOp). SetsRegister rd (computed_imm o (s.register rs1) imm) s t) f.0 h.result)) in masked _ s t n w (mask_small (s.register rs1)), onward h.onward lt)
  ]
  tame (Op op rd rs1 rs2) e free lt straight h = elim free [
    | inl f ↦ (near_free rd _ s t n h.result f.1, onward h.onward lt)
    | inr f ↦ (let v : computed op (s.register rs1) (s.register rs2) ≡ (s.register 20 + s.register 21) % 2 ^ 32 = rw (f.0, f.2, f.3) refl in let w : SetsRegister 22 (computed op (s.register rs1) (s.register rs2)) s t = subst (λ (r : ℕ). SetsRegister r (computed op (s.register rs1) (s.register rs2)) s t) f.1 h.result in added _ s t n w v, onward h.onward lt)
  ]
  tame (Load op rd rs1 imm) e f lt straight h = (let free = f.0 in near_free rd _ s t n h.result free.1, onward h.onward lt)
  tame (Store op rs1 rs2 imm) e f lt straight h = (let r = h.registers in near_same s t n (r 17) (r 20) (r 21) (r 22) (r 23), onward h.onward lt)
  tame (Branch op rs1 rs2 imm) e f lt straight h =
      let r = h.registers in
      let below : slot < 254 = elim (cases_eq slot 254) [ inl x ↦ absurd (straight x) | inr x ↦ omega arith ] in
      let two : InCode (plus at imm) = subst (λ (z : ℤ). InCode (plus at z)) (sym f) (skip at slot here below) in
      (near_same s t n (r 17) (r 20) (r 21) (r 22) (r 23), subst InCode (sym h.onward) (either (branch_holds op (s.register rs1) (s.register rs2)) (plus at imm) (following at) two (follows at slot here lt)))
  tame (Lui rd imm) e f lt straight h = absurd f
  tame (Auipc rd imm) e f lt straight h = absurd f
  tame (Jal rd imm) e f lt straight h = absurd f
  tame (Jalr rd rs1 imm) e f lt straight h = absurd f
  tame (Amo op rd rs1 rs2) e f lt straight h = absurd f
  tame Fence e f lt straight h = absurd f
  tame Ecall e f lt straight h = absurd f
  tame Ebreak e f lt straight h = absurd f
  tame (Counter rd csr) e f lt straight h = absurd f

  lands : (image_end : ℕ) → HasEffect (Jalr 1 23 (pos 0)) image_end (of_word at next) s t → next ≡ 65800
  unfolding word
  lands e h = let target = n.target in h.onward ∙ (rw target refl)

  pub jump_lands : (instr : Instr) (image_end : ℕ) → slot ≡ 64 → IsPlaced slot instr → HasEffect instr image_end (of_word at next) s t → next ≡ 65800
  jump_lands instr e is p h = lands e (subst (λ (i : Instr). HasEffect i e (of_word at next) s t) (p.jump is) h)

  fixed_jump : (image_end : ℕ) → HasEffect (Jalr 1 23 (pos 0)) image_end (of_word at next) s t → Next t next
  unfolding word
  fixed_jump e h =
      let onto : next ≡ 65800 = lands e h in
      (near_sets 1 _ s t n h.link (λ e. omega arith) (λ e. omega arith) (λ e. omega arith) (λ e. omega arith) (λ e. omega arith), (66, omega arith, omega arith))

  fixed_number : (image_end : ℕ) → s.register 0 ≡ 0 → slot < 255 → HasEffect (Imm Addi 17 0 (pos 172)) image_end (of_word at next) s t → Next t next
  unfolding word
  fixed_number e none lt h =
      let w = h.result in
      let v : t.register 17 ≡ 172 = w.written (λ e. omega arith) ∙ (rw none refl) in (
        record {
          number = v;
          place = w.others 20 (λ e. omega arith) ∙ n.place;
          offset = (let c : t.register 21 ≡ s.register 21 = w.others 21 (λ e. omega arith) in let o = n.offset in omega arith);
          far = n.far;
          reached = w.others 22 (λ e. omega arith) ∙ n.reached;
          few = n.few;
          target = w.others 23 (λ e. omega arith) ∙ n.target;
        },
        onward h.onward lt,
      )

  fixed_call : (image_end : ℕ) → slot < 255 → HasEffect Ecall image_end (of_word at next) s t → Next t next
  fixed_call e lt h =
      let o = h.others in
      (near_same s t n (o 17 (λ e. omega arith)) (o 20 (λ e. omega arith)) (o 21 (λ e. omega arith)) (o 22 (λ e. omega arith)) (o 23 (λ e. omega arith)), onward h.onward lt)

  fixed_back : (image_end : ℕ) → slot ≡ 255 → HasEffect (Jal 0 (negsuc 1019)) image_end (of_word at next) s t → Next t next
  unfolding word
  fixed_back e last h =
      let onto = h.onward in
      let there : at ≡ 66556 = omega arith in
      let zero : next ≡ 65536 = onto ∙ (rw there refl) in
      (near_sets 0 _ s t n h.link (λ e. omega arith) (λ e. omega arith) (λ e. omega arith) (λ e. omega arith) (λ e. omega arith), (0, omega arith, omega arith))

  pub near_step : (instr : Instr) (image_end : ℕ) → slot < 256 → s.register 0 ≡ 0 → IsPlaced slot instr → HasEffect instr image_end (of_word at next) s t → Next t next
  near_step instr e below none p h = elim (cases_eq slot 64) [
    | inl x ↦ fixed_jump e (subst (λ (i : Instr). HasEffect i e (of_word at next) s t) (p.jump x) h)
    | inr a ↦ elim (cases_eq slot 191) [
      | inl x ↦ fixed_number e none (omega arith) (subst (λ (i : Instr). HasEffect i e (of_word at next) s t) (p.number x) h)
      | inr b ↦ elim (cases_eq slot 192) [
        | inl x ↦ fixed_call e (omega arith) (subst (λ (i : Instr). HasEffect i e (of_word at next) s t) (p.call x) h)
        | inr c ↦ elim (cases_eq slot 255) [
          | inl x ↦ fixed_back e x (subst (λ (i : Instr). HasEffect i e (of_word at next) s t) (p.back x) h)
          | inr d ↦ tame instr e (p.tame a b c d) (omega arith) p.straight h
        ]
      ]
    ]
  ]
