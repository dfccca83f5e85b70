-- The result of an instruction is among the values that follow from its operands.
use Rattle.std.proofs.Common.{◌≡◌, ◌≢◌, ℕ, zero, suc, ◌-◌, ◌^◌, ◌<◌, ◌⊎◌, true, false, inl, inr, refl, sym, ap, ◌∙◌, Bool, ◌==◌, if◌then◌else◌, arith, Some, None, bit_or, ℤ, pos, negsuc}
use Rattle.std.specs.Int.Bits.{and_zero_l, and_zero_r, xor_self}
use Rattle.std.proofs.lemmas.Bool.Decides.{nat_tests}
use Rattle.std.proofs.lemmas.Nat.{or_comm, and_or_self, and_mask, or_of_32}
use Rattle.std.proofs.Math.Nat.{mod-eq_of_lt}
use Rattle.rept_isa.specs.declared.instr.Instr.{Instr}
use Rattle.rept_isa.specs.declared.instr.Instr.TheVariants.{Lui, Auipc, Jal, Jalr, Branch, Load, Store, Imm, Op, Amo, Fence, Ecall, Ebreak, Counter}
use Rattle.rept_isa.specs.declared.instr.RegOp.{RegOp}
use Rattle.rept_isa.specs.declared.instr.RegOp.TheVariants.{Sub, Xor, Or, And, Mul}
use Rattle.rept_isa.specs.Numbers.{word}
use Rattle.rept_isa.specs.Operands.{written_by, first_read, second_read, unless_zero}
use Rattle.rept_isa.specs.Rows.{Addresses}
use Rattle.rept_partial.specs.declared.flat.Flat.{Flat}
use Rattle.rept_partial.specs.declared.flat.Flat.TheVariants.{Unknown, Known}
use Rattle.rept_machine.specs.Arithmetic.{computed, register_form}
use Rattle.rept_machine.specs.State.{State, IsState}
use Rattle.rept_machine.specs.Step.{HasEffect}
use Rattle.rept_rules.specs.Results.{operand, absorbs, cancels, result_of, registers_result, forward_of, Admits, HoldsIn}

pub word_fits : (z : ℤ) → word z < 2 ^ 32
unfolding word
word_fits (pos n) = omega arith
word_fits (negsuc n) = omega arith

pub true≢false : true ≡ false → ⊥
true≢false e = cc

pub either_way : (b : Bool) → (b ≡ true) ⊎ (b ≡ false)
either_way true = inl refl
either_way false = inr refl

pub equal : (a b : ℕ) → (a == b) ≡ true → a ≡ b
equal a b t = grind (arith, t)

-- a number over 0 isn't 0
pub over_zero : (n : ℕ) → (suc n == 0) ≡ false
over_zero n = grind (arith, nat_tests)

pub no_some : {A : Type 0} {x : A} → None ≡ Some x → ⊥
no_some e = cc

pub same_some : {A : Type 0} {x y : A} → Some x ≡ Some y → x ≡ y
same_some e = cc

-- a destination other than x0
pub destination : (n r : ℕ) → unless_zero n ≡ Some r → (n ≡ r) × (n ≢ 0)
destination zero r e = absurd (no_some e)
destination (suc n) r e = (same_some (rw (over_zero n) at e), λ z. omega (arith, z))

-- x0 is 0
pub operand_holds : (s : State) (r : ℕ) (given : Flat) → IsState s → Admits given (s.register r) → Admits (operand r given) (s.register r)
operand_holds s zero given is h = is.zero
operand_holds s (suc r) given is h = rw (over_zero r) h

or_ones_right : (a : ℕ) → a < 2 ^ 32 → bit_or a (2 ^ 32 - 1) ≡ 2 ^ 32 - 1
or_ones_right a small =
    let fits : bit_or a (2 ^ 32 - 1) < 2 ^ 32 = or_of_32 a (2 ^ 32 - 1) small (omega arith) in
    sym (mod-eq_of_lt fits) ∙ sym (and_mask (bit_or a (2 ^ 32 - 1)) 32) ∙ and_or_self (2 ^ 32 - 1) a

or_ones_left : (b : ℕ) → b < 2 ^ 32 → bit_or (2 ^ 32 - 1) b ≡ 2 ^ 32 - 1
or_ones_left b small = or_comm (2 ^ 32 - 1) b ∙ or_ones_right b small

-- an operand that decides
absorbed_by : (b : Bool) (a v : ℕ) → (b ≡ true → v ≡ a) → Admits (if b then Known a else Unknown) v
absorbed_by true a v h = h refl
absorbed_by false a v h = tt

pub decides_first : (op : RegOp) (a b : ℕ) → b < 2 ^ 32 → absorbs op a ≡ true → computed op a b ≡ a
decides_first And a b small t = let e : a ≡ 0 = equal a 0 t in rw e (and_zero_l b)
decides_first Or a b small t = let e : a ≡ 2 ^ 32 - 1 = equal a (2 ^ 32 - 1) t in rw e (or_ones_left b small)
decides_first Mul a b small t = let e : a ≡ 0 = equal a 0 t in rw e (omega arith)
decides_first _ a b small t = absurd (true≢false (sym t))

pub decides_second : (op : RegOp) (a b : ℕ) → a < 2 ^ 32 → absorbs op b ≡ true → computed op a b ≡ b
decides_second And a b small t = let e : b ≡ 0 = equal b 0 t in rw e (and_zero_r a)
decides_second Or a b small t = let e : b ≡ 2 ^ 32 - 1 = equal b (2 ^ 32 - 1) t in rw e (or_ones_right a small)
decides_second Mul a b small t = let e : b ≡ 0 = equal b 0 t in rw e (omega arith)
decides_second _ a b small t = absurd (true≢false (sym t))

result_sound : (op : RegOp) (x y : Flat) (a b : ℕ) → a < 2 ^ 32 → b < 2 ^ 32 → Admits x a → Admits y b → Admits (result_of op x y) (computed op a b)
result_sound op (Known v) (Known w) a b small fits f g = rw (f, g) refl
result_sound op (Known v) Unknown a b small fits f g = rw (← f) (absorbed_by (absorbs op a) a (computed op a b) (decides_first op a b fits))
result_sound op Unknown (Known w) a b small fits f g = rw (← g) (absorbed_by (absorbs op b) b (computed op a b) (decides_second op a b small))
result_sound op Unknown Unknown a b small fits f g = tt

pub cancelled : (op : RegOp) (rs1 rs2 : ℕ) (s : State) → IsState s → cancels op rs1 rs2 ≡ true → computed op (s.register rs1) (s.register rs2) ≡ 0
cancelled Sub rs1 rs2 s is t = let e : rs1 ≡ rs2 = equal rs1 rs2 t in let w = is.words rs2 in rw e (omega arith)
cancelled Xor rs1 rs2 s is t = let e : rs1 ≡ rs2 = equal rs1 rs2 t in rw e (xor_self (s.register rs2))
cancelled _ rs1 rs2 s is t = absurd (true≢false (sym t))

registers_by : (b : Bool) (x : Flat) (v : ℕ) → (b ≡ true → v ≡ 0) → Admits x v → Admits (if b then Known 0 else x) v
registers_by true x v f g = f refl
registers_by false x v f g = g

registers_sound : (op : RegOp) (rs1 rs2 : ℕ) (s : State) (a b : Flat) → IsState s → Admits a (s.register rs1) → Admits b (s.register rs2) → Admits (registers_result op rs1 rs2 a b) (computed op (s.register rs1) (s.register rs2))
registers_sound op rs1 rs2 s a b is f g = registers_by (cancels op rs1 rs2) (result_of op (operand rs1 a) (operand rs2 b)) _ (cancelled op rs1 rs2 s is) (result_sound op (operand rs1 a) (operand rs2 b) _ _ (is.words rs1) (is.words rs2) (operand_holds s rs1 a is f) (operand_holds s rs2 b is g))

pub forward_sound : (instr : Instr) (image_end rd : ℕ) (place : Addresses) (s t : State) (a b : Flat) → IsState s → HasEffect instr image_end place s t → HoldsIn s (first_read instr) a → HoldsIn s (second_read instr) b → written_by instr ≡ Some rd → Admits (forward_of instr place.from a b) (t.register rd)
forward_sound (Lui n imm) image_end rd place s t a b is h f g w = let d = destination n rd w in rw (← d.0) (h.result.written d.1)
forward_sound (Auipc n imm) image_end rd place s t a b is h f g w = let d = destination n rd w in rw (← d.0) (h.result.written d.1)
forward_sound (Jal n imm) image_end rd place s t a b is h f g w = let d = destination n rd w in rw (← d.0) (h.link.written d.1)
forward_sound (Jalr n rs1 imm) image_end rd place s t a b is h f g w = let d = destination n rd w in rw (← d.0) (h.link.written d.1)
forward_sound (Branch op rs1 rs2 imm) image_end rd place s t a b is h f g w = tt
forward_sound (Load op n rs1 imm) image_end rd place s t a b is h f g w = tt
forward_sound (Store op rs1 rs2 imm) image_end rd place s t a b is h f g w = tt
forward_sound (Imm op n rs1 imm) image_end rd place s t a b is h f g w =
    let d = destination n rd w in
    let e : t.register rd ≡ computed (register_form op) (s.register rs1) (word imm) = ap t.register (sym d.0) ∙ h.result.written d.1 in
    rw e (result_sound (register_form op) (operand rs1 a) (Known (word imm)) (s.register rs1) (word imm) (is.words rs1) (word_fits imm) (operand_holds s rs1 a is f) refl)
forward_sound (Op op n rs1 rs2) image_end rd place s t a b is h f g w =
    let d = destination n rd w in
    let e : t.register rd ≡ computed op (s.register rs1) (s.register rs2) = ap t.register (sym d.0) ∙ h.result.written d.1 in
    rw e (registers_sound op rs1 rs2 s a b is f g)
forward_sound (Amo op q rs1 rs2) image_end rd place s t a b is h f g w = tt
forward_sound Fence image_end rd place s t a b is h f g w = tt
forward_sound Ecall image_end rd place s t a b is h f g w = tt
forward_sound Ebreak image_end rd place s t a b is h f g w = tt
forward_sound (Counter n csr) image_end rd place s t a b is h f g w = tt
