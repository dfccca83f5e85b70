-- An operand that follows from the result is the operand.
use Rattle.std.proofs.Common.{◌≡◌, ℕ, ◌-◌, ◌*◌, ◌%◌, ◌^◌, ◌<◌, ◌⊎◌, true, false, inl, inr, refl, sym, ap, subst, ◌∙◌, Bool, ◌==◌, if◌then◌else◌, arith, Option, Some, None, ℤ, pos, negsuc}
use Rattle.std.specs.Prelude.{bit_xor}
use Rattle.std.specs.Int.{int_shr}
use Rattle.std.specs.Int.Bits.{xor_self, xor_zero_r, xor_assoc, and_self, or_self, or_zero_l, or_zero_r}
use Rattle.std.proofs.lemmas.Nat.{and_mask, xor_comm}
use Rattle.std.proofs.lemmas.Bool.Decides.{nat_tests}
use Rattle.std.proofs.Math.Nat.{mod-eq_of_lt, mul_comm}
use Rattle.rept_isa.specs.declared.instr.Instr.{Instr}
use Rattle.rept_isa.specs.declared.instr.Instr.TheVariants.{Lui, Auipc, Jal, Jalr, Branch, Load, Store, Imm, Op, Amo, Fence, Ecall, Ebreak, Counter}
use Rattle.rept_isa.specs.declared.instr.ImmOp.{ImmOp}
use Rattle.rept_isa.specs.declared.instr.ImmOp.TheVariants.{Ori, Andi, Slli, Srli, Srai}
use Rattle.rept_isa.specs.declared.instr.RegOp.{RegOp}
use Rattle.rept_isa.specs.declared.instr.RegOp.TheVariants.{Add, Sub, Xor, Or, And, Mul}
use Rattle.rept_isa.specs.Numbers.{word}
use Rattle.rept_isa.specs.Operands.{written_by}
use Rattle.rept_isa.specs.Rows.{Addresses}
use Rattle.rept_partial.specs.declared.flat.Flat.{Flat}
use Rattle.rept_partial.specs.declared.flat.Flat.TheVariants.{Unknown, Known}
use Rattle.rept_machine.specs.Arithmetic.{computed, register_form, signed_word}
use Rattle.rept_machine.specs.State.{State, IsState}
use Rattle.rept_machine.specs.Step.{HasEffect}
use Rattle.rept_rules.specs.declared.operand.Side.{Side}
use Rattle.rept_rules.specs.declared.operand.Side.TheVariants.{First, Second}
use Rattle.rept_rules.specs.Inverse.{inverse}
use Rattle.rept_rules.specs.Results.{operand, Admits, HoldsIn}
use Rattle.rept_rules.specs.Operands.{solved, solved_by, is_neutral, copied_register, on, opposite, if_copied, first_known, immediate_solved, registers_solved, solve_of, operand_of}
use Rattle.rept_rules.specs.Laws.InverseLemmas.{inverse-is, undone}
use Rattle.rept_rules.specs.Laws.ValueLemmas.{word_fits, true≢false, either_way, equal, no_some, same_some, destination, operand_holds}

pub known : {x y : ℕ} → Known x ≡ Known y → x ≡ y
known e = cc

pub unknown : {x : ℕ} → Unknown ≡ Known x → ⊥
unknown e = cc

pub xor_back : (a b : ℕ) → bit_xor (bit_xor a b) b ≡ a
xor_back a b = xor_assoc a b b ∙ ap (λ (n : ℕ). bit_xor a n) (xor_self b) ∙ xor_zero_r a

pub xor_back_left : (a b : ℕ) → bit_xor (bit_xor a b) a ≡ b
xor_back_left a b = ap (λ (n : ℕ). bit_xor n a) (xor_comm a b) ∙ xor_back b a

odd_only : (b : Bool) (x w : ℕ) → (if b then Known x else Unknown) ≡ Known w → (b ≡ true) × (x ≡ w)
odd_only true x w e = (refl, known e)
odd_only false x w e = absurd (unknown e)

-- the operand on a side is one of the two
abbrev chosen : Side → ℕ → ℕ → ℕ
chosen First a b = a
chosen Second a b = b

solved_is : (op : RegOp) (side : Side) (a b w : ℕ) → a < 2 ^ 32 → b < 2 ^ 32 → solved op side (computed op a b) (chosen (opposite side) a b) ≡ Known w → chosen side a b ≡ w
solved_is Add First a b w small fits e = let k = known e in omega arith
solved_is Add Second a b w small fits e = let k = known e in omega arith
solved_is Sub First a b w small fits e = let k = known e in omega arith
solved_is Sub Second a b w small fits e = let k = known e in omega arith
solved_is Xor First a b w small fits e = sym (xor_back a b) ∙ known e
solved_is Xor Second a b w small fits e = sym (xor_back_left a b) ∙ known e
solved_is Mul First a b w small fits e = let o = odd_only (b % 2 == 1) _ w e in sym (ap (λ (n : ℕ). n % 2 ^ 32 * inverse b % 2 ^ 32) (mul_comm a b) ∙ undone a b (inverse b) small (inverse-is b (equal (b % 2) 1 o.0))) ∙ o.1
solved_is Mul Second a b w small fits e = let o = odd_only (a % 2 == 1) _ w e in sym (undone b a (inverse a) fits (inverse-is a (equal (a % 2) 1 o.0))) ∙ o.1
solved_is _ side a b w small fits e = absurd (unknown e)

unshifted : (z : ℤ) → int_shr z 0 ≡ z
unshifted (pos n) = ap pos (omega arith)
unshifted (negsuc n) = ap negsuc (omega arith)

signed_back : (a : ℕ) → a < 2 ^ 32 → word (signed_word a) ≡ a
unfolding word
signed_back a small = grind (arith, nat_tests, small)

shifted_by_none : (a : ℕ) → a < 2 ^ 32 → word (int_shr (signed_word a) 0) ≡ a
shifted_by_none a small = ap word (unshifted (signed_word a)) ∙ signed_back a small

pub neutral_is : (op : ImmOp) (imm : ℤ) (a : ℕ) → a < 2 ^ 32 → is_neutral op imm ≡ true → computed (register_form op) a (word imm) ≡ a
neutral_is Slli imm a small t = let e : word imm ≡ 0 = equal (word imm) 0 t in rw e (omega arith)
neutral_is Srli imm a small t = let e : word imm ≡ 0 = equal (word imm) 0 t in rw e (omega arith)
neutral_is Srai imm a small t = let e : word imm ≡ 0 = equal (word imm) 0 t in rw e (shifted_by_none a small)
neutral_is Ori imm a small t = let e : word imm ≡ 0 = equal (word imm) 0 t in rw e (or_zero_r a)
neutral_is Andi imm a small t = let e : word imm ≡ 2 ^ 32 - 1 = equal (word imm) (2 ^ 32 - 1) t in rw e (and_mask a 32 ∙ mod-eq_of_lt small)
neutral_is _ imm a small t = absurd (true≢false (sym t))

pub copied_is : (op : RegOp) (rs1 rs2 r : ℕ) (s : State) → IsState s → copied_register op rs1 rs2 ≡ Some r → computed op (s.register rs1) (s.register rs2) ≡ s.register r
copied_is Or rs1 rs2 r s is e = elim (either_way (rs1 == rs2)) [
  | inl t ↦ let same = same_some (rw t at e) in let both = equal rs1 rs2 t in rw (← same, ← both) (or_self (s.register rs1))
  | inr f ↦ elim (either_way (rs1 == 0)) [
    | inl t ↦ let same = same_some (rw (f, t) at e) in let z = equal rs1 0 t in rw (← same, z, is.zero) (or_zero_l (s.register rs2))
    | inr g ↦ elim (either_way (rs2 == 0)) [
      | inl t ↦ let same = same_some (rw (f, g, t) at e) in let z = equal rs2 0 t in rw (← same, z, is.zero) (or_zero_r (s.register rs1))
      | inr h ↦ absurd (no_some (rw (f, g, h) at e))
    ]
  ]
]
copied_is And rs1 rs2 r s is e = elim (either_way (rs1 == rs2)) [
  | inl t ↦ let same = same_some (rw t at e) in let both = equal rs1 rs2 t in rw (← same, ← both) (and_self (s.register rs1))
  | inr f ↦ absurd (no_some (rw f at e))
]
copied_is _ rs1 rs2 r s is e = absurd (no_some e)

-- the operand that both a copy and an equation may give
first_is : (x y : Flat) (w : ℕ) → first_known x y ≡ Known w → (x ≡ Known w) ⊎ (y ≡ Known w)
first_is Unknown y w e = inr e
first_is (Known v) y w e = inl e

copy_is : (source : Option ℕ) (r v w : ℕ) → if_copied source r v ≡ Known w → (source ≡ Some r) × (v ≡ w)
copy_is None r v w e = absurd (unknown e)
copy_is (Some n) r v w e = elim (either_way (n == r)) [
  | inl t ↦ (ap Some (equal n r t), known (rw t at e))
  | inr f ↦ absurd (unknown (rw f at e))
]

by_other : (op : RegOp) (side : Side) (v w : ℕ) (other : Flat) (o : ℕ) → Admits other o → solved_by op side v other ≡ Known w → solved op side v o ≡ Known w
by_other op side v w Unknown o h e = absurd (unknown e)
by_other op side v w (Known k) o h e = rw h e

chosen_is : (side : Side) (rs1 rs2 : ℕ) (s : State) → chosen side (s.register rs1) (s.register rs2) ≡ s.register (on side rs1 rs2)
chosen_is First rs1 rs2 s = refl
chosen_is Second rs1 rs2 s = refl

pub registers_solved_is : (op : RegOp) (side : Side) (rs1 rs2 v w : ℕ) (other : Flat) (s : State) → IsState s → v ≡ computed op (s.register rs1) (s.register rs2) → Admits other (s.register (on (opposite side) rs1 rs2)) → registers_solved op side rs1 rs2 v other ≡ Known w → s.register (on side rs1 rs2) ≡ w
registers_solved_is op side rs1 rs2 v w other s is result h e = elim (first_is _ _ w e) [
  | inl f ↦ let k = copy_is (copied_register op rs1 rs2) (on side rs1 rs2) v w f in sym (copied_is op rs1 rs2 (on side rs1 rs2) s is k.0) ∙ sym result ∙ k.1
  | inr f ↦
      let g = by_other op side v w (operand (on (opposite side) rs1 rs2) other) (s.register (on (opposite side) rs1 rs2)) (operand_holds s (on (opposite side) rs1 rs2) other is h) f in
      sym (chosen_is side rs1 rs2 s) ∙ solved_is op side (s.register rs1) (s.register rs2) w (is.words rs1) (is.words rs2) (subst (λ (x : ℕ). solved op side x (chosen (opposite side) (s.register rs1) (s.register rs2)) ≡ Known w) result (subst (λ (x : ℕ). solved op side v x ≡ Known w) (sym (chosen_is (opposite side) rs1 rs2 s)) g))
]

pub immediate_solved_is : (op : ImmOp) (imm : ℤ) (v w a : ℕ) → a < 2 ^ 32 → v ≡ computed (register_form op) a (word imm) → immediate_solved op imm v ≡ Known w → a ≡ w
immediate_solved_is op imm v w a small result e = elim (either_way (is_neutral op imm)) [
  | inl t ↦ sym (neutral_is op imm a small t) ∙ sym result ∙ known (rw t at e)
  | inr f ↦ solved_is (register_form op) First a (word imm) w small (word_fits imm) (subst (λ (x : ℕ). solved (register_form op) First x (word imm) ≡ Known w) result (rw f at e))
]

pub solve_sound : (instr : Instr) (side : Side) (image_end : ℕ) (place : Addresses) (rd r v w : ℕ) (other : Flat) (s t : State) → IsState s → HasEffect instr image_end place s t → written_by instr ≡ Some rd → t.register rd ≡ v → operand_of instr side ≡ Some r → HoldsIn s (operand_of instr (opposite side)) other → solve_of instr side v other ≡ Known w → s.register r ≡ w
solve_sound (Imm op n rs1 imm) First image_end place rd r v w other s t is h named result read holds e =
    let d = destination n rd named in
    let value : v ≡ computed (register_form op) (s.register rs1) (word imm) = sym result ∙ ap t.register (sym d.0) ∙ h.result.written d.1 in
    ap s.register (sym (same_some read)) ∙ immediate_solved_is op imm v w (s.register rs1) (is.words rs1) value e
solve_sound (Imm op n rs1 imm) Second image_end place rd r v w other s t is h named result read holds e = absurd (unknown e)
solve_sound (Op op n rs1 rs2) First image_end place rd r v w other s t is h named result read holds e =
    let d = destination n rd named in
    let value : v ≡ computed op (s.register rs1) (s.register rs2) = sym result ∙ ap t.register (sym d.0) ∙ h.result.written d.1 in
    ap s.register (sym (same_some read)) ∙ registers_solved_is op First rs1 rs2 v w other s is value holds e
solve_sound (Op op n rs1 rs2) Second image_end place rd r v w other s t is h named result read holds e =
    let d = destination n rd named in
    let value : v ≡ computed op (s.register rs1) (s.register rs2) = sym result ∙ ap t.register (sym d.0) ∙ h.result.written d.1 in
    ap s.register (sym (same_some read)) ∙ registers_solved_is op Second rs1 rs2 v w other s is value holds e
solve_sound (Lui n imm) side image_end place rd r v w other s t is h named result read holds e = absurd (unknown e)
solve_sound (Auipc n imm) side image_end place rd r v w other s t is h named result read holds e = absurd (unknown e)
solve_sound (Jal n imm) side image_end place rd r v w other s t is h named result read holds e = absurd (unknown e)
solve_sound (Jalr n rs1 imm) side image_end place rd r v w other s t is h named result read holds e = absurd (unknown e)
solve_sound (Branch op rs1 rs2 imm) side image_end place rd r v w other s t is h named result read holds e = absurd (unknown e)
solve_sound (Load op n rs1 imm) side image_end place rd r v w other s t is h named result read holds e = absurd (unknown e)
solve_sound (Store op rs1 rs2 imm) side image_end place rd r v w other s t is h named result read holds e = absurd (unknown e)
solve_sound (Amo op q rs1 rs2) side image_end place rd r v w other s t is h named result read holds e = absurd (unknown e)
solve_sound Fence side image_end place rd r v w other s t is h named result read holds e = absurd (unknown e)
solve_sound Ecall side image_end place rd r v w other s t is h named result read holds e = absurd (unknown e)
solve_sound Ebreak side image_end place rd r v w other s t is h named result read holds e = absurd (unknown e)
solve_sound (Counter n csr) side image_end place rd r v w other s t is h named result read holds e = absurd (unknown e)
