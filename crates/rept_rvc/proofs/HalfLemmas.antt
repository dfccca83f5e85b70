-- What is read from a half is what it spells.
use Rattle.std.specs.Prelude.{◌≡◌, ℕ, zero, suc, ◌+◌, ◌-◌, ◌*◌, ◌^◌, ◌<◌, ◌==◌, Bool, true, false, nat_lt, if◌then◌else◌, pos, negsuc, Option, Some, None, IfSome, IfNone}
use Rattle.std.proofs.Common.{arith, refl, subst}
use Rattle.std.proofs.lemmas.Bool.Decides.{nat_tests}
use Rattle.rept_isa.specs.declared.instr.Instr.{Instr}
use Rattle.rept_isa.specs.Numbers.{word}
use Rattle.rept_isa.specs.Words.{field}
use Rattle.rept_rvc.specs.Halves.{quadrant, function, rd_field, rs2_field, rs1_popular, rs2_popular, addi4spn_immediate, word_offset, lwsp_offset, swsp_offset, addi16sp_immediate, lui_immediate, StandsAt, IsShift, IsMoveHalf, IsHalf}
use Rattle.rept_rvc.specs.Halves.IsHalf.{c_addi4spn, c_lw, c_sw, c_addi, c_jal, c_li, c_addi16sp, c_lui, c_srli, c_srai, c_andi, c_sub, c_xor, c_or, c_and, c_j, c_beqz, c_bnez, c_slli, c_lwsp, c_jr, c_mv, c_ebreak, c_jalr, c_add, c_swsp}
use Rattle.rept_isa.specs.declared.instr.Instr.TheVariants.{Lui, Jalr, Load, Store, Imm, Op, Ebreak}
use Rattle.rept_isa.specs.declared.instr.LoadOp.TheVariants.{Lw}
use Rattle.rept_isa.specs.declared.instr.StoreOp.TheVariants.{Sw}
use Rattle.rept_isa.specs.declared.instr.ImmOp.{ImmOp}
use Rattle.rept_isa.specs.declared.instr.ImmOp.TheVariants.{Addi, Slli, Srli, Srai}
use Rattle.rept_isa.specs.declared.instr.RegOp.TheVariants.{Add}
use Rattle.rept_rvc.specs.Reading.{read_by, read_zero, read_one, read_two, read_addi4spn, read_upper, read_kind, read_shift, read_register, read_slli, read_lwsp, read_move, read_jump, read_linked, operation_named, six_bits}

-- a choice by a test of two numbers
choose_by : (P : Instr → Type 0) (a b : ℕ) (x y : Option Instr) (t : Bool) → (a == b) ≡ t → (a ≡ b → IfSome x P) → (¬ (a ≡ b) → IfSome y P) → IfSome (if t then x else y) P
choose_by P a b x y true e same other = same (grind (arith, nat_tests))
choose_by P a b x y false e same other = other (λ k. absurd (grind (arith, nat_tests)))

choose : (P : Instr → Type 0) (a b : ℕ) (x y : Option Instr) → (a ≡ b → IfSome x P) → (¬ (a ≡ b) → IfSome y P) → IfSome (if a == b then x else y) P
choose P a b x y same other = choose_by P a b x y (a == b) refl same other

-- where the immediates of C.ADDI16SP and C.LUI are 0
signed_is_zero : (bound n : ℕ) (b : Bool) → nat_lt n bound ≡ b → (if b then pos n else negsuc (2 * bound - suc n)) ≡ pos 0 → n ≡ 0
signed_is_zero bound n true e h = cc
signed_is_zero bound n false e h = cc

no_immediate_16 : (half : ℕ) → addi16sp_immediate half ≡ pos 0 → six_bits half ≡ 0
no_immediate_16 half h =
    let n : ℕ = 2 ^ 4 * field half 6 1 + 2 ^ 5 * field half 2 1 + 2 ^ 6 * field half 5 1 + 2 ^ 7 * field half 3 2 + 2 ^ 9 * field half 12 1 in
    let e : 2 ^ 4 * field half 6 1 + 2 ^ 5 * field half 2 1 + 2 ^ 6 * field half 5 1 + 2 ^ 7 * field half 3 2 + 2 ^ 9 * field half 12 1 ≡ 0 = signed_is_zero (2 ^ 9) n (nat_lt n (2 ^ 9)) refl h in
    omega arith

word_is_zero : (bound n : ℕ) (b : Bool) → nat_lt n bound ≡ b → n < 2 * bound → 2 * bound < 2 ^ 32 → word (if b then pos n else negsuc (2 * bound - suc n)) ≡ 0 → n ≡ 0
unfolding word
word_is_zero bound n true e fits small h = omega arith
word_is_zero bound n false e fits small h = omega arith

no_immediate_lui : (half : ℕ) → lui_immediate half ≡ 0 → six_bits half ≡ 0
no_immediate_lui half h =
    let n : ℕ = 2 ^ 12 * field half 2 5 + 2 ^ 17 * field half 12 1 in
    let e : 2 ^ 12 * field half 2 5 + 2 ^ 17 * field half 12 1 ≡ 0 = word_is_zero (2 ^ 17) n (nat_lt n (2 ^ 17)) refl (omega arith) (omega arith) h in
    omega arith

addi4spn : (half : ℕ) → StandsAt half 0 0 → IfSome (read_addi4spn half) (IsHalf half)
addi4spn half at = choose (IsHalf half) (addi4spn_immediate half) 0 None (Some (Imm Addi (rs2_popular half) 2 (pos (addi4spn_immediate half)))) (λ e. tt) (λ some. c_addi4spn at some refl)

zero_ : (half f : ℕ) → StandsAt half 0 f → IfSome (read_zero f half) (IsHalf half)
zero_ half f at =
    let lw : Instr = Load Lw (rs2_popular half) (rs1_popular half) (pos (word_offset half)) in
    let sw : Instr = Store Sw (rs1_popular half) (rs2_popular half) (pos (word_offset half)) in
    let at_f = λ (n : ℕ) (e : f ≡ n). subst (λ m. StandsAt half 0 m) e at in
    choose (IsHalf half) f 0 (read_addi4spn half) (if f == 2 then Some lw else if f == 6 then Some sw else None) (λ e. addi4spn half (at_f 0 e)) (λ a.
    choose (IsHalf half) f 2 (Some lw) (if f == 6 then Some sw else None) (λ e. c_lw (at_f 2 e) refl) (λ b.
    choose (IsHalf half) f 6 (Some sw) None (λ e. c_sw (at_f 6 e) refl) (λ c. tt)))

upper : (half : ℕ) → StandsAt half 1 3 → IfSome (read_upper half) (IsHalf half)
upper half at =
    let sum : Instr = Imm Addi (rd_field half) (rd_field half) (addi16sp_immediate half) in
    let lui : Instr = Lui (rd_field half) (lui_immediate half) in
    choose (IsHalf half) (six_bits half) 0 None (if rd_field half == 2 then Some sum else Some lui) (λ e. tt) (λ some.
    choose (IsHalf half) (rd_field half) 2 (Some sum) (Some lui)
    (λ two. c_addi16sp at two (λ e. some (no_immediate_16 half e)) (rw two refl))
    (λ other. c_lui at other (λ e. some (no_immediate_lui half e)) refl))

named : (half k : ℕ) → field half 5 2 ≡ k → k < 4 → IsShift half 3 → field half 12 1 ≡ 0 → IsHalf half (Op (operation_named k) (rs1_popular half) (rs1_popular half) (rs2_popular half))
named half zero e small at low = c_sub (at, low, e) refl
named half (suc zero) e small at low = c_xor (at, low, e) refl
named half (suc (suc zero)) e small at low = c_or (at, low, e) refl
named half (suc (suc (suc zero))) e small at low = c_and (at, low, e) refl
named half (suc (suc (suc (suc k)))) e small at low = absurd (omega arith)

register : (half : ℕ) → IsShift half 3 → IfSome (read_register half) (IsHalf half)
register half at =
    choose (IsHalf half) (field half 12 1) 0 (Some (Op (operation_named (field half 5 2)) (rs1_popular half) (rs1_popular half) (rs2_popular half))) None
    (λ low. named half (field half 5 2) refl (omega arith) at low) (λ high. tt)

shift : (op : ImmOp) (half : ℕ) → (field half 12 1 ≡ 0 → IsHalf half (Imm op (rs1_popular half) (rs1_popular half) (pos (field half 2 5)))) → IfSome (read_shift op half) (IsHalf half)
shift op half is = choose (IsHalf half) (field half 12 1) 0 (Some (Imm op (rs1_popular half) (rs1_popular half) (pos (field half 2 5)))) None is (λ high. tt)

kind : (half k : ℕ) → field half 10 2 ≡ k → k < 4 → StandsAt half 1 4 → IfSome (read_kind k half) (IsHalf half)
kind half zero e small at = shift Srli half (λ low. c_srli (at, e) low refl)
kind half (suc zero) e small at = shift Srai half (λ low. c_srai (at, e) low refl)
kind half (suc (suc zero)) e small at = c_andi (at, e) refl
kind half (suc (suc (suc zero))) e small at = register half (at, e)
kind half (suc (suc (suc (suc k)))) e small at = absurd (omega arith)

one : (half f : ℕ) → f < 8 → StandsAt half 1 f → IfSome (read_one f half) (IsHalf half)
one half zero small at = c_addi at refl
one half (suc zero) small at = c_jal at refl
one half (suc (suc zero)) small at = c_li at refl
one half (suc (suc (suc zero))) small at = upper half at
one half (suc (suc (suc (suc zero)))) small at = kind half (field half 10 2) refl (omega arith) at
one half (suc (suc (suc (suc (suc zero))))) small at = c_j at refl
one half (suc (suc (suc (suc (suc (suc zero)))))) small at = c_beqz at refl
one half (suc (suc (suc (suc (suc (suc (suc zero))))))) small at = c_bnez at refl
one half (suc (suc (suc (suc (suc (suc (suc (suc f)))))))) small at = absurd (omega arith)

slli : (half : ℕ) → StandsAt half 2 0 → IfSome (read_slli half) (IsHalf half)
slli half at = choose (IsHalf half) (field half 12 1) 0 (Some (Imm Slli (rd_field half) (rd_field half) (pos (field half 2 5)))) None (λ low. c_slli at low refl) (λ high. tt)

lwsp : (half : ℕ) → StandsAt half 2 2 → IfSome (read_lwsp half) (IsHalf half)
lwsp half at = choose (IsHalf half) (rd_field half) 0 None (Some (Load Lw (rd_field half) 2 (pos (lwsp_offset half)))) (λ e. tt) (λ some. c_lwsp at some refl)

jump : (half link : ℕ) → link < 2 → IsMoveHalf half link → rs2_field half ≡ 0 → IfSome (read_jump link half) (IsHalf half)
jump half zero small at none = choose (IsHalf half) (rd_field half) 0 None (Some (Jalr 0 (rd_field half) (pos 0))) (λ e. tt) (λ some. c_jr at some none refl)
jump half (suc zero) small at none = choose (IsHalf half) (rd_field half) 0 (Some Ebreak) (Some (Jalr 1 (rd_field half) (pos 0))) (λ e. c_ebreak at e none refl) (λ some. c_jalr at some none refl)
jump half (suc (suc k)) small at none = absurd (omega arith)

linked : (half link : ℕ) → link < 2 → IsMoveHalf half link → IfSome (read_linked link half) (IsHalf half)
linked half zero small at = choose (IsHalf half) (rs2_field half) 0 (read_jump 0 half) (Some (Op Add (rd_field half) 0 (rs2_field half))) (λ none. jump half 0 small at none) (λ some. c_mv at some refl)
linked half (suc zero) small at = choose (IsHalf half) (rs2_field half) 0 (read_jump 1 half) (Some (Op Add (rd_field half) (rd_field half) (rs2_field half))) (λ none. jump half 1 small at none) (λ some. c_add at some refl)
linked half (suc (suc k)) small at = absurd (omega arith)

two : (half f : ℕ) → StandsAt half 2 f → IfSome (read_two f half) (IsHalf half)
two half f at =
    let sw : Instr = Store Sw 2 (rs2_field half) (pos (swsp_offset half)) in
    let at_f = λ (n : ℕ) (e : f ≡ n). subst (λ m. StandsAt half 2 m) e at in
    choose (IsHalf half) f 0 (read_slli half) (if f == 2 then read_lwsp half else if f == 4 then read_move half else if f == 6 then Some sw else None) (λ e. slli half (at_f 0 e)) (λ a.
    choose (IsHalf half) f 2 (read_lwsp half) (if f == 4 then read_move half else if f == 6 then Some sw else None) (λ e. lwsp half (at_f 2 e)) (λ b.
    choose (IsHalf half) f 4 (read_move half) (if f == 6 then Some sw else None) (λ e. linked half (field half 12 1) (omega arith) (at_f 4 e, refl)) (λ c.
    choose (IsHalf half) f 6 (Some sw) None (λ e. c_swsp (at_f 6 e) refl) (λ d. tt))))

pub spells : (half : ℕ) → IfSome (read_by (quadrant half) (function half) half) (IsHalf half)
spells half =
    let q : ℕ = quadrant half in
    let f : ℕ = function half in
    let small : f < 8 = omega arith in
    choose (IsHalf half) q 0 (read_zero f half) (if q == 1 then read_one f half else if q == 2 then read_two f half else None) (λ e. zero_ half f (e, refl)) (λ a.
    choose (IsHalf half) q 1 (read_one f half) (if q == 2 then read_two f half else None) (λ e. one half f small (e, refl)) (λ b.
    choose (IsHalf half) q 2 (read_two f half) None (λ e. two half f (e, refl)) (λ c. tt)))

pub none_spelled : (half : ℕ) (r : Option Instr) → ((i : Instr) → IsHalf half i → r ≡ Some i) → IfNone r ((i : Instr) → IsHalf half i → ⊥)
none_spelled half None only = λ i h. let e : None ≡ Some i = only i h in cc
none_spelled half (Some j) only = tt
